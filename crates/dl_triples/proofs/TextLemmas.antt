-- Reading line by line gives the value of the whole, or its first fault.
use Rattle.std.proofs.Common.{◌≡◌, ℕ, ◌+◌, ◌<◌, ◌≤◌, Bool, true, false, nat_eq, List, [], ◌∷◌, ◌++◌, length, drop, get_or, Option, Some, None, Bor, refl, sym, ap, ◌∙◌, subst, append_assoc, append-nil, add-one, add-zero, zero-add, arith, length-append, drop-cons}
use borrow.Author.Tests.{eqb-true}
use Rattle.std.proofs.lemmas.List.{drop_all}
use Rattle.dl_names.specs.NameList.{Text}
use Rattle.dl_terms.specs.declared.axiom.Fact.{Fact}
use Rattle.dl_triples.specs.declared.fault.TripleFault.{TripleFault}
use Rattle.dl_triples.specs.declared.meaning.Meaning.{Meaning}
use Rattle.dl_triples.specs.declared.meaning.Meaning.TheVariants as meanings
use Rattle.dl_triples.specs.Lines.{is_line_byte, IsLine, IsLineEnd, cr_lf, lf, cr, AreLines, last, ended}
use Rattle.dl_triples.specs.Meaning.{meaning_of, skips}
use Rattle.dl_triples.specs.Reading.{Gives, nothing, triple, HasFault, AreRead, none, line, FirstFault, here, later, IsValue, IsFirstFault, HoldsFirst, HoldsPart}
use Rattle.dl_triples.specs.declared.line.Form.{Form}
use Rattle.dl_triples.specs.declared.reading.Triples.{Triples}
use Rattle.dl_triples.specs.Adding.{AddsLine}
use Rattle.dl_triples.specs.Parts.{LineThen, IsFirstLine, HasForm}
use Rattle.dl_triples.specs.Progress.{Read, AreCut, cut_none, cut_line}
use Rattle.dl_triples.proofs.SpelledLemmas.{first_same, not_empty}

-- ---- the bytes have lines

one_byte_more : {bytes : List ℕ} {lines : List (List ℕ)} (b : ℕ) → is_line_byte b ≡ true → AreLines bytes lines → (more : List (List ℕ)) × AreLines (b ∷ bytes) more
one_byte_more b h (last {line = whole} is) = ((b ∷ whole) ∷ [], last (rw h is))
one_byte_more b h (ended {line = part} {lines = lines} is end stands more) = ((b ∷ part) ∷ lines, ended (rw h is) end (ap (λ l. b ∷ l) stands) more)

goes : (b : ℕ) → nat_eq b 13 ≡ false → nat_eq b 10 ≡ false → is_line_byte b ≡ true
goes b no_cr no_lf = rw (no_cr, no_lf) refl

pub lines_of : (bytes : List ℕ) → (lines : List (List ℕ)) × AreLines bytes lines
lines_of [] = ([] ∷ [], last refl)
lines_of (b ∷ []) = by (nat_eq b 13) refl (nat_eq b 10) refl
  where
    by : (r : Bool) → nat_eq b 13 ≡ r → (n : Bool) → nat_eq b 10 ≡ n → (lines : List (List ℕ)) × AreLines (b ∷ []) lines
    by true at n _ = ([] ∷ [] ∷ [], ended refl (cr (λ more e. not_empty 10 more e)) (ap (λ c. c ∷ []) (eqb-true b 13 at)) (last refl))
    by false _ true at = ([] ∷ [] ∷ [], ended refl lf (ap (λ c. c ∷ []) (eqb-true b 10 at)) (last refl))
    by false no_cr false no_lf = one_byte_more b (goes b no_cr no_lf) (last refl)
lines_of (b ∷ d ∷ bytes) = by (nat_eq b 13) refl (nat_eq d 10) refl (nat_eq b 10) refl (lines_of (d ∷ bytes)) (lines_of bytes)
  where
    by : (r : Bool) → nat_eq b 13 ≡ r → (p : Bool) → nat_eq d 10 ≡ p → (n : Bool) → nat_eq b 10 ≡ n
        → (lines : List (List ℕ)) × AreLines (d ∷ bytes) lines → (lines : List (List ℕ)) × AreLines bytes lines → (lines : List (List ℕ)) × AreLines (b ∷ d ∷ bytes) lines
    by true at true at' n _ next behind = ([] ∷ behind.0, ended refl cr_lf (λ i. eqb-true b 13 at i ∷ eqb-true d 10 at' i ∷ bytes) behind.1)
    by true at false other n _ next behind = ([] ∷ next.0, ended refl (cr (λ more e. false_eq d other (first_same d 10 bytes more e))) (ap (λ c. c ∷ d ∷ bytes) (eqb-true b 13 at)) next.1)
      where
        false_eq : (d : ℕ) → nat_eq d 10 ≡ false → d ≡ 10 → ⊥
        false_eq d h e = let bad : nat_eq 10 10 ≡ false = ap (λ c. nat_eq c 10) (sym e) ∙ h in cc
    by false _ p _ true at next behind = ([] ∷ next.0, ended refl lf (ap (λ c. c ∷ d ∷ bytes) (eqb-true b 10 at)) next.1)
    by false no_cr p _ false no_lf next behind = one_byte_more b (goes b no_cr no_lf) next.1

-- the lines that begin with the first one
pub first_lines : (bytes first : List ℕ) (behind : Option (Bor (List ℕ))) → IsFirstLine bytes first behind → (more : List (List ℕ)) × AreLines bytes (first ∷ more)
first_lines bytes first None is = ([], subst (λ l. AreLines l (first ∷ [])) (sym is.ends) (last is.is_line))
first_lines bytes first (Some rest) is =
    let more = lines_of rest.now in
    (more.0, ended is.is_line is.ends.is is.ends.stands more.1)

-- what stands behind a line is shorter
pub behind_shorter : (bytes first rest : List ℕ) → LineThen bytes first rest → length rest < length bytes
behind_shorter bytes first rest then = by then.end then.is (ap length then.stands ∙ length-append first (then.end ++ rest))
  where
    by : (end : List ℕ) → IsLineEnd end rest → length bytes ≡ length first + length (end ++ rest) → length rest < length bytes
    by _ cr_lf e = omega (arith, e)
    by _ lf e = omega (arith, e)
    by _ (cr _) e = omega (arith, e)

-- ---- lines that are read

pub AreRead-push : {lines : List (List ℕ)} {names now next : List Text} {facts more : List Fact} {skipped count : ℕ} (one : List ℕ) → AreRead lines names facts skipped now → Gives one now more count next
    → AreRead (lines ++ one ∷ []) names (facts ++ more) (skipped + count) next
AreRead-push {names = names} {next = next} {more = more} {count = count} one none gives =
    let single : AreRead (one ∷ []) names (more ++ []) (count + 0) next = line gives none in
    let total : count + 0 ≡ 0 + count = add-zero count ∙ sym (zero-add count) in
    subst (λ (k : ℕ). AreRead (one ∷ []) names more k next) total (subst (λ l. AreRead (one ∷ []) names l (count + 0) next) (append-nil more) single)
AreRead-push {next = next} {more = more} {count = count} one (line {line = first} {lines = lines} {names = names} {facts = facts} {more = further} {skipped = skipped} {count = others} gives rest) last_gives =
    let longer : AreRead (first ∷ lines ++ one ∷ []) names (facts ++ (further ++ more)) (skipped + (others + count)) next = line gives (AreRead-push one rest last_gives) in
    let total : skipped + (others + count) ≡ (skipped + others) + count = omega arith in
    subst (λ (k : ℕ). AreRead (first ∷ lines ++ one ∷ []) names ((facts ++ further) ++ more) k next) total
    (subst (λ l. AreRead (first ∷ lines ++ one ∷ []) names l (skipped + (others + count)) next) (sym (append_assoc facts further more)) longer)

pub FirstFault-behind : {lines : List (List ℕ)} {names now : List Text} {facts : List Fact} {skipped : ℕ} (rest : List (List ℕ)) (n m : ℕ) (fault : TripleFault) → AreRead lines names facts skipped now
    → m ≡ n + length lines → FirstFault rest now m fault → FirstFault (lines ++ rest) names n fault
FirstFault-behind {names = names} rest n m fault none is first = subst (λ (k : ℕ). FirstFault rest names k fault) (is ∙ add-zero n) first
FirstFault-behind rest n m fault (line {line = one} {lines = lines} gives more) is first =
    later gives (FirstFault-behind rest (n + 1) m fault more (let e = is in omega (arith, e)) first)

-- a line skips at most one triple
pub skips_few : {one : List ℕ} {names after : List Text} {facts : List Fact} {skipped : ℕ} → Gives one names facts skipped after → skipped ≤ 1
skips_few (nothing _) = omega arith
skips_few (triple g) = few (meaning_of g.subject g.predicate g.object) g.counted
  where
    few : {skipped : ℕ} (m : Meaning) → skipped ≡ skips m → skipped ≤ 1
    few meanings.Skipped e = omega (arith, e)
    few meanings.NoEffect e = omega (arith, e)
    few meanings.Reserved e = omega (arith, e)
    few meanings.Class e = omega (arith, e)
    few meanings.Link e = omega (arith, e)

pub Read-first : (bytes : List ℕ) (names : List Text) → Read bytes bytes names names 1 [] 0
Read-first bytes names = record { done = []; cut = λ lines is. is; read = none; number = refl; few = omega arith; fits = omega arith }

module _ (bytes rest : List ℕ) (names now : List Text) (n : ℕ) (facts : List Fact) (skipped : ℕ) (read : Read bytes rest names now n facts skipped) (first : List ℕ) where
  -- the line is read, too
  pub Read-next : (behind : List ℕ) (next : List Text) (all more : List Fact) (total count : ℕ) → IsLine first → LineThen rest first behind → Gives first now more count next
      → all ≡ facts ++ more → total ≡ skipped + count → Read bytes behind names next (n + 1) all total
  Read-next behind next all more total count is_line then gives is counted = record {
    done = read.done ++ first ∷ [];
    cut = λ lines are.
        subst (AreLines bytes) (sym (append_assoc read.done (first ∷ []) lines)) (read.cut (first ∷ lines) (ended is_line then.is then.stands are));
    read =
        subst (λ (k : ℕ). AreRead (read.done ++ first ∷ []) names all k next) (sym counted)
        (subst (λ l. AreRead (read.done ++ first ∷ []) names l (skipped + count) next) (sym is) (AreRead-push first read.read gives));
    number = omega (arith, read.number, length-append read.done (first ∷ []));
    few = omega (arith, read.few, skips_few gives, counted);
    fits = omega (arith, read.fits, behind_shorter rest first behind then);
  }

  -- all is read
  pub Read-all : (next : List Text) (all more : List Fact) (total count : ℕ) → IsLine first → rest ≡ first → Gives first now more count next
      → all ≡ facts ++ more → total ≡ skipped + count → IsValue bytes names all total next
  Read-all next all more total count is_line ends gives is counted = record {
    lines = read.done ++ first ∷ [];
    cut = read.cut (first ∷ []) (subst (λ l. AreLines l (first ∷ [])) (sym ends) (last is_line));
    read =
        subst (λ (k : ℕ). AreRead (read.done ++ first ∷ []) names all k next) (sym counted)
        (subst (λ l. AreRead (read.done ++ first ∷ []) names l (skipped + count) next) (sym is) (AreRead-push first read.read gives));
  }

  module _ (behind : Option (Bor (List ℕ))) (is_first : IsFirstLine rest first behind) where
    -- the line has a fault, which is the first
    pub Read-fault : (fault : TripleFault) → HasFault first now n fault → IsFirstFault bytes names fault
    Read-fault fault has =
        let more = first_lines rest first behind is_first in
        record {
          lines = read.done ++ first ∷ more.0;
          cut = read.cut (first ∷ more.0) more.1;
          first = FirstFault-behind (first ∷ more.0) 1 n fault read.read read.number (here has);
        }

    pub Read-part : (held : List Text) → HoldsFirst first now held → HoldsPart bytes names held
    Read-part held holds =
        let more = first_lines rest first behind is_first in
        record {
          done = read.done;
          line = first;
          more = more.0;
          cut = read.cut (first ∷ more.0) more.1;
          facts = facts;
          skipped = skipped;
          middle = now;
          read = read.read;
          first = holds;
        }

-- names that some first lines leave are those of a part
pub Read-held : (bytes rest : List ℕ) (names now : List Text) (n : ℕ) (facts : List Fact) (skipped : ℕ) → Read bytes rest names now n facts skipped → HoldsPart bytes names now
Read-held bytes rest names now n facts skipped read = by (lines_of rest).0 (lines_of rest).1
  where
    by : (lines : List (List ℕ)) → AreLines rest lines → HoldsPart bytes names now
    by [] are = elim are [ ]
    by (one ∷ more) are = record { done = read.done; line = one; more = more; cut = read.cut (one ∷ more) are; facts = facts; skipped = skipped; middle = now; read = read.read; first = none }

-- ---- lines that are cut ahead

-- one more line is cut
pub AreCut-push : {bytes rest first behind : List ℕ} {forms : List Form} (form : Form) → AreCut bytes forms rest → IsLine first → LineThen rest first behind → HasForm first form → AreCut bytes (forms ++ form ∷ []) behind
AreCut-push form cut_none is then has = cut_line is then has cut_none
AreCut-push form (cut_line is' then' has' more) is then has = cut_line is' then' has' (AreCut-push form more is then has)

-- each line that is cut has its end
pub length-AreCut : {bytes rest : List ℕ} {forms : List Form} → AreCut bytes forms rest → length forms + length rest ≤ length bytes
length-AreCut cut_none = omega arith
length-AreCut (cut_line {bytes = bytes} {first = first} {behind = behind} is then has more) =
    omega (arith, length-AreCut more, behind_shorter bytes first behind then)

-- lines are read up to some that were cut ahead
pub record ReadsOn (bytes : List ℕ) (forms : List Form) (behind : List ℕ) (names now : List Text) (n : ℕ) (facts : List Fact) (skipped : ℕ) : Type 0 where
  pub rest : List ℕ
  pub read : Read bytes rest names now n facts skipped
  pub cut : AreCut rest forms behind

module _ (bytes behind : List ℕ) (names now : List Text) (n : ℕ) (triples : Triples) where
  -- the first of them
  pub ReadsOn-at : (seen forms : List Form) → seen ≡ forms → (i : ℕ) (d : Form) → i < length seen → ReadsOn bytes (drop i forms) behind names now n triples.facts triples.skipped
      → ReadsOn bytes (get_or seen i d ∷ drop (i + 1) forms) behind names now n triples.facts triples.skipped
  ReadsOn-at seen forms same i d lt on =
      let here = subst (λ l. ReadsOn bytes (drop i l) behind names now n triples.facts triples.skipped) (sym same) on in
      let one = drop-cons seen i d lt ∙ ap (λ k. get_or seen i d ∷ drop k seen) (sym (add-one i)) in
      subst (λ l. ReadsOn bytes (get_or seen i d ∷ drop (i + 1) l) behind names now n triples.facts triples.skipped) same
      (subst (λ l. ReadsOn bytes l behind names now n triples.facts triples.skipped) one here)

  -- none is left
  pub ReadsOn-all : (forms : List Form) (i : ℕ) → length forms ≤ i → ReadsOn bytes (drop i forms) behind names now n triples.facts triples.skipped → Read bytes behind names now n triples.facts triples.skipped
  ReadsOn-all forms i le on = by on.rest (subst (λ l. AreCut on.rest l behind) (drop_all i forms le) on.cut) on.read
    where
      by : (rest : List ℕ) → AreCut rest [] behind → Read bytes rest names now n triples.facts triples.skipped → Read bytes behind names now n triples.facts triples.skipped
      by rest cut_none read = read

  module _ (form : Form) (forms : List Form) where
    -- it is read, too
    pub ReadsOn-next : (next : List Text) (added : Triples) → ((line : List ℕ) → HasForm line form → AddsLine line now next triples added) → ReadsOn bytes (form ∷ forms) behind names now n triples.facts triples.skipped
        → ReadsOn bytes forms behind names next (n + 1) added.facts added.skipped
    ReadsOn-next next added adds on = by on.rest on.cut on.read
      where
        by : (rest : List ℕ) → AreCut rest (form ∷ forms) behind → Read bytes rest names now n triples.facts triples.skipped → ReadsOn bytes forms behind names next (n + 1) added.facts added.skipped
        by rest (cut_line {first = first} {behind = left} is then has more) read =
            let one = adds first has in
            record {
              rest = left;
              read = Read-next bytes rest names now n triples.facts triples.skipped read first left next added.facts one.facts added.skipped one.skipped is then one.gives one.is one.counted;
              cut = more;
            }

    -- it has a fault, which is the first
    pub ReadsOn-fault : (fault : TripleFault) → ((line : List ℕ) → HasForm line form → HasFault line now n fault) → ReadsOn bytes (form ∷ forms) behind names now n triples.facts triples.skipped → IsFirstFault bytes names fault
    ReadsOn-fault fault faulty on = by on.rest on.cut on.read
      where
        by : (rest : List ℕ) → AreCut rest (form ∷ forms) behind → Read bytes rest names now n triples.facts triples.skipped → IsFirstFault bytes names fault
        by rest (cut_line {first = first} {behind = left} is then has more) read =
            Read-fault bytes rest names now n triples.facts triples.skipped read first (Some (record { ref_ptr = (0, 0); now = left })) (record { is_line = is; ends = then }) fault (faulty first has)

    pub ReadsOn-part : (held : List Text) → ((line : List ℕ) → HasForm line form → HoldsFirst line now held) → ReadsOn bytes (form ∷ forms) behind names now n triples.facts triples.skipped → HoldsPart bytes names held
    ReadsOn-part held holds on = by on.rest on.cut on.read
      where
        by : (rest : List ℕ) → AreCut rest (form ∷ forms) behind → Read bytes rest names now n triples.facts triples.skipped → HoldsPart bytes names held
        by rest (cut_line {first = first} {behind = left} is then has more) read =
            Read-part bytes rest names now n triples.facts triples.skipped read first (Some (record { ref_ptr = (0, 0); now = left })) (record { is_line = is; ends = then }) held (holds first has)

-- lines that were cut ahead are read, behind names of which some were looked up
pub Read-ahead : {bytes rest next : List ℕ} {before names looked : List Text} {n len count : ℕ} {facts : List Fact} {skipped : ℕ} {forms : List Form} (after : List Text) (more : List Fact) (total : ℕ) → Read bytes rest before names n facts skipped
    → looked ≡ names → AreCut rest forms next → len ≡ count
    → ((bytes rest behind : List ℕ) (before : List Text) → Read bytes rest before looked n facts skipped → AreCut rest forms behind → Read bytes behind before after (n + count) more total)
    → Read bytes next before after (n + len) more total
Read-ahead {bytes = bytes} {rest = rest} {next = next} {before = before} {n = n} {facts = facts} {skipped = skipped} after more total read same cut as_many reads =
    subst (λ (k : ℕ). Read bytes next before after (n + k) more total) (sym as_many)
    (reads bytes rest next before (subst (λ l. Read bytes rest before l n facts skipped) (sym same) read) cut)
