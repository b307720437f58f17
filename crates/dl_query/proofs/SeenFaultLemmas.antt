-- A fault at a token depends on the bytes up to the token's end.
use Rattle.std.proofs.Common.{◌≡◌, ◌≢◌, ℕ, suc, ◌+◌, ◌-◌, true, false, List, [], ◌∷◌, ◌++◌, length, drop, refl, sym, ap, subst, ◌∙◌, true≢false, arith, append_assoc, append-nil}
use Rattle.std.proofs.lemmas.List.{length-append, append_cancel_right}
use Rattle.std.proofs.Math.Seq.{drop-append_seam}
use Rattle.dl_names.specs.NameList.{Text}
use Rattle.dl_query.specs.declared.fault.QueryFault.{QueryFault}
use Rattle.dl_query.specs.declared.token.Mark.TheVariants.{Ending}
use Rattle.dl_query.specs.Symbols.{Symbol, mark, front, front_of, next_front, next_placed, is_last, is_blank, behind, Placed, AreTokens, last, more}
use Rattle.dl_query.specs.Grammar.{Met, nothing_met}
use Rattle.dl_query.specs.Steps.{Expected, query_word, head_first, head_variable, first_term, second_term, Cause, syntax, reserved, too_many_names, fault_of, Move, goes, refuses, ends, move_of}
use Rattle.dl_query.specs.Reading.{fails, outcome, HasOutcome, TextHasOutcome, behind_token, IsSameUpTo}
use Rattle.dl_terms.specs.declared.query.Query.{Query}
use Rattle.dl_query.specs.Queries.{HasFault, at_token, of_query, QueryHasFault, not_safe, too_large}
use Rattle.dl_query.proofs.ReadingLemmas.{outcome-goes, outcome-refuses, outcome-ends, HasOutcome-goes, HasOutcome-refuses, move-last}
use Rattle.dl_query.proofs.SeenLemmas.{AreAlike, alike, two_variables, FindsNext, seen_of, next-is, text-behind, next-front, next-found, finds-next}

-- what is refused is refused for each token like it
refuses-alike : (e : Expected) (m : Met) {s s' : Symbol} {cause : Cause} → AreAlike s s' → move_of e m s ≡ refuses cause → move_of e m s' ≡ refuses cause
refuses-alike e m alike h = h
refuses-alike head_first m two_variables h = absurd (cc)
refuses-alike head_variable m two_variables h = absurd (cc)
refuses-alike (first_term p r) m two_variables h = absurd (cc)
refuses-alike (second_term p t) m two_variables h = absurd (cc)
refuses-alike _ m two_variables h = h

-- a fault tells its cause and its offset
fault-parts : (cause cause' : Cause) (at at' : ℕ) → fault_of cause at ≡ fault_of cause' at' → (cause ≡ cause') × (at ≡ at')
fault-parts syntax syntax at at' h = (refl, cc)
fault-parts reserved reserved at at' h = (refl, cc)
fault-parts too_many_names too_many_names at at' h = (refl, cc)
fault-parts syntax reserved at at' h = absurd (cc)
fault-parts syntax too_many_names at at' h = absurd (cc)
fault-parts reserved syntax at at' h = absurd (cc)
fault-parts reserved too_many_names at at' h = absurd (cc)
fault-parts too_many_names syntax at at' h = absurd (cc)
fault-parts too_many_names reserved at at' h = absurd (cc)

failure-parts : {f f' : QueryFault} {names names' : List Text} → fails f names ≡ fails f' names' → (f ≡ f') × (names ≡ names')
failure-parts h = (cc, cc)

-- behind so many bytes of a text, these are left; the fault comes at a token, and again before other bytes behind it
record Replays (k : ℕ) (e : Expected) (m : Met) (left r : List ℕ) (s : Symbol) (cause : Cause) (at : ℕ) (after : List Text) : Type 0 where
  b : ℕ
  c : List ℕ
  is : left ≡ b ∷ (c ++ r)
  gives_again : (others : List ℕ) → (is_last s ≡ true → r ≡ [] → others ≡ [])
      → HasOutcome (k + length (b ∷ (c ++ others))) e m (b ∷ (c ++ others)) (fails (fault_of cause at) after)

record Sees (k : ℕ) (e : Expected) (m : Met) (left : List ℕ) (cause : Cause) (at : ℕ) (after : List Text) : Type 0 where
  before : List ℕ
  text : List ℕ
  is : left ≡ before ++ text
  place : at ≡ k + length before
  s : Symbol
  r : List ℕ
  found : front_of text ≡ front s r
  replays : text ≢ [] → Replays k e m left r s cause at after

-- bytes that aren't empty have a first one
pub record Begins (xs : List ℕ) : Type 0 where
  b : ℕ
  c : List ℕ
  is : xs ≡ b ∷ c

pub begins : (ys : List ℕ) (b : ℕ) (xs : List ℕ) → Begins (ys ++ b ∷ xs)
begins [] b xs = record { b = b; c = xs; is = refl }
begins (y ∷ ys) b xs = record { b = y; c = ys ++ b ∷ xs; is = refl }

module _ (k : ℕ) (e : Expected) (m : Met) (left : List ℕ) where
  -- the token is refused here
  refused-at : (cause : Cause) → move_of e m (next_front left).symbol ≡ refuses cause → (rest : List ℕ) → behind is_blank left ≡ rest
      → Sees k e m left cause ((k + length left) - length (behind is_blank left)) m.names
  refused-at cause h [] is = record {
    before = left;
    text = [];
    is = sym (append-nil left);
    place = omega (arith, ap length is);
    s = mark Ending;
    r = [];
    found = refl;
    replays = λ no. absurd (no refl);
  }
  refused-at cause h (b ∷ xs) is =
      let n = finds-next left b xs is in
      let long : length left ≡ length n.white + length (b ∷ xs) = ap length n.is ∙ length-append n.white (b ∷ xs) in
      record {
        before = n.white;
        text = b ∷ xs;
        is = n.is;
        place = omega (arith, long, ap length is);
        s = n.f.s;
        r = n.f.r;
        found = n.f.found;
        replays = λ no.
            let first = begins n.white b n.f.c in
            record {
              b = first.b;
              c = first.c;
              is = next-is n ∙ ap (λ l. l ++ n.f.r) first.is;
              gives_again = λ others cond.
                  subst (λ l. HasOutcome (k + length l) e m l (fails (fault_of cause ((k + length left) - length (behind is_blank left))) m.names)) (ap (λ l. l ++ others) first.is)
                  (again n others cond);
            };
      }
    where
      again : (n : FindsNext left b xs) (others : List ℕ) → (is_last n.f.s ≡ true → n.f.r ≡ [] → others ≡ [])
          → HasOutcome (k + length (seen_of n ++ others)) e m (seen_of n ++ others)
          (fails (fault_of cause ((k + length left) - length (behind is_blank left))) m.names)
      again n others cond =
          let new = seen_of n ++ others in
          let like : AreAlike n.f.s (next_front new).symbol =
          subst (λ f. AreAlike n.f.s f.symbol) (sym (next-front n others)) (n.f.kept others cond)
          in
          let move : move_of e m (next_front new).symbol ≡ refuses cause =
          refuses-alike e m like (ap (λ f. move_of e m f.symbol) (sym (next-found n)) ∙ h)
          in
          let old_long : length left ≡ length n.white + length (b ∷ xs) = ap length n.is ∙ length-append n.white (b ∷ xs) in
          let new_long : length new ≡ length n.white + (length (b ∷ n.f.c) + length others) =
          length-append (seen_of n) others ∙ ap (λ l. l + length others) (length-append n.white (b ∷ n.f.c)) ∙ (omega arith)
          in
          let new_text : length (behind is_blank new) ≡ suc (length n.f.c + length others) =
          ap length (text-behind n others) ∙ ap suc (length-append n.f.c others)
          in
          let same : (k + length new) - length (behind is_blank new) ≡ (k + length left) - length (behind is_blank left) =
          omega (arith, old_long, new_long, new_text, ap length is)
          in
          subst (λ a. HasOutcome (k + length new) e m new (fails (fault_of cause a) m.names)) same
          (HasOutcome-refuses (k + length new) e m new cause move)

-- or the token fits, and the fault comes later
module _ (k : ℕ) (e : Expected) (m : Met) (left : List ℕ) (e' : Expected) (m' : Met) (move : move_of e m (next_front left).symbol ≡ goes e' m')
    (l : is_last (next_front left).symbol ≡ false) (b : ℕ) (xs : List ℕ) (n : FindsNext left b xs) (rest_is : (next_front left).rest ≡ n.f.r)
    (cause : Cause) (at : ℕ) (after : List Text) where
  module _ (s : Symbol) (r : List ℕ) (ri : Replays (k + length (seen_of n)) e' m' (next_front left).rest r s cause at after) where
    same_text : (others : List ℕ) → (n.white ++ b ∷ (n.f.c ++ ri.b ∷ ri.c)) ++ others ≡ seen_of n ++ ri.b ∷ (ri.c ++ others)
    same_text others =
        append_assoc n.white (b ∷ (n.f.c ++ ri.b ∷ ri.c)) others
        ∙ ap (λ l. n.white ++ b ∷ l) (append_assoc n.f.c (ri.b ∷ ri.c) others)
        ∙ sym (append_assoc n.white (b ∷ n.f.c) (ri.b ∷ (ri.c ++ others)))

    gives_here : (others : List ℕ) → (is_last s ≡ true → r ≡ [] → others ≡ [])
        → HasOutcome (k + length (seen_of n ++ ri.b ∷ (ri.c ++ others))) e m (seen_of n ++ ri.b ∷ (ri.c ++ others)) (fails (fault_of cause at) after)
    gives_here others cond =
        let tail = ri.b ∷ (ri.c ++ others) in
        let not_last : is_last n.f.s ≡ false = ap (λ f. is_last f.symbol) (sym (next-found n)) ∙ l in
        let front_is : next_front (seen_of n ++ tail) ≡ front n.f.s tail =
        next-front n tail ∙ n.f.same not_last ri.b (ri.c ++ r) (ri.c ++ others) (sym rest_is ∙ ri.is)
        in
        let move_is : move_of e m (next_front (seen_of n ++ tail)).symbol ≡ goes e' m' =
        ap (λ f. move_of e m f.symbol) front_is ∙ ap (λ f. move_of e m f.symbol) (sym (next-found n)) ∙ move
        in
        let longer : (k + length (seen_of n)) + length tail ≡ k + length (seen_of n ++ tail) = omega (arith, length-append (seen_of n) tail) in
        let rest : HasOutcome (k + length (seen_of n ++ tail)) e' m' (next_front (seen_of n ++ tail)).rest (fails (fault_of cause at) after) =
        subst (λ f. HasOutcome (k + length (seen_of n ++ tail)) e' m' f.rest (fails (fault_of cause at) after)) (sym front_is)
        (subst (λ len. HasOutcome len e' m' tail (fails (fault_of cause at) after)) longer (ri.gives_again others cond))
        in
        HasOutcome-goes (k + length (seen_of n ++ tail)) e m (seen_of n ++ tail) e' m' (fails (fault_of cause at) after) move_is rest

    replays-here : Replays k e m left r s cause at after
    replays-here =
        let first = begins n.white b (n.f.c ++ ri.b ∷ ri.c) in
        record {
          b = first.b;
          c = first.c;
          is = next-is n ∙ ap (λ l. seen_of n ++ l) (sym rest_is ∙ ri.is) ∙ sym (same_text r) ∙ ap (λ l. l ++ r) first.is;
          gives_again = λ others cond.
              subst (λ l. HasOutcome (k + length l) e m l (fails (fault_of cause at) after)) (sym (same_text others) ∙ ap (λ l. l ++ others) first.is)
              (gives_here others cond);
        }

  sees-here : ((k' : ℕ) → k + length left ≡ k' + length (next_front left).rest → Sees k' e' m' (next_front left).rest cause at after) → Sees k e m left cause at after
  sees-here later =
      let long : length left ≡ length (seen_of n) + length n.f.r = ap length (next-is n) ∙ length-append (seen_of n) n.f.r in
      let ih = later (k + length (seen_of n)) (omega (arith, long, ap length rest_is)) in
      record {
        before = seen_of n ++ ih.before;
        text = ih.text;
        is = next-is n ∙ ap (λ l. seen_of n ++ l) (sym rest_is ∙ ih.is) ∙ sym (append_assoc (seen_of n) ih.before ih.text);
        place = omega (arith, ih.place, length-append (seen_of n) ih.before);
        s = ih.s;
        r = ih.r;
        found = ih.found;
        replays = λ no. replays-here ih.s ih.r (ih.replays no);
      }

module _ (k : ℕ) (e : Expected) (m : Met) (left : List ℕ) (e' : Expected) (m' : Met) where
  sees-later : move_of e m (next_front left).symbol ≡ goes e' m' → is_last (next_front left).symbol ≡ false → (cause : Cause) (at : ℕ) (after : List Text)
      → ((k' : ℕ) → k + length left ≡ k' + length (next_front left).rest → Sees k' e' m' (next_front left).rest cause at after)
      → (rest : List ℕ) → behind is_blank left ≡ rest → Sees k e m left cause at after
  sees-later move l cause at after later [] is = absurd (true≢false (ap (λ r. is_last (front_of r).symbol) (sym is) ∙ l))
  sees-later move l cause at after later (b ∷ xs) is =
      let n = finds-next left b xs is in
      sees-here k e m left e' m' move l b xs n (ap (λ f. f.rest) (next-found n)) cause at after later

-- the fault of the first tokens of what is left
module _ (len k : ℕ) (e : Expected) (m : Met) (left : List ℕ) (long : len ≡ k + length left) (cause : Cause) (at : ℕ) (after : List Text) where
  refused-here : (others : List Placed) → outcome e m (next_placed len left ∷ others) ≡ fails (fault_of cause at) after
      → (cause' : Cause) → move_of e m (next_front left).symbol ≡ refuses cause' → Sees k e m left cause at after
  refused-here others o cause' is =
      let parts = failure-parts (sym (outcome-refuses e m (next_placed len left) others cause' is) ∙ o) in
      let same = fault-parts cause' cause (len - length (behind is_blank left)) at parts.0 in
      let placed : (k + length left) - length (behind is_blank left) ≡ at = ap (λ l. l - length (behind is_blank left)) (sym long) ∙ same.1 in
      let here = refused-at k e m left cause' is (behind is_blank left) refl in
      subst (λ c. Sees k e m left c at after) same.0
      (subst (λ a. Sees k e m left cause' a after) placed
      (subst (λ names. Sees k e m left cause' ((k + length left) - length (behind is_blank left)) names) parts.1 here))

  not-ended : (others : List Placed) → outcome e m (next_placed len left ∷ others) ≡ fails (fault_of cause at) after → move_of e m (next_front left).symbol ≡ ends → ⊥
  not-ended others o is = let gave = outcome-ends e m (next_placed len left) others is in cc

  sees-last : is_last (next_front left).symbol ≡ true → outcome e m (next_placed len left ∷ []) ≡ fails (fault_of cause at) after
      → (move : Move) → move_of e m (next_front left).symbol ≡ move → Sees k e m left cause at after
  sees-last l o (goes e' m') is = absurd (move-last e m (next_front left).symbol l e' m' is)
  sees-last l o (refuses cause') is = refused-here [] o cause' is
  sees-last l o ends is = absurd (not-ended [] o is)

  sees-more : is_last (next_front left).symbol ≡ false → (others : List Placed) → outcome e m (next_placed len left ∷ others) ≡ fails (fault_of cause at) after
      → ((e' : Expected) (m' : Met) (k' : ℕ) → len ≡ k' + length (next_front left).rest → outcome e' m' others ≡ fails (fault_of cause at) after
      → Sees k' e' m' (next_front left).rest cause at after)
      → (move : Move) → move_of e m (next_front left).symbol ≡ move → Sees k e m left cause at after
  sees-more l others o later (goes e' m') is =
      sees-later k e m left e' m' is l cause at after
      (λ k' same. later e' m' k' (long ∙ same) (sym (outcome-goes e m (next_placed len left) others e' m' is) ∙ o)) (behind is_blank left) refl
  sees-more l others o later (refuses cause') is = refused-here others o cause' is
  sees-more l others o later ends is = absurd (not-ended others o is)

sees : (len k : ℕ) (e : Expected) (m : Met) {left : List ℕ} {tokens : List Placed} → len ≡ k + length left → AreTokens len left tokens
    → (cause : Cause) (at : ℕ) (after : List Text) → outcome e m tokens ≡ fails (fault_of cause at) after → Sees k e m left cause at after
sees len k e m {left} long (last l) cause at after h = sees-last len k e m left long cause at after l h (move_of e m (next_front left).symbol) refl
sees len k e m {left} long (more {tokens = others} l rest) cause at after h =
    sees-more len k e m left long cause at after l others h (λ e' m' k' same o. sees len k' e' m' same rest cause at after o) (move_of e m (next_front left).symbol) refl

-- a text that is the same up to the end of the token has the same fault
fault-seen : (bytes other : List ℕ) (names : List Text) (cause : Cause) (at : ℕ) (after : List Text)
    → TextHasOutcome bytes names (fails (fault_of cause at) after) → IsSameUpTo bytes at other → TextHasOutcome other names (fails (fault_of cause at) after)
fault-seen bytes other names cause at after has same =
    let seen = sees (length bytes) 0 query_word (nothing_met names) (omega arith) has.are cause at after has.is in
    by seen (there seen)
  where
    there : (seen : Sees 0 query_word (nothing_met names) bytes cause at after) → front_of (drop at bytes) ≡ front seen.s seen.r
    there seen =
        let text : drop at bytes ≡ seen.text =
        (λ i. drop ((seen.place ∙ zero-plus (length seen.before)) i) (seen.is i)) ∙ drop-append_seam seen.before seen.text
        in
        ap front_of text ∙ seen.found
      where
        zero-plus : (n : ℕ) → 0 + n ≡ n
        zero-plus n = omega arith

    by : (seen : Sees 0 query_word (nothing_met names) bytes cause at after) → front_of (drop at bytes) ≡ front seen.s seen.r
        → TextHasOutcome other names (fails (fault_of cause at) after)
    by seen front_is = by_text seen.text refl
      where
        rest_is : behind_token bytes at ≡ seen.r
        rest_is = ap (λ f. f.rest) front_is

        -- where the token is the end of the text, the texts are the same
        whole : same.others ≡ [] → behind_token bytes at ≡ [] → TextHasOutcome other names (fails (fault_of cause at) after)
        whole none rest =
            subst (λ l. TextHasOutcome l names (fails (fault_of cause at) after))
            (same.is ∙ ap (λ l. same.seen ++ l) rest ∙ ap (λ l. same.seen ++ l) (sym none) ∙ sym same.other_is) has

        replayed : Replays 0 query_word (nothing_met names) bytes seen.r seen.s cause at after → TextHasOutcome other names (fails (fault_of cause at) after)
        replayed ri =
            let cut : same.seen ≡ ri.b ∷ ri.c = append_cancel_right same.seen (ri.b ∷ ri.c) seen.r (ap (λ l. same.seen ++ l) (sym rest_is) ∙ sym same.is ∙ ri.is) in
            let new : ri.b ∷ (ri.c ++ same.others) ≡ other = ap (λ l. l ++ same.others) (sym cut) ∙ sym same.other_is in
            let again = ri.gives_again same.others (λ l r. same.ends (ap (λ f. is_last f.symbol) front_is ∙ l) (rest_is ∙ r)) in
            let len : 0 + length (ri.b ∷ (ri.c ++ same.others)) ≡ length (ri.b ∷ (ri.c ++ same.others)) = omega arith in
            subst (λ l. TextHasOutcome l names (fails (fault_of cause at) after)) new
            (subst (λ n. HasOutcome n query_word (nothing_met names) (ri.b ∷ (ri.c ++ same.others)) (fails (fault_of cause at) after)) len again)

        by_text : (text : List ℕ) → seen.text ≡ text → TextHasOutcome other names (fails (fault_of cause at) after)
        by_text [] e =
            let ending : front_of (drop at bytes) ≡ front (mark Ending) [] = front_is ∙ sym seen.found ∙ ap front_of e in
            let none = same.ends (ap (λ f. is_last f.symbol) ending) (ap (λ f. f.rest) ending) in
            whole none (ap (λ f. f.rest) ending)
        by_text (b ∷ xs) e = replayed (seen.replays (λ no. cons-nil (sym e ∙ no)))
          where
            cons-nil : b ∷ xs ≡ [] → ⊥
            cons-nil h = cc

-- a query that is read to its end has no fault at a byte
not-at-byte : (cause : Cause) (at : ℕ) {q : Query} {f : QueryFault} → QueryHasFault q f → f ≡ fault_of cause at → ⊥
not-at-byte syntax at (not_safe h) is = cc
not-at-byte reserved at (not_safe h) is = cc
not-at-byte too_many_names at (not_safe h) is = cc
not-at-byte syntax at (too_large h l) is = cc
not-at-byte reserved at (too_large h l) is = cc
not-at-byte too_many_names at (too_large h l) is = cc

pub HasFault-seen : (bytes other : List ℕ) (names : List Text) (cause : Cause) (at : ℕ) (after : List Text)
    → HasFault bytes names (fault_of cause at) after → IsSameUpTo bytes at other → HasFault other names (fault_of cause at) after
HasFault-seen bytes other names cause at after fault same = by fault refl refl
  where
    by : {f : QueryFault} {names' : List Text} → HasFault bytes names f names' → f ≡ fault_of cause at → names' ≡ after
        → HasFault other names (fault_of cause at) after
    by (at_token has) is met =
        at_token (fault-seen bytes other names cause at after (subst (TextHasOutcome bytes names) (λ i. fails (is i) (met i)) has) same)
    by (of_query text fits of) is met = absurd (not-at-byte cause at of is)
