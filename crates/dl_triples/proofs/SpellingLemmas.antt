-- A text is spelled in one way: what its bytes spell, and where it ends, is determined.
use Rattle.std.proofs.Common.{◌≡◌, ℕ, Bool, true, false, nat_eq, List, [], ◌∷◌, ◌++◌, length, Option, Some, None, refl, sym, ap, ◌∙◌, subst, append_assoc, append-nil, true≢false, arith, MatchOption, Bor}
use borrow.Author.Tests.{eqb-true}
use Rattle.std.specs.List.{list_all}
use Rattle.std.specs.Char.{encode_utf8}
use Rattle.std.proofs.lemmas.Bool.{and_parts}
use Rattle.dl_triples.specs.declared.spelling.Quoting.{Quoting}
use Rattle.dl_triples.specs.declared.spelling.Quoting.TheVariants.{Iri, Literal}
use Rattle.dl_triples.specs.Spelling.{is_plain, letter_value, digit_count, hex_value, IsEscape, letter, number, Spells, nothing, plain, escape}
use Rattle.dl_triples.specs.Runs.{begins}
use Rattle.dl_triples.specs.Parts.{EscapeThen, NumberThen, SpelledThen, goes_on}

-- lists of one length at the front are one
pub append_same_length : (xs ys us vs : List ℕ) → length xs ≡ length ys → xs ++ us ≡ ys ++ vs → (xs ≡ ys) × (us ≡ vs)
append_same_length [] [] us vs len same = (refl, same)
append_same_length [] (y ∷ ys) us vs len same = absurd (omega (arith, len))
append_same_length (x ∷ xs) [] us vs len same = absurd (omega (arith, len))
append_same_length (x ∷ xs) (y ∷ ys) us vs len same =
    let tails : xs ++ us ≡ ys ++ vs = cc in
    let heads : x ≡ y = cc in
    let more = append_same_length xs ys us vs (omega (arith, len)) tails in
    ((λ i. heads i ∷ more.0 i), more.1)

-- a backslash is no plain byte
pub backslash : (quoting : Quoting) → is_plain quoting 92 ≡ false
backslash Iri = refl
backslash Literal = refl

pub no_backslash : (quoting : Quoting) (b : ℕ) → is_plain quoting b ≡ true → b ≡ 92 → ⊥
no_backslash quoting b h e = true≢false (sym h ∙ ap (is_plain quoting) e ∙ backslash quoting)

-- no letter begins both kinds of escapes
pub letter_no_number : (quoting : Quoting) (e c n : ℕ) → letter_value quoting e ≡ Some c → digit_count e ≡ Some n → ⊥
letter_no_number Iri e c n h k = cc
letter_no_number Literal e c n h k = by (nat_eq e 117) refl (nat_eq e 85) refl
  where
    by : (u : Bool) → nat_eq e 117 ≡ u → (l : Bool) → nat_eq e 85 ≡ l → ⊥
    by true is l _ = let at : letter_value Literal 117 ≡ Some c = subst (λ (x : ℕ). letter_value Literal x ≡ Some c) (eqb-true e 117 is) h in cc
    by false _ true is = let at : letter_value Literal 85 ≡ Some c = subst (λ (x : ℕ). letter_value Literal x ≡ Some c) (eqb-true e 85 is) h in cc
    by false is false is' = let none : digit_count e ≡ None = rw (is, is') refl in cc

-- an escape begins with a backslash
pub escape_opens : {quoting : Quoting} {part : List ℕ} {c : ℕ} → IsEscape quoting part c → (more : List ℕ) × (part ≡ 92 ∷ more)
escape_opens (letter {e = e} _) = (e ∷ [], refl)
escape_opens (number {e = e} {digits = digits} _ _ _ _ _) = (e ∷ digits, refl)

-- ---- an escape is determined

one_escape_by : {quoting : Quoting} {part part' : List ℕ} {c c' : ℕ} (bytes rest rest' : List ℕ) → IsEscape quoting part c → IsEscape quoting part' c'
    → bytes ≡ part ++ rest → bytes ≡ part' ++ rest' → (c ≡ c') × (rest ≡ rest')
one_escape_by {quoting} {c = c} {c' = c'} bytes rest rest' (letter {e = e} h) (letter {e = e'} h') stands stands' =
    let heads : e ≡ e' = cc in
    let there : Some c ≡ Some c' = sym h ∙ ap (letter_value quoting) heads ∙ h' in
    (cc, cc)
one_escape_by {quoting} {c = c} bytes rest rest' (letter {e = e} h) (number {e = e'} {digits = digits} count _ _ _ _) stands stands' =
    let heads : e ≡ e' = cc in
    absurd (letter_no_number quoting e' c (length digits) (subst (λ (x : ℕ). letter_value quoting x ≡ Some c) heads h) count)
one_escape_by {quoting} {c' = c'} bytes rest rest' (number {e = e} {digits = digits} count _ _ _ _) (letter {e = e'} h) stands stands' =
    let heads : e' ≡ e = cc in
    absurd (letter_no_number quoting e c' (length digits) (subst (λ (x : ℕ). letter_value quoting x ≡ Some c') heads h) count)
one_escape_by {quoting} {c = c} {c' = c'} bytes rest rest' (number {e = e} {digits = digits} count _ is _ _) (number {e = e'} {digits = digits'} count' _ is' _ _) stands stands' =
    let heads : e ≡ e' = cc in
    let counts : Some (length digits) ≡ Some (length digits') = sym count ∙ ap digit_count heads ∙ count' in
    let lengths : length digits ≡ length digits' = cc in
    let tails : digits ++ rest ≡ digits' ++ rest' = cc in
    let same = append_same_length digits digits' rest rest' lengths tails in
    (is ∙ ap hex_value same.0 ∙ sym is', same.1)

pub one_escape : (quoting : Quoting) (bytes : List ℕ) (c c' : ℕ) (rest rest' : List ℕ) → EscapeThen quoting bytes c rest → EscapeThen quoting bytes c' rest' → (c ≡ c') × (rest ≡ rest')
one_escape quoting bytes c c' rest rest' h h' = one_escape_by bytes rest rest' h.is h'.is h.stands h'.stands

-- ---- what the reader of an escape finds

pub letter_then : (quoting : Quoting) (bytes behind rest : List ℕ) (first e c : ℕ) → bytes ≡ first ∷ behind → behind ≡ e ∷ rest → first ≡ 92 → Some c ≡ letter_value quoting e → EscapeThen quoting bytes c rest
letter_then quoting bytes behind rest first e c opens goes is h = record {
  part = 92 ∷ e ∷ [];
  is = letter (sym h);
  stands = opens ∙ (λ i. is i ∷ goes i);
}

-- where no letter stands behind the backslash, digits stand there or no escape does
module _ (quoting : Quoting) (bytes behind rest : List ℕ) (first e : ℕ) (opens : bytes ≡ first ∷ behind) (goes : behind ≡ e ∷ rest) (is : first ≡ 92) (none : None ≡ letter_value quoting e) where
  at : bytes ≡ 92 ∷ e ∷ rest
  at = opens ∙ (λ i. is i ∷ goes i)

  found : (c : ℕ) (more : List ℕ) → NumberThen quoting e rest c more → EscapeThen quoting bytes c more
  found c more h = record {
    part = 92 ∷ e ∷ h.digits;
    is = number h.count h.hex h.is h.scalar h.allowed;
    stands = at ∙ ap (λ l. 92 ∷ e ∷ l) h.stands;
  }

  back_by : {part : List ℕ} (c : ℕ) (more : List ℕ) → IsEscape quoting part c → bytes ≡ part ++ more → NumberThen quoting e rest c more
  back_by c more (letter {e = e'} h) stands =
      let heads : e' ≡ e = cc in
      let there : Some c ≡ None = sym h ∙ ap (letter_value quoting) heads ∙ sym none in
      absurd (cc)
  back_by c more (number {e = e'} {digits = digits} count hex value scalar allowed) stands =
      let heads : e' ≡ e = cc in
      let tails : rest ≡ digits ++ more = cc in
      record { digits = digits; count = subst (λ (x : ℕ). digit_count x ≡ Some (length digits)) heads count; hex = hex; is = value; scalar = scalar; allowed = allowed; stands = tails }

  pub number_escape : (r : Option (ℕ × Bor (List ℕ))) → MatchOption r ((c : ℕ) (more : List ℕ) → NumberThen quoting e rest c more → ⊥) (λ x. NumberThen quoting e rest x.0 x.1.now)
      → MatchOption r ((c : ℕ) (more : List ℕ) → EscapeThen quoting bytes c more → ⊥) (λ x. EscapeThen quoting bytes x.0 x.1.now)
  number_escape None h = λ c more there. h c more (back_by c more there.is there.stands)
  number_escape (Some x) h = found x.0 x.1.now h

-- ---- what a text spells, byte by byte

pub Spells-append : {quoting : Quoting} {bytes value : List ℕ} (more further : List ℕ) → Spells quoting bytes value → Spells quoting more further → Spells quoting (bytes ++ more) (value ++ further)
Spells-append more further nothing t = t
Spells-append more further (plain h s) t = plain h (Spells-append more further s t)
Spells-append {quoting} more further (escape {bytes = bytes} {part = part} {rest = rest} {value = value} {c = c} is stands s) t =
    subst (λ l. Spells quoting (bytes ++ more) l) (sym (append_assoc (encode_utf8 c) value further))
    (escape is (ap (λ l. l ++ more) stands ∙ append_assoc part rest more) (Spells-append more further s t))

pub Spells-plain : (quoting : Quoting) (run : List ℕ) → list_all (is_plain quoting) run ≡ true → Spells quoting run run
Spells-plain quoting [] h = nothing
Spells-plain quoting (b ∷ run) h = let parts = and_parts (is_plain quoting b) (list_all (is_plain quoting) run) h in plain parts.0 (Spells-plain quoting run parts.1)

pub Spells-escape : {quoting : Quoting} {part : List ℕ} {c : ℕ} → IsEscape quoting part c → Spells quoting part (encode_utf8 c)
Spells-escape {quoting} {part} {c} is =
    subst (λ l. Spells quoting part l) (append-nil (encode_utf8 c)) (escape is (sym (append-nil part)) nothing)

-- a byte that goes on with a text does not begin what stands behind it
goes_on_plain : (quoting : Quoting) (b : ℕ) → is_plain quoting b ≡ true → goes_on quoting b ≡ true
goes_on_plain quoting b h = rw h refl

goes_on_backslash : (quoting : Quoting) → goes_on quoting 92 ≡ true
goes_on_backslash Iri = refl
goes_on_backslash Literal = refl

module _ {quoting : Quoting} where
  -- behind a plain byte
  open_plain : {text value : List ℕ} (b : ℕ) (bytes tail : List ℕ) → is_plain quoting b ≡ true → begins (goes_on quoting) tail ≡ false → b ∷ bytes ≡ text ++ tail → Spells quoting text value
      → (v : List ℕ) × (value ≡ b ∷ v) × SpelledThen quoting bytes v tail
  open_plain b bytes tail h ends stands nothing =
      absurd (true≢false (sym (goes_on_plain quoting b h) ∙ ap (begins (goes_on quoting)) stands ∙ ends))
  open_plain b bytes tail h ends stands (plain {b = b'} {bytes = more} {value = v} _ s) =
      let heads : b' ≡ b = cc in
      let tails : bytes ≡ more ++ tail = cc in
      (v, (λ i. heads i ∷ v), record { text = more; stands = tails; spells = s; ends = ends })
  open_plain b bytes tail h ends stands (escape {part = part} {rest = rest} is there s) =
      let opens = escape_opens is in
      let at : b ∷ bytes ≡ 92 ∷ (opens.0 ++ rest) ++ tail = stands ∙ ap (λ l. l ++ tail) (there ∙ ap (λ l. l ++ rest) opens.1) in
      absurd (no_backslash quoting b h (cc))

  -- behind an escape
  open_escape : {text value part : List ℕ} {c : ℕ} (bytes tail : List ℕ) → IsEscape quoting part c → begins (goes_on quoting) tail ≡ false → part ++ bytes ≡ text ++ tail → Spells quoting text value
      → (v : List ℕ) × (value ≡ encode_utf8 c ++ v) × SpelledThen quoting bytes v tail
  open_escape {part = part} bytes tail is ends stands nothing =
      let opens = escape_opens is in
      let at : 92 ∷ opens.0 ++ bytes ≡ tail = ap (λ l. l ++ bytes) (sym opens.1) ∙ stands in
      absurd (true≢false (sym (goes_on_backslash quoting) ∙ ap (begins (goes_on quoting)) at ∙ ends))
  open_escape {part = part} bytes tail is ends stands (plain {b = b} {bytes = more} h s) =
      let opens = escape_opens is in
      let at : 92 ∷ opens.0 ++ bytes ≡ b ∷ more ++ tail = ap (λ l. l ++ bytes) (sym opens.1) ∙ stands in
      absurd (no_backslash quoting b h (cc))
  open_escape {part = part} {c = c} bytes tail is ends stands (escape {part = part'} {rest = rest'} {value = v} {c = c'} is' there s) =
      let at : part ++ bytes ≡ part' ++ (rest' ++ tail) = stands ∙ ap (λ l. l ++ tail) there ∙ append_assoc part' rest' tail in
      let same = one_escape_by (part ++ bytes) bytes (rest' ++ tail) is is' refl at in
      (v, (λ i. encode_utf8 (sym same.0 i) ++ v), record { text = rest'; stands = same.1; spells = s; ends = ends })

  -- behind a text that is spelled goes on what is spelled from before it
  pub behind_spelled : {consumed sofar : List ℕ} → Spells quoting consumed sofar → (here value tail : List ℕ) → SpelledThen quoting (consumed ++ here) value tail
      → (v : List ℕ) × (value ≡ sofar ++ v) × SpelledThen quoting here v tail
  behind_spelled nothing here value tail then = (value, refl, then)
  behind_spelled (plain {b = b} {bytes = bytes} {value = sofar} h s) here value tail then =
      let first = open_plain b (bytes ++ here) tail h then.ends then.stands then.spells in
      let rest = behind_spelled s here first.0 tail first.2 in
      (rest.0, first.1 ∙ ap (λ l. b ∷ l) rest.1, rest.2)
  behind_spelled (escape {bytes = bytes} {part = part} {rest = more} {value = sofar} {c = c} is there s) here value tail then =
      let at : part ++ (more ++ here) ≡ then.text ++ tail = sym (append_assoc part more here) ∙ ap (λ l. l ++ here) (sym there) ∙ then.stands in
      let first = open_escape (more ++ here) tail is then.ends at then.spells in
      let rest = behind_spelled s here first.0 tail first.2 in
      (rest.0, first.1 ∙ ap (λ l. encode_utf8 c ++ l) rest.1 ∙ sym (append_assoc (encode_utf8 c) sofar rest.0), rest.2)

  -- where neither a plain byte nor an escape stands, the text ends
  ends_by : {text value : List ℕ} (here tail : List ℕ) → begins (is_plain quoting) here ≡ false → ((c : ℕ) (more : List ℕ) → EscapeThen quoting here c more → ⊥)
      → here ≡ text ++ tail → Spells quoting text value → (value ≡ []) × (here ≡ tail)
  ends_by here tail no_plain no_escape stands nothing = (refl, stands)
  ends_by here tail no_plain no_escape stands (plain {b = b} h s) =
      absurd (true≢false (sym h ∙ ap (begins (is_plain quoting)) (sym stands) ∙ no_plain))
  ends_by here tail no_plain no_escape stands (escape {part = part} {rest = rest} {c = c} is there s) =
      absurd (no_escape c (rest ++ tail) (record { part = part; is = is; stands = stands ∙ ap (λ l. l ++ tail) there ∙ append_assoc part rest tail }))

  pub ends_spelled : (here value tail : List ℕ) → begins (is_plain quoting) here ≡ false → ((c : ℕ) (more : List ℕ) → EscapeThen quoting here c more → ⊥)
      → SpelledThen quoting here value tail → (value ≡ []) × (here ≡ tail)
  ends_spelled here value tail no_plain no_escape then = ends_by here tail no_plain no_escape then.stands then.spells

  -- what a text spells is determined
  pub one_value : (text value value' : List ℕ) → Spells quoting text value → Spells quoting text value' → value ≡ value'
  one_value text value value' s s' =
      let then : SpelledThen quoting (text ++ []) value' [] = record { text = text; stands = refl; spells = s'; ends = refl } in
      let rest = behind_spelled s [] value' [] then in
      let none = ends_spelled [] rest.0 [] refl (λ c more h. let opens = escape_opens h.is in let at : [] ≡ 92 ∷ opens.0 ++ more = h.stands ∙ ap (λ l. l ++ more) opens.1 in cc) rest.2 in
      sym (rest.1 ∙ ap (λ l. value ++ l) none.0 ∙ append-nil value)
