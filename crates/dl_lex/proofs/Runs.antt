-- Runs of characters of a class.
use Rattle.std.proofs.Common.{◌≡◌, ◌≢◌, ℕ, ◌+◌, ◌<◌, ◌≤◌, Bool, true, false, Option, Some, None, MatchOption, List, [], ◌∷◌, ◌++◌, length, get_or, drop, refl, sym, ap, ◌∙◌, subst, append_assoc, length-append, arith}
use Rattle.std.proofs.Math.Utf8.{encode, encodes, low_scalar}
use Rattle.std.specs.List.{All}
use Rattle.std.specs.Char.{IsScalar}
use Rattle.std.proofs.lemmas.Bool.{cases_lt, false≢true}
use Rattle.std.proofs.lemmas.Bool.Decides.{nat_tests}
use Rattle.std.proofs.lemmas.List.{append-nil}
use Rattle.std.proofs.lemmas.List.Elements.{All-nil, All-push, All-head, All-tail}
use Rattle.std.proofs.lemmas.Str.{encode_same, length-encode, len_utf8_bounds, encodes-append, drop_past_char}
use Rattle.dl_lex.specs.declared.characters.Class.{Class}
use Rattle.dl_lex.specs.declared.characters.Class.TheVariants.{Iri, Run, Comment, Plain, Lang}
use Rattle.dl_lex.specs.Characters.{StandsAt, IsCharacterAt, NoCharacterAt, AreCharacters, IsLongestRun, admits}
use Rattle.dl_lex.proofs.Standing.{StandsAt-append, StandsAt-nil, ascii_character, ascii_stands, wide_character}

-- every class but that of language tags has the characters past ASCII
pub wide_admitted : (class : Class) (c : ℕ) → class ≢ Lang → 128 ≤ c → admits class c ≡ true
wide_admitted Iri c other wide = grind (arith, nat_tests)
wide_admitted Run c other wide = grind (arith, nat_tests)
wide_admitted Comment c other wide = grind (arith, nat_tests)
wide_admitted Plain c other wide = grind (arith, nat_tests)
wide_admitted Lang c other wide = absurd (other refl)

pub wide_no_tag : (c : ℕ) → 128 ≤ c → admits Lang c ≡ false
wide_no_tag c wide = grind (arith, nat_tests)

-- a character is one or more bytes
pub character_moves : (class : ℕ → Bool) (bytes : List ℕ) (i j : ℕ) → IsCharacterAt class bytes i j → i < j
character_moves class bytes i j h =
    let some = len_utf8_bounds h.character in
    let size = length-encode h.character in
    let ends = h.stands.ends in
    omega arith

pub AreCharacters-none : (class : ℕ → Bool) (bytes : List ℕ) (i : ℕ) → i ≤ length bytes → AreCharacters class bytes i i
AreCharacters-none class bytes i h = record {
  characters = [];
  scalars = All-nil IsScalar;
  admitted = All-nil (λ c. class c ≡ true);
  stand = StandsAt-nil bytes i h;
}

-- one more character
pub AreCharacters-more : (class : ℕ → Bool) (bytes : List ℕ) (i j k : ℕ) → AreCharacters class bytes i j → IsCharacterAt class bytes j k → AreCharacters class bytes i k
AreCharacters-more class bytes i j k a h = record {
  characters = a.characters ++ h.character ∷ [];
  scalars = All-push IsScalar a.characters h.character a.scalars h.scalar;
  admitted = All-push (λ c. class c ≡ true) a.characters h.character a.admitted h.admitted;
  stand =
      let text : encodes (a.characters ++ h.character ∷ []) ≡ encodes a.characters ++ encode h.character =
      encodes-append a.characters (h.character ∷ []) ∙ ap (λ t. encodes a.characters ++ t) (append-nil (encode h.character)) in
      subst (λ t. StandsAt bytes i t k) (sym text) (StandsAt-append bytes i j k (encodes a.characters) (encode h.character) a.stand h.stands);
}

-- the first of several characters, and the others after it
pub first_stands : (bytes : List ℕ) (i j c : ℕ) (rest : List ℕ) → StandsAt bytes i (encode c ++ rest) j → StandsAt bytes i (encode c) (i + length (encode c)) × StandsAt bytes (i + length (encode c)) rest j
first_stands bytes i j c rest s =
    let size = length-append (encode c) rest in
    let ends = s.ends in
    let inside = s.in_range in
    let split : drop i bytes ≡ encode c ++ (rest ++ drop j bytes) = s.is ∙ append_assoc (encode c) rest (drop j bytes) in
    let later : drop (i + length (encode c)) bytes ≡ rest ++ drop j bytes = rw (length-encode c) (drop_past_char bytes (rest ++ drop j bytes) i c split) in (
      record { ends = refl; in_range = omega arith; is = split ∙ ap (λ t. encode c ++ t) (sym later) },
      record { ends = omega arith; in_range = s.in_range; is = later },
    )

-- two characters that stand at one offset are one
pub same_character : (bytes : List ℕ) (i j k c d : ℕ) → StandsAt bytes i (encode c) j → StandsAt bytes i (encode d) k → c ≡ d
same_character bytes i j k c d s t = (encode_same c d (drop j bytes) (drop k bytes) (sym s.is ∙ t.is)).0

-- characters of a class end before an offset at which none of the class begins
runs_meet : (class : ℕ → Bool) (bytes : List ℕ) (i j k : ℕ) (cs ds : List ℕ) → All IsScalar cs → All (λ c. class c ≡ true) cs → StandsAt bytes i (encodes cs) j → NoCharacterAt class bytes j → All IsScalar ds → All (λ c. class c ≡ true) ds → StandsAt bytes i (encodes ds) k → NoCharacterAt class bytes k → cs ≡ ds
runs_meet class bytes i j k [] [] sc pc s ends sd pd t stop = refl
runs_meet class bytes i j k [] (d ∷ ds) sc pc s ends sd pd t stop =
    let here : j ≡ i = (let e = s.ends in omega arith) in
    let first = first_stands bytes i k d (encodes ds) t in
    absurd (subst (λ n. NoCharacterAt class bytes n) here ends _ (record { character = d; scalar = All-head IsScalar d ds sd; admitted = All-head (λ c. class c ≡ true) d ds pd; stands = first.0 }))
runs_meet class bytes i j k (c ∷ cs) [] sc pc s ends sd pd t stop =
    let here : k ≡ i = (let e = t.ends in omega arith) in
    let first = first_stands bytes i j c (encodes cs) s in
    absurd (subst (λ n. NoCharacterAt class bytes n) here stop _ (record { character = c; scalar = All-head IsScalar c cs sc; admitted = All-head (λ c. class c ≡ true) c cs pc; stands = first.0 }))
runs_meet class bytes i j k (c ∷ cs) (d ∷ ds) sc pc s ends sd pd t stop =
    let one = first_stands bytes i j c (encodes cs) s in
    let two = first_stands bytes i k d (encodes ds) t in
    let same : c ≡ d = same_character bytes i _ _ c d one.0 two.0 in
    let later = subst (λ x. StandsAt bytes (i + length (encode x)) (encodes ds) k) (sym same) two.1 in
    let rest = runs_meet class bytes (i + length (encode c)) j k cs ds (All-tail IsScalar c cs sc) (All-tail (λ c. class c ≡ true) c cs pc) one.1 ends (All-tail IsScalar d ds sd) (All-tail (λ c. class c ≡ true) d ds pd) later stop in
    cc (same, rest)

-- from an offset there is one longest run of a class
pub one_run : (class : ℕ → Bool) (bytes : List ℕ) (i j k : ℕ) → IsLongestRun class bytes i j → IsLongestRun class bytes i k → j ≡ k
one_run class bytes i j k a b =
    let same = runs_meet class bytes i j k a.run.characters b.run.characters a.run.scalars a.run.admitted a.run.stand a.longest b.run.scalars b.run.admitted b.run.stand b.longest in
    let size = ap (λ cs. length (encodes cs)) same in
    let e = a.run.stand.ends in
    let f = b.run.stand.ends in
    omega arith

-- what stands at a byte past ASCII is of each class but that of language tags
pub wide_of_class : (class : Class) (bytes : List ℕ) (i : ℕ) → class ≢ Lang → 128 ≤ get_or bytes i 0 → (r : Option ℕ) → MatchOption r (NoCharacterAt (λ _. true) bytes i) (IsCharacterAt (λ _. true) bytes i) → MatchOption r (NoCharacterAt (admits class) bytes i) (IsCharacterAt (admits class) bytes i)
wide_of_class class bytes i other wide None none = λ j h. none j (record { character = h.character; scalar = h.scalar; admitted = refl; stands = h.stands })
wide_of_class class bytes i other wide (Some j) h = record {
  character = h.character;
  scalar = h.scalar;
  admitted = wide_admitted class h.character other (wide_character bytes i j h.character h.stands wide (cases_lt h.character 128));
  stands = h.stands;
}

-- no language tag goes on at a byte past ASCII
pub no_wide_tag : (bytes : List ℕ) (i : ℕ) → 128 ≤ get_or bytes i 0 → NoCharacterAt (admits Lang) bytes i
no_wide_tag bytes i wide = λ j h. absurd (false≢true (sym (wide_no_tag h.character (wide_character bytes i j h.character h.stands wide (cases_lt h.character 128))) ∙ h.admitted))

pub none_at_end : (class : ℕ → Bool) (bytes : List ℕ) (i : ℕ) → i ≡ length bytes → NoCharacterAt class bytes i
none_at_end class bytes i e = λ j h.
    let moves = character_moves class bytes i j h in
    let inside = h.stands.in_range in
    omega arith

-- the class doesn't have the ASCII byte
pub none_at_ascii : (class : ℕ → Bool) (bytes : List ℕ) (i : ℕ) → i < length bytes → get_or bytes i 0 < 128 → class (get_or bytes i 0) ≡ false → NoCharacterAt class bytes i
none_at_ascii class bytes i inside low out = λ j h.
    absurd (false≢true (sym out ∙ (ap class (sym (ascii_character bytes i j h.character h.stands inside low)) ∙ h.admitted)))

pub some_at_ascii : (class : ℕ → Bool) (bytes : List ℕ) (i : ℕ) → i < length bytes → get_or bytes i 0 < 128 → class (get_or bytes i 0) ≡ true → IsCharacterAt class bytes i (i + 1)
some_at_ascii class bytes i inside low admitted = record {
  character = get_or bytes i 0;
  scalar = low_scalar (get_or bytes i 0) (omega arith);
  admitted = admitted;
  stands = ascii_stands bytes i (get_or bytes i 0) inside refl low;
}
