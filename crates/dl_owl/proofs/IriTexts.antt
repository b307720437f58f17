-- The text of an IRI, as the characters of a token and as bytes.
use Rattle.std.proofs.Common.{◌≡◌, ℕ, suc, ◌+◌, ◌<◌, ◌≤◌, ◌⊎◌, inl, inr, Bool, true, false, ◌&&◌, ◌==◌, List, [], ◌∷◌, ◌++◌, length, get_or, drop, take, refl, sym, ap, ◌∙◌, subst, append-nil, arith}
use Rattle.std.specs.Prelude.{nat_lt}
use Rattle.std.specs.List.{All, AllPass, list_all, list_any, after_first, position_or_len}
use Rattle.std.specs.Char.{IsScalar}
use Rattle.std.specs.Str.{IsUtf8}
use Rattle.std.proofs.Math.Utf8.{encode, encodes, scalar, scalars, low_scalar}
use Rattle.std.proofs.lemmas.Bool.{cases_lt, and_parts, and_from}
use Rattle.std.proofs.lemmas.Bool.Decides.{nat_tests}
use Rattle.std.proofs.lemmas.List.{drop_all, take-append-drop}
use Rattle.std.proofs.lemmas.List.Elements.{All-nil, All-cons, All-head, All-tail}
use Rattle.std.proofs.lemmas.List.Folds.{list_all-append}
use Rattle.std.proofs.lemmas.Str.{encode_ascii, inside_one, IsUtf8-append, IsUtf8-drop, IsUtf8-nil, IsUtf8-encode, IsCharBoundary-after_ascii}
use Rattle.dl_lex.specs.declared.characters.Class.TheVariants.{Iri}
use Rattle.dl_lex.specs.Characters.{is_iri_character}
use Rattle.dl_lex.proofs.Runs.{wide_admitted}
use Rattle.dl_names.specs.NameList.{Text}
use Rattle.dl_names.specs.Iris.{is_iri_byte, IsIri}
use Rattle.dl_names.proofs.NameListLemmas.{position_or_len-passes, position_or_len-lt, position_or_len-none}

-- what an IRI has as characters
pub record HasIriCharacters (text : Text) : Type 0 where
  pub characters : List ℕ
  pub scalars : All IsScalar characters
  pub admitted : AllPass is_iri_character characters
  pub is : text ≡ encodes characters

all_scalars : (cs : List ℕ) → scalars cs ≡ true → All IsScalar cs
all_scalars [] h = All-nil IsScalar
all_scalars (c ∷ cs) h =
    let parts = and_parts (scalar c) (scalars cs) h in All-cons IsScalar c cs parts.0 (all_scalars cs parts.1)

scalars_all : (cs : List ℕ) → All IsScalar cs → scalars cs ≡ true
scalars_all [] h = refl
scalars_all (c ∷ cs) h = and_from (scalar c) (scalars cs) (All-head IsScalar c cs h) (scalars_all cs (All-tail IsScalar c cs h))

admitted_bytes : (cs : List ℕ) → list_all is_iri_byte (encodes cs) ≡ true → AllPass is_iri_character cs
admitted_bytes [] h = All-nil (λ c. is_iri_character c ≡ true)
admitted_bytes (c ∷ cs) h =
    let parts = and_parts (list_all is_iri_byte (encode c)) (list_all is_iri_byte (encodes cs)) (sym (list_all-append is_iri_byte (encode c) (encodes cs)) ∙ h) in
    All-cons (λ d. is_iri_character d ≡ true) c cs (by (cases_lt c 128) parts.0) (admitted_bytes cs parts.1)
  where
    by : (c < 128) ⊎ (128 ≤ c) → list_all is_iri_byte (encode c) ≡ true → is_iri_character c ≡ true
    by (inl low) one = (and_parts (is_iri_byte c) true (subst (λ l. list_all is_iri_byte l ≡ true) (encode_ascii c low) one)).0
    by (inr wide) one = wide_admitted Iri c (λ h. cc) wide

wide_byte : (b : ℕ) → 128 ≤ b → is_iri_byte b ≡ true
wide_byte b wide = grind (arith, nat_tests)

all_wide : (xs : List ℕ) → ((k : ℕ) → k < length xs → 128 ≤ get_or xs k 0) → list_all is_iri_byte xs ≡ true
all_wide [] h = refl
all_wide (x ∷ xs) h =
    and_from (is_iri_byte x) (list_all is_iri_byte xs) (wide_byte x (h 0 (omega arith)))
    (all_wide xs (λ k within. h (suc k) (omega (arith, within))))

wide_bytes : (c : ℕ) → 128 ≤ c → (k : ℕ) → k < length (encode c) → 128 ≤ get_or (encode c) k 0
wide_bytes c wide k within = by (cases_lt (get_or (encode c) k 0) 128)
  where
    by : (get_or (encode c) k 0 < 128) ⊎ (128 ≤ get_or (encode c) k 0) → 128 ≤ get_or (encode c) k 0
    by (inl low) = absurd (let same = inside_one c [] (encode c) k (sym (append-nil (encode c))) within low in omega (arith, same, low, wide))
    by (inr h) = h

bytes_admitted : (cs : List ℕ) → AllPass is_iri_character cs → list_all is_iri_byte (encodes cs) ≡ true
bytes_admitted [] h = refl
bytes_admitted (c ∷ cs) h =
    list_all-append is_iri_byte (encode c) (encodes cs)
    ∙ and_from (list_all is_iri_byte (encode c)) (list_all is_iri_byte (encodes cs)) (by (cases_lt c 128))
    (bytes_admitted cs (All-tail (λ d. is_iri_character d ≡ true) c cs h))
  where
    by : (c < 128) ⊎ (128 ≤ c) → list_all is_iri_byte (encode c) ≡ true
    by (inl low) =
        subst (λ l. list_all is_iri_byte l ≡ true) (sym (encode_ascii c low))
        (and_from (is_iri_byte c) true (All-head (λ d. is_iri_character d ≡ true) c cs h) refl)
    by (inr wide) = all_wide (encode c) (wide_bytes c wide)

pub iri_characters : (text : Text) → IsIri text → HasIriCharacters text
iri_characters text h = record {
  characters = h.utf8.0;
  scalars = all_scalars h.utf8.0 h.utf8.1.0;
  admitted = admitted_bytes h.utf8.0 (subst (λ l. list_all is_iri_byte l ≡ true) (sym h.utf8.1.1) h.characters);
  is = sym h.utf8.1.1;
}

pub iri_of_characters : (text : Text) (cs : List ℕ) → All IsScalar cs → AllPass is_iri_character cs → text ≡ encodes cs → IsIri text
iri_of_characters text cs all pass is = record {
  utf8 = (cs, (scalars_all cs all, sym is));
  characters = subst (λ l. list_all is_iri_byte l ≡ true) (sym is) (bytes_admitted cs pass);
}

pub IsIri-append : (one two : Text) → IsIri one → IsIri two → IsIri (one ++ two)
IsIri-append one two a b = record {
  utf8 = IsUtf8-append one two a.utf8 b.utf8;
  characters = list_all-append is_iri_byte one two ∙ and_from (list_all is_iri_byte one) (list_all is_iri_byte two) a.characters b.characters;
}

list_all-drop : (n : ℕ) (xs : List ℕ) → list_all is_iri_byte xs ≡ true → list_all is_iri_byte (drop n xs) ≡ true
list_all-drop n xs h =
    (and_parts (list_all is_iri_byte (take n xs)) (list_all is_iri_byte (drop n xs))
    (sym (list_all-append is_iri_byte (take n xs) (drop n xs)) ∙ ap (list_all is_iri_byte) (take-append-drop n xs) ∙ h)).1

-- what stands behind the first colon of an IRI's text
pub IsIri-behind_colon : (text : Text) → IsIri text → IsIri (after_first (λ c. c == 58) text)
IsIri-behind_colon text h = record {
  utf8 = by (list_any (λ c. c == 58) text) refl;
  characters = list_all-drop (position_or_len (λ c. c == 58) text + 1) text h.characters;
}
  where
    by : (b : Bool) → list_any (λ c. c == 58) text ≡ b → IsUtf8 (after_first (λ c. c == 58) text)
    by true some =
        let passes = position_or_len-passes (λ c. c == 58) text 0 some in
        let colon : get_or text (position_or_len (λ c. c == 58) text) 0 ≡ 58 = grind (arith, nat_tests) in
        IsUtf8-drop text (position_or_len (λ c. c == 58) text + 1) h.utf8
        (IsCharBoundary-after_ascii text (position_or_len (λ c. c == 58) text) h.utf8
        (position_or_len-lt (λ c. c == 58) text some) (omega (arith, colon)))
    by false none =
        subst IsUtf8
        (sym (drop_all (position_or_len (λ c. c == 58) text + 1) text (omega (arith, position_or_len-none (λ c. c == 58) text none)))) IsUtf8-nil

-- an ASCII text, by a test of its bytes
pub ascii_iri : (text : Text) → list_all (λ c. nat_lt c 128 && is_iri_byte c) text ≡ true → IsIri text
ascii_iri [] h = record { utf8 = IsUtf8-nil; characters = refl }
ascii_iri (c ∷ cs) h =
    let parts = and_parts (nat_lt c 128 && is_iri_byte c) (list_all (λ d. nat_lt d 128 && is_iri_byte d) cs) h in
    let both = and_parts (nat_lt c 128) (is_iri_byte c) parts.0 in
    let low : c < 128 = grind (arith, nat_tests) in
    IsIri-append (c ∷ []) cs
    (record {
      utf8 = subst IsUtf8 (encode_ascii c low) (IsUtf8-encode c (low_scalar c (omega (arith, low))));
      characters = and_from (is_iri_byte c) true both.1 refl;
    }) (ascii_iri cs parts.1)
