-- The IRI that an IRIREF spells is one, and right lines are UTF-8.
use Rattle.std.proofs.Common.{◌≡◌, ℕ, ◌+◌, ◌<◌, ◌≤◌, ◌⊎◌, inl, inr, Bool, true, false, ◌&&◌, List, [], ◌∷◌, ◌++◌, length, get_or, Option, Some, None, refl, sym, ap, ◌∙◌, subst, append_assoc, arith, length-append, nat_eq, ◌/◌, ◌%◌, cond}
use borrow.Author.Tests.{eqb-true}
use Rattle.std.proofs.Math.Utf8.{encode, low_scalar}
use Rattle.std.specs.List.{list_all}
use Rattle.std.specs.Char.{IsScalar, encode_utf8, is_ascii_alphabetic, is_ascii_alphanumeric, is_ascii_hexdigit}
use Rattle.std.specs.Str.{IsUtf8}
use Rattle.std.proofs.lemmas.Bool.{cases_lt, and_parts}
use Rattle.std.proofs.lemmas.Bool.Decides.{nat_tests}
use Rattle.std.proofs.lemmas.List.{take_at, drop_at, get_or_at, append_cancel_right}
use Rattle.std.proofs.lemmas.List.Folds.{list_all-append}
use Rattle.std.proofs.lemmas.Str.{IsUtf8-nil, IsUtf8-append, encode_ascii, IsUtf8-encode, IsUtf8-take, IsUtf8-drop, IsCharBoundary-before_ascii, IsCharBoundary-after_ascii}
use Rattle.dl_names.specs.NameList.{Text}
use Rattle.dl_names.specs.Iris.{is_iri_byte, IsIri}
use Rattle.dl_triples.specs.declared.spelling.Quoting.TheVariants as quotings
use Rattle.dl_triples.specs.Spelling.{IsEscape, letter, number, Spells, nothing, plain, escape, digit_count}
use Rattle.dl_triples.specs.Terms as terms
use Rattle.dl_triples.specs.Terms.{is_blank, trimmed, IsIriref, AreSubtags, none, more, IsSuffix, datatype, language, IsObject, IriThen, IsNothing, empty, comment, IsTriple}
use Rattle.dl_triples.proofs.SpellingLemmas.{Spells-plain, one_value}
use Rattle.dl_triples.proofs.SpelledLemmas.{rest_same}

-- ---- cutting UTF-8 at an ASCII byte

before_ascii : (x : List ℕ) (b : ℕ) (y : List ℕ) → b < 128 → IsUtf8 (x ++ b ∷ y) → IsUtf8 x
before_ascii x b y low text =
    let inside : length x < length (x ++ b ∷ y) = omega (arith, length-append x (b ∷ y)) in
    let at : get_or (x ++ b ∷ y) (length x) 0 ≡ b = get_or_at x b y 0 (length x) refl in
    let boundary = IsCharBoundary-before_ascii (x ++ b ∷ y) (length x) inside (omega (arith, at, low)) in
    subst IsUtf8 (take_at x (b ∷ y) (length x) refl) (IsUtf8-take (x ++ b ∷ y) (length x) text boundary)

behind_ascii : (x : List ℕ) (b : ℕ) (y : List ℕ) → b < 128 → IsUtf8 (x ++ b ∷ y) → IsUtf8 (b ∷ y)
behind_ascii x b y low text =
    let inside : length x < length (x ++ b ∷ y) = omega (arith, length-append x (b ∷ y)) in
    let at : get_or (x ++ b ∷ y) (length x) 0 ≡ b = get_or_at x b y 0 (length x) refl in
    let boundary = IsCharBoundary-before_ascii (x ++ b ∷ y) (length x) inside (omega (arith, at, low)) in
    subst IsUtf8 (drop_at x (b ∷ y) (length x) refl) (IsUtf8-drop (x ++ b ∷ y) (length x) text boundary)

past_ascii : (b : ℕ) (y : List ℕ) → b < 128 → IsUtf8 (b ∷ y) → IsUtf8 y
past_ascii b y low text =
    subst IsUtf8 (drop_at (b ∷ []) y 1 refl) (IsUtf8-drop (b ∷ y) 1 text (IsCharBoundary-after_ascii (b ∷ y) 0 text (omega arith) low))

IsUtf8-byte : (b : ℕ) → b < 128 → IsUtf8 (b ∷ [])
IsUtf8-byte b low = subst IsUtf8 (encode_ascii b low) (IsUtf8-encode b (low_scalar b (omega arith)))

past_all : (p : ℕ → Bool) → ((b : ℕ) → p b ≡ true → b < 128) → (part rest : List ℕ) → list_all p part ≡ true → IsUtf8 (part ++ rest) → IsUtf8 rest
past_all p low [] rest all text = text
past_all p low (b ∷ part) rest all text =
    let parts = and_parts (p b) (list_all p part) all in
    past_all p low part rest parts.1 (past_ascii b (part ++ rest) (low b parts.0) text)

pub all_ascii : (p : ℕ → Bool) → ((b : ℕ) → p b ≡ true → b < 128) → (part : List ℕ) → list_all p part ≡ true → IsUtf8 part
all_ascii p low [] all = IsUtf8-nil
all_ascii p low (b ∷ part) all = let parts = and_parts (p b) (list_all p part) all in IsUtf8-append (b ∷ []) part (IsUtf8-byte b (low b parts.0)) (all_ascii p low part parts.1)

-- ---- what an IRI spells

hexdigit_low : (b : ℕ) → is_ascii_hexdigit b ≡ true → b < 128
hexdigit_low b h = grind (arith, nat_tests)

count_low : (e n : ℕ) → digit_count e ≡ Some n → e < 128
count_low e n h = by (nat_eq e 117) refl (nat_eq e 85) refl
  where
    by : (u : Bool) → nat_eq e 117 ≡ u → (l : Bool) → nat_eq e 85 ≡ l → e < 128
    by true is l _ = omega (arith, eqb-true e 117 is)
    by false _ true is = omega (arith, eqb-true e 85 is)
    by false is false is' = let none : digit_count e ≡ None = rw (is, is') refl in absurd (cc)

-- an escape of an IRI is ASCII
around_escape : {part : List ℕ} {c : ℕ} (before rest : List ℕ) → IsEscape quotings.Iri part c → IsUtf8 (before ++ (part ++ rest)) → IsUtf8 before × IsUtf8 rest
around_escape before rest (letter h) text = absurd (cc)
around_escape before rest (number {e = e} {digits = digits} count hex _ _ _) text =
    let opened = past_ascii 92 (e ∷ digits ++ rest) (omega arith) (behind_ascii before 92 (e ∷ digits ++ rest) (omega arith) text) in (
      before_ascii before 92 (e ∷ digits ++ rest) (omega arith) text,
      past_all is_ascii_hexdigit hexdigit_low digits rest hex (past_ascii e (digits ++ rest) (count_low e (length digits) count) opened),
    )

escape_scalar : {part : List ℕ} {c : ℕ} → IsEscape quotings.Iri part c → IsScalar c
escape_scalar (letter h) = absurd (cc)
escape_scalar (number _ _ _ scalar _) = scalar

escape_allowed : {part : List ℕ} {c : ℕ} → IsEscape quotings.Iri part c → is_iri_byte c ≡ true
escape_allowed (letter h) = absurd (cc)
escape_allowed (number _ _ _ _ allowed) = allowed

-- what is spelled is UTF-8, where its spelling is
value_utf8 : {bytes value : List ℕ} (before : List ℕ) → Spells quotings.Iri bytes value → IsUtf8 (before ++ bytes) → IsUtf8 (before ++ value)
value_utf8 before nothing text = text
value_utf8 before (plain {b = b} {bytes = bytes} {value = value} _ s) text =
    subst IsUtf8 (append_assoc before (b ∷ []) value) (value_utf8 (before ++ b ∷ []) s (subst IsUtf8 (sym (append_assoc before (b ∷ []) bytes)) text))
value_utf8 before (escape {part = part} {rest = rest} {value = value} {c = c} is stands s) text =
    let around = around_escape before rest is (subst (λ l. IsUtf8 (before ++ l)) stands text) in
    IsUtf8-append before (encode_utf8 c ++ value) around.0 (IsUtf8-append (encode_utf8 c) value (IsUtf8-encode c (escape_scalar is)) (value_utf8 [] s around.1))

wide_iri : (b : ℕ) → 128 ≤ b → is_iri_byte b ≡ true
wide_iri b wide = grind (arith, nat_tests)

encode_iri : (c : ℕ) → is_iri_byte c ≡ true → (c < 128) ⊎ (128 ≤ c) → (c < 2048) ⊎ (2048 ≤ c) → (c < 65536) ⊎ (65536 ≤ c) → list_all is_iri_byte (encode c) ≡ true
unfolding encode
encode_iri c h (inl low) _ _ = let is : encode c ≡ c ∷ [] = encode_ascii c low in subst (λ l. list_all is_iri_byte l ≡ true) (sym is) (rw h refl)
encode_iri c h (inr a) (inl two) _ =
    let is : encode c ≡ (192 + c / 64) ∷ (128 + c % 64) ∷ [] = grind (arith, nat_tests) in
    subst (λ l. list_all is_iri_byte l ≡ true) (sym is) (rw (wide_iri (192 + c / 64) (omega arith), wide_iri (128 + c % 64) (omega arith)) refl)
encode_iri c h (inr a) (inr b) (inl three) =
    let is : encode c ≡ (224 + c / 4096) ∷ (128 + (c / 64) % 64) ∷ (128 + c % 64) ∷ [] = grind (arith, nat_tests) in
    subst (λ l. list_all is_iri_byte l ≡ true) (sym is)
    (rw (wide_iri (224 + c / 4096) (omega arith), wide_iri (128 + (c / 64) % 64) (omega arith), wide_iri (128 + c % 64) (omega arith)) refl)
encode_iri c h (inr a) (inr b) (inr d) =
    let is : encode c ≡ (240 + c / 262144) ∷ (128 + (c / 4096) % 64) ∷ (128 + (c / 64) % 64) ∷ (128 + c % 64) ∷ [] = grind (arith, nat_tests) in
    subst (λ l. list_all is_iri_byte l ≡ true) (sym is)
    (rw (wide_iri (240 + c / 262144) (omega arith), wide_iri (128 + (c / 4096) % 64) (omega arith), wide_iri (128 + (c / 64) % 64) (omega arith), wide_iri (128 + c % 64) (omega arith)) refl)

value_characters : {bytes value : List ℕ} → Spells quotings.Iri bytes value → list_all is_iri_byte value ≡ true
value_characters nothing = refl
value_characters (plain h s) = rw h (value_characters s)
value_characters (escape {value = value} {c = c} is stands s) =
    let first = encode_iri c (escape_allowed is) (cases_lt c 128) (cases_lt c 2048) (cases_lt c 65536) in
    list_all-append is_iri_byte (encode_utf8 c) value ∙ ap (λ b. b && list_all is_iri_byte value) first ∙ value_characters s

pub iri_is_iri : (part : List ℕ) (iri : Text) → IsIriref part iri → IsIri iri
iri_is_iri part iri h = record { utf8 = value_utf8 [] h.spells h.utf8; characters = value_characters h.spells }

pub iri_plain : (iri : Text) → IsIri iri → IsIriref (60 ∷ iri ++ 62 ∷ []) iri
iri_plain iri h = record { text = iri; is = refl; utf8 = h.utf8; spells = Spells-plain quotings.Iri iri h.characters }

pub one_iriref : (part : List ℕ) (iri other : Text) → IsIriref part iri → IsIriref part other → iri ≡ other
one_iriref part iri other h h' =
    let tails : h.text ++ 62 ∷ [] ≡ h'.text ++ 62 ∷ [] = rest_same 60 60 (h.text ++ 62 ∷ []) (h'.text ++ 62 ∷ []) (sym h.is ∙ h'.is) in
    let same : h.text ≡ h'.text = append_cancel_right h.text h'.text (62 ∷ []) tails in
    one_value h'.text iri other (subst (λ l. Spells quotings.Iri l iri) same h.spells) h'.spells

-- ---- right lines are UTF-8

blank_low : (b : ℕ) → is_blank b ≡ true → b < 128
blank_low b h = grind (arith, nat_tests)

letter_low : (b : ℕ) → is_ascii_alphabetic b ≡ true → b < 128
letter_low b h = grind (arith, nat_tests)

letter_or_digit_low : (b : ℕ) → is_ascii_alphanumeric b ≡ true → b < 128
letter_or_digit_low b h = grind (arith, nat_tests)

-- what stands behind spaces and tabs
blanks_before : (bytes : List ℕ) → IsUtf8 (trimmed bytes) → IsUtf8 bytes
blanks_before [] text = IsUtf8-nil
blanks_before (b ∷ bytes) text = by (is_blank b) refl (blanks_before bytes)
  where
    by : (blank : Bool) → is_blank b ≡ blank → (IsUtf8 (trimmed bytes) → IsUtf8 bytes) → IsUtf8 (b ∷ bytes)
    by true e tail = IsUtf8-append (b ∷ []) bytes (IsUtf8-byte b (blank_low b e)) (tail (let t : IsUtf8 (cond (is_blank b) (trimmed bytes) (b ∷ bytes)) = text in rw e at t))
    by false e tail = let t : IsUtf8 (cond (is_blank b) (trimmed bytes) (b ∷ bytes)) = text in rw e at t

behind_blanks : (bytes there : List ℕ) → trimmed bytes ≡ there → IsUtf8 there → IsUtf8 bytes
behind_blanks bytes there is text = blanks_before bytes (subst IsUtf8 (sym is) text)

pub nothing_utf8 : (bytes : List ℕ) → IsNothing bytes → IsUtf8 bytes
nothing_utf8 bytes (empty is) = behind_blanks bytes [] is IsUtf8-nil
nothing_utf8 bytes (comment {text = text} is utf8) = behind_blanks bytes (35 ∷ text) is (IsUtf8-append (35 ∷ []) text (IsUtf8-byte 35 (omega arith)) utf8)

-- bytes between two ASCII ones
enclosed : (a b : ℕ) (text rest : List ℕ) → a < 128 → b < 128 → IsUtf8 text → IsUtf8 rest → IsUtf8 (a ∷ text ++ b ∷ rest)
enclosed a b text rest low low' utf8 utf8' =
    IsUtf8-append (a ∷ []) (text ++ b ∷ rest) (IsUtf8-byte a low) (IsUtf8-append text (b ∷ rest) utf8 (IsUtf8-append (b ∷ []) rest (IsUtf8-byte b low') utf8'))

iriref_utf8 : (part : List ℕ) (iri : Text) → IsIriref part iri → IsUtf8 part
iriref_utf8 part iri h = subst IsUtf8 (sym h.is) (enclosed 60 62 h.text [] (omega arith) (omega arith) h.utf8 IsUtf8-nil)

subtags_utf8 : {tags : List ℕ} → AreSubtags tags → IsUtf8 tags
subtags_utf8 none = IsUtf8-nil
subtags_utf8 (more {part = part} {rest = rest} _ all is subtags) =
    subst IsUtf8 (sym is)
    (IsUtf8-append (45 ∷ part) rest (IsUtf8-append (45 ∷ []) part (IsUtf8-byte 45 (omega arith)) (all_ascii is_ascii_alphanumeric letter_or_digit_low part all)) (subtags_utf8 subtags))

suffix_utf8 : {suffix : List ℕ} → IsSuffix suffix → IsUtf8 suffix
suffix_utf8 terms.nothing = IsUtf8-nil
suffix_utf8 (datatype {part = part} {iri = iri} is) =
    IsUtf8-append (94 ∷ 94 ∷ []) part (IsUtf8-append (94 ∷ []) (94 ∷ []) (IsUtf8-byte 94 (omega arith)) (IsUtf8-byte 94 (omega arith))) (iriref_utf8 part iri is)
suffix_utf8 (language {tag = tag} is) =
    IsUtf8-append (64 ∷ []) tag (IsUtf8-byte 64 (omega arith))
    (subst IsUtf8 (sym is.is) (IsUtf8-append is.primary is.subtags (all_ascii is_ascii_alphabetic letter_low is.primary is.letters) (subtags_utf8 is.further)))

object_utf8 : {part : List ℕ} {o : Option Text} → IsObject part o → IsUtf8 part
object_utf8 {part = part} (terms.iri {iri = iri} is) = iriref_utf8 part iri is
object_utf8 (terms.literal is) = subst IsUtf8 (sym is.is) (enclosed 34 34 is.text is.suffix (omega arith) (omega arith) is.utf8 (suffix_utf8 is.suffixed))

iri_then_utf8 : (bytes iri rest : List ℕ) → IriThen (trimmed bytes) iri rest → IsUtf8 rest → IsUtf8 bytes
iri_then_utf8 bytes iri rest found text = behind_blanks bytes (found.part ++ rest) found.stands (IsUtf8-append found.part rest (iriref_utf8 found.part iri found.is) text)

pub triple_utf8 : (line s p : List ℕ) (o : Option Text) → IsTriple line s p o → IsUtf8 line
triple_utf8 line s p o triple =
    let object = triple.third_term in
    let dotted : IsUtf8 object.behind = behind_blanks object.behind (46 ∷ triple.rest) object.dot (IsUtf8-append (46 ∷ []) triple.rest (IsUtf8-byte 46 (omega arith)) (nothing_utf8 triple.rest triple.ends)) in
    let third : IsUtf8 triple.third = behind_blanks triple.third (object.part ++ object.behind) object.stands (IsUtf8-append object.part object.behind (object_utf8 object.is) dotted) in
    iri_then_utf8 line s triple.second triple.first_term (iri_then_utf8 triple.second p triple.third triple.second_term third)
