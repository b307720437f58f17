-- How the texts of IRIs and of literals are spelled (RDF 1.1 N-Triples: IRIREF, STRING_LITERAL_QUOTE, UCHAR,
-- ECHAR).
use Rattle.std.specs.Prelude.{◌≡◌, ℕ, ◌+◌, ◌*◌, Bool, true, not, ◌==◌, List, [], ◌∷◌, ◌++◌, Option, Some, None, length, if◌then◌else◌}
use Rattle.std.specs.List.{list_any, list_all, fold}
use Rattle.std.specs.Char.{IsScalar, encode_utf8, digit_value, is_ascii_hexdigit}
use Rattle.dl_names.specs.Iris.{is_iri_byte}
use Rattle.dl_triples.specs.declared.spelling.Quoting.{Quoting}
use Rattle.dl_triples.specs.declared.spelling.Quoting.TheVariants.{Iri, Literal}

-- the bytes that stand for themselves: in an IRI its characters, in a literal all but " \ LF CR
abbrev pub is_plain : Quoting → ℕ → Bool
is_plain Iri b = is_iri_byte b
is_plain Literal b = not (list_any (λ f. b == f) (34 ∷ 92 ∷ 10 ∷ 13 ∷ []))

-- the characters that \u and \U may stand for: in an IRI its characters
abbrev pub is_allowed : Quoting → ℕ → Bool
is_allowed Iri c = is_iri_byte c
is_allowed Literal c = true

-- what the escapes \t \b \n \r \f \" \' \\ stand for; an IRI has none of them
abbrev pub letter_value : Quoting → ℕ → Option ℕ
letter_value Iri e = None
letter_value Literal e =
    if e == 116 then Some 9 else if e == 98 then Some 8 else if e == 110 then Some 10
    else if e == 114 then Some 13 else if e == 102 then Some 12 else if e == 34 then Some 34
    else if e == 39 then Some 39 else if e == 92 then Some 92 else None

-- \u (117) has four hexadecimal digits, and \U (85) eight
abbrev pub digit_count : ℕ → Option ℕ
digit_count e = if e == 117 then Some 4 else if e == 85 then Some 8 else None

-- the number that hexadecimal digits write
abbrev pub hex_value : List ℕ → ℕ
hex_value digits = fold (λ n d. 16 * n + digit_value d) 0 digits

-- an escape, and the character that it stands for: no surrogate and none over U+10FFFF
pub data IsEscape (quoting : Quoting) : List ℕ → ℕ → Type 0 where
  letter : {e c : ℕ} → letter_value quoting e ≡ Some c → IsEscape quoting (92 ∷ e ∷ []) c
  number : {e c : ℕ} {digits : List ℕ} → digit_count e ≡ Some (length digits)
      → list_all is_ascii_hexdigit digits ≡ true → c ≡ hex_value digits → IsScalar c
      → is_allowed quoting c ≡ true
      → IsEscape quoting (92 ∷ e ∷ digits) c

-- the bytes spell the text: plain bytes stand for themselves, and escapes for the UTF-8 of their
-- characters
pub data Spells (quoting : Quoting) : List ℕ → List ℕ → Type 0 where
  nothing : Spells quoting [] []
  plain : {b : ℕ} {bytes value : List ℕ} → is_plain quoting b ≡ true
      → Spells quoting bytes value → Spells quoting (b ∷ bytes) (b ∷ value)
  escape : {bytes part rest value : List ℕ} {c : ℕ} → IsEscape quoting part c → bytes ≡ part ++ rest
      → Spells quoting rest value → Spells quoting bytes (encode_utf8 c ++ value)
