-- The characters of bytes in UTF-8, and the classes of characters that the grammar names.
use Rattle.std.specs.Prelude.{◌≡◌, ℕ, ◌+◌, ◌≤◌, Bool, true, not, ◌&&◌, ◌||◌, ◌==◌, nat_lt, List, [], ◌∷◌, ◌++◌, drop, length, All, codes}
use Rattle.std.specs.List.{AllPass, list_any}
use Rattle.std.specs.Char.{IsScalar, encode_utf8, is_ascii_alphanumeric}
use Rattle.std.specs.Str.{encode_utf8_all}
use Rattle.dl_lex.specs.declared.characters.Class.{Class}
use Rattle.dl_lex.specs.declared.characters.Class.TheVariants.{Iri, Run, Comment, Plain, Lang}

-- the bytes from i to j are the text
pub record StandsAt (bytes : List ℕ) (i : ℕ) (text : List ℕ) (j : ℕ) : Type 0 where
  pub ends : j ≡ i + length text
  pub in_range : j ≤ length bytes
  pub is : drop i bytes ≡ text ++ drop j bytes

-- a character of the class stands from i to j
pub record IsCharacterAt (class : ℕ → Bool) (bytes : List ℕ) (i j : ℕ) : Type 0 where
  pub character : ℕ
  pub scalar : IsScalar character
  pub admitted : class character ≡ true
  pub stands : StandsAt bytes i (encode_utf8 character) j

-- no character of the class begins at i
abbrev pub NoCharacterAt : (ℕ → Bool) → List ℕ → ℕ → Type 0
NoCharacterAt class bytes i = (j : ℕ) → ¬ IsCharacterAt class bytes i j

-- from i to j stand characters of the class
pub record AreCharacters (class : ℕ → Bool) (bytes : List ℕ) (i j : ℕ) : Type 0 where
  pub characters : List ℕ
  pub scalars : All IsScalar characters
  pub admitted : AllPass class characters
  pub stand : StandsAt bytes i (encode_utf8_all characters) j

-- from i to j stands the longest run of characters of the class
pub record IsLongestRun (class : ℕ → Bool) (bytes : List ℕ) (i j : ℕ) : Type 0 where
  pub run : AreCharacters class bytes i j
  pub longest : NoCharacterAt class bytes j

-- the character is one of these
abbrev pub is_among : ℕ → List ℕ → Bool
is_among c cs = list_any (λ d. c == d) cs

-- a character of an IRI: past the space, and none of < > " { } | ^ ` \
abbrev pub is_iri_character : ℕ → Bool
is_iri_character c =
    nat_lt 32 c && not (is_among c (60 ∷ 62 ∷ 34 ∷ 123 ∷ 125 ∷ 124 ∷ 94 ∷ 96 ∷ 92 ∷ []))

-- a character of a run: one of an IRI, and none of ( ) = @ #
abbrev pub is_run_character : ℕ → Bool
is_run_character c = is_iri_character c && not (is_among c (codes "()=@#"))

-- a character of a comment: no carriage return and no line feed
abbrev pub is_comment_character : ℕ → Bool
is_comment_character c = not (is_among c (13 ∷ 10 ∷ []))

-- a character that stands for itself in a string: no " and no \
abbrev pub is_plain_character : ℕ → Bool
is_plain_character c = not (is_among c (34 ∷ 92 ∷ []))

-- a character of a language tag: an ASCII letter, a digit or -
abbrev pub is_lang_character : ℕ → Bool
is_lang_character c = is_ascii_alphanumeric c || c == 45

-- the characters of a class of the lexer
abbrev pub admits : Class → ℕ → Bool
admits Iri = is_iri_character
admits Run = is_run_character
admits Comment = is_comment_character
admits Plain = is_plain_character
admits Lang = is_lang_character
