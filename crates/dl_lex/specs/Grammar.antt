-- The tokens of this project's profile of the OWL 2 functional-style syntax, with comments from #
-- to the end of the line: which token stands where.
use Rattle.std.specs.Prelude.{◌≡◌, ◌≢◌, ℕ, ◌+◌, ◌<◌, ◌≤◌, Bool, true, false, ◌&&◌, ◌==◌, nat_lt, ◌⊎◌, List, [], ◌∷◌, Some, length, codes, slice_get, slice_range, slice_index}
use Rattle.std.specs.List.{list_any, list_all}
use Rattle.std.specs.Char.{IsScalar, is_ascii_digit}
use Rattle.std.specs.Str.{encode_utf8_all}
use Rattle.dl_lex.specs.declared.keyword.Keyword.{Keyword}
use Rattle.dl_lex.specs.declared.token.TokenKind.{TokenKind}
use Rattle.dl_lex.specs.declared.token.TokenKind.TheVariants.{Open, Close, Equals, Caret, Iri, Text, Lang, Node, Short, Number, Word, End}
use Rattle.dl_lex.specs.declared.token.Token.{Token}
use Rattle.dl_lex.specs.Keywords.{keyword_text}
use Rattle.dl_lex.specs.Characters.{StandsAt, AreCharacters, IsLongestRun, is_among, is_iri_character, is_run_character, is_comment_character, is_lang_character}

-- space, tab, carriage return or line feed
abbrev pub is_white_space : ℕ → Bool
is_white_space c = is_among c (32 ∷ 9 ∷ 13 ∷ 10 ∷ [])

-- the white space and the comments that begin at i end at j
pub data Skips (bytes : List ℕ) : ℕ → ℕ → Type 0 where
  nothing : (i : ℕ) → i ≤ length bytes
      → ((c : ℕ) → slice_get bytes i ≡ Some c → (is_white_space c ≡ false) × (c ≢ 35))
      → Skips bytes i i
  white_space : (i j c : ℕ) → slice_get bytes i ≡ Some c → is_white_space c ≡ true
      → Skips bytes (i + 1) j → Skips bytes i j
  comment : (i j k : ℕ) → slice_get bytes i ≡ Some 35
      → IsLongestRun is_comment_character bytes (i + 1) j → Skips bytes j k → Skips bytes i k

-- an IRI in full: <, characters of an IRI, >
pub record IsIri (bytes : List ℕ) (i j : ℕ) : Type 0 where
  pub inner_end : ℕ
  pub opens : StandsAt bytes i (codes "<") (i + 1)
  pub inner : AreCharacters is_iri_character bytes (i + 1) inner_end
  pub closes : StandsAt bytes inner_end (codes ">") j

-- characters of a string, in which " and \ (34 and 92) stand only behind a \
pub data IsQuoted : List ℕ → Type 0 where
  empty : IsQuoted []
  plain : (c : ℕ) (cs : List ℕ) → IsScalar c → c ≢ 34 → c ≢ 92 → IsQuoted cs → IsQuoted (c ∷ cs)
  escaped : (c : ℕ) (cs : List ℕ) → (c ≡ 34) ⊎ (c ≡ 92) → IsQuoted cs → IsQuoted (92 ∷ c ∷ cs)

-- a string: ", its characters, "
pub record IsText (bytes : List ℕ) (i j : ℕ) : Type 0 where
  pub inner_end : ℕ
  pub characters : List ℕ
  pub opens : StandsAt bytes i (34 ∷ []) (i + 1)
  pub quoted : IsQuoted characters
  pub inner : StandsAt bytes (i + 1) (encode_utf8_all characters) inner_end
  pub closes : StandsAt bytes inner_end (34 ∷ []) j

-- a language tag: @, and the longest run of letters, digits and -, of which there is one at least
pub record IsLang (bytes : List ℕ) (i j : ℕ) : Type 0 where
  pub opens : StandsAt bytes i (codes "@") (i + 1)
  pub tag : IsLongestRun is_lang_character bytes (i + 1) j
  pub some : i + 1 < j

-- begins with _: and has more
abbrev pub is_node : List ℕ → Bool
is_node text = slice_index text 0 == 95 && (slice_index text 1 == 58 && nat_lt 2 (length text))

-- has a :
abbrev pub has_colon : List ℕ → Bool
has_colon text = list_any (λ c. c == 58) text

-- has digits alone
abbrev pub is_number : List ℕ → Bool
is_number text = list_all is_ascii_digit text

-- what a run is by its text: a Node, else with a : a Short, else of digits a Number, else a Word,
-- where it is the text of a keyword
pub data IsRunText (text : List ℕ) : TokenKind → Type 0 where
  node : is_node text ≡ true → IsRunText text Node
  short : is_node text ≡ false → has_colon text ≡ true → IsRunText text Short
  number : is_node text ≡ false → has_colon text ≡ false → is_number text ≡ true
      → IsRunText text Number
  word : (keyword : Keyword) → is_node text ≡ false → has_colon text ≡ false
      → is_number text ≡ false → text ≡ keyword_text keyword → IsRunText text (Word keyword)

-- the longest run of characters of a run, of which there is one at least, and which is of the kind
pub record IsRun (bytes : List ℕ) (kind : TokenKind) (i j : ℕ) : Type 0 where
  pub run : IsLongestRun is_run_character bytes i j
  pub some : i < j
  pub is : IsRunText (slice_range bytes i j) kind

-- a token of the kind stands from i to j
abbrev pub IsTokenAt : List ℕ → TokenKind → ℕ → ℕ → Type 0
IsTokenAt bytes Open i j = StandsAt bytes i (codes "(") j
IsTokenAt bytes Close i j = StandsAt bytes i (codes ")") j
IsTokenAt bytes Equals i j = StandsAt bytes i (codes "=") j
IsTokenAt bytes Caret i j = StandsAt bytes i (codes "^^") j
IsTokenAt bytes Iri i j = IsIri bytes i j
IsTokenAt bytes Text i j = IsText bytes i j
IsTokenAt bytes Lang i j = IsLang bytes i j
IsTokenAt bytes Node i j = IsRun bytes Node i j
IsTokenAt bytes Short i j = IsRun bytes Short i j
IsTokenAt bytes Number i j = IsRun bytes Number i j
IsTokenAt bytes (Word keyword) i j = IsRun bytes (Word keyword) i j
IsTokenAt bytes End i j = (i ≡ length bytes) × (j ≡ i)

-- the first token after the white space and comments that begin at an offset
pub record IsNextToken (bytes : List ℕ) (offset : ℕ) (token : Token) : Type 0 where
  pub skipped : Skips bytes offset token.start
  pub stands : IsTokenAt bytes token.kind token.start token.end

-- after the white space and comments that begin at an offset no token begins
pub record IsFaultAt (bytes : List ℕ) (offset at : ℕ) : Type 0 where
  pub skipped : Skips bytes offset at
  pub none : (kind : TokenKind) (j : ℕ) → ¬ IsTokenAt bytes kind at j
