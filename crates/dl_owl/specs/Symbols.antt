-- The tokens of a text, as the grammar of the OWL 2 functional-style syntax sees them: what each says, and where it
-- begins.
use Rattle.std.specs.Prelude.{◌≡◌, ◌≢◌, ℕ, ◌-◌, Bool, false, List, [], ◌∷◌, length, map, slice_range}
use Rattle.dl_lex.specs.declared.keyword.Keyword.{Keyword}
use Rattle.dl_lex.specs.declared.token.TokenKind.{TokenKind}
use Rattle.dl_lex.specs.declared.token.TokenKind.TheVariants.{Open, Close, Equals, Caret, Iri, Text, Lang, Node, Short, Number, Word, End}
use Rattle.dl_lex.specs.declared.token.Token.{Token}
use Rattle.dl_lex.specs.Grammar.{IsNextToken, IsFaultAt}

-- what a token says: an IRI in full without its < and >, a short IRI as it is written, a keyword; or that none begins
pub data Symbol : Type 0 where
  opening : Symbol
  closing : Symbol
  equals : Symbol
  caret : Symbol
  full_iri : List ℕ → Symbol
  short_iri : List ℕ → Symbol
  string : Symbol
  language : Symbol
  node : Symbol
  number : Symbol
  keyword : Keyword → Symbol
  ending : Symbol
  no_token : Symbol

abbrev pub symbol_of : TokenKind → List ℕ → Symbol
symbol_of Open text = opening
symbol_of Close text = closing
symbol_of Equals text = equals
symbol_of Caret text = caret
symbol_of Iri text = full_iri (slice_range text 1 (length text - 1))
symbol_of Text text = string
symbol_of Lang text = language
symbol_of Node text = node
symbol_of Short text = short_iri text
symbol_of Number text = number
symbol_of (Word k) text = keyword k
symbol_of End text = ending

-- a symbol, and the offset of its first byte
pub record Placed : Type 0 where
  pub symbol : Symbol
  pub at : ℕ

-- the symbols without their places
abbrev pub symbols_of : List Placed → List Symbol
symbols_of tokens = map (λ t. t.symbol) tokens

abbrev pub placed : List ℕ → Token → Placed
placed bytes t = record { symbol = symbol_of t.kind (slice_range bytes t.start t.end); at = t.start }

-- these are the tokens of the bytes from a place on: all of them, or some first ones. Nothing follows the end of the
-- bytes, and nothing follows a place where no token begins
pub data AreTokens (bytes : List ℕ) (all : Bool) : ℕ → List Placed → Type 0 where
  nothing : {place : ℕ} → all ≡ false → AreTokens bytes all place []
  fault : {place : ℕ} (at : ℕ) → IsFaultAt bytes place at
      → AreTokens bytes all place (record { symbol = no_token; at = at } ∷ [])
  last : {place : ℕ} (t : Token) → IsNextToken bytes place t → t.kind ≡ End
      → AreTokens bytes all place (placed bytes t ∷ [])
  token : {place : ℕ} {more : List Placed} (t : Token) → IsNextToken bytes place t → t.kind ≢ End
      → AreTokens bytes all t.end more → AreTokens bytes all place (placed bytes t ∷ more)
