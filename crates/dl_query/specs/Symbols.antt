-- The tokens of a query text. They are this project's own; what may stand between < and > is an IRIREF of RDF 1.1
-- N-Triples without escapes.
use Rattle.std.specs.Prelude.{ℕ, ◌-◌, Bool, true, false, not, ◌||◌, ◌&&◌, ◌==◌, List, [], ◌∷◌, length, map, take, drop, if◌then◌else◌, ◌≡◌}
use Rattle.std.specs.List.{position_or_len}
use Rattle.std.specs.Char.{is_ascii_alphanumeric}
use Rattle.std.specs.Str.{is_utf8}
use Rattle.dl_names.specs.NameList.{Text}
use Rattle.dl_names.specs.Iris.{is_iri_byte}
use Rattle.dl_query.specs.declared.token.Mark.{Mark}
use Rattle.dl_query.specs.declared.token.Mark.TheVariants.{QueryWord, Opening, Closing, Comma, Turnstile, Ending}

-- what a token says: q ( ) , :- or the end of the text, a variable by its name without the ?, an IRI without its < and
-- >; or that no token begins there
pub data Symbol : Type 0 where
  mark : Mark → Symbol
  variable : Text → Symbol
  iri : Text → Symbol
  no_token : Symbol

-- white space: space, tab, carriage return and line feed
abbrev pub is_blank : ℕ → Bool
is_blank b = b == 32 || b == 9 || b == 13 || b == 10

-- ASCII letters, digits and _
abbrev pub is_variable_byte : ℕ → Bool
is_variable_byte b = is_ascii_alphanumeric b || b == 95

-- how many bytes at the front pass, these bytes, and what stands behind them
abbrev pub run_len : (ℕ → Bool) → List ℕ → ℕ
run_len p bytes = position_or_len (λ b. not (p b)) bytes

abbrev pub run : (ℕ → Bool) → List ℕ → List ℕ
run p bytes = take (run_len p bytes) bytes

abbrev pub behind : (ℕ → Bool) → List ℕ → List ℕ
behind p bytes = drop (run_len p bytes) bytes

-- a token at the front, and what stands behind it
pub record Front : Type 0 where
  pub symbol : Symbol
  pub rest : List ℕ

abbrev pub front : Symbol → List ℕ → Front
front s rest = record { symbol = s; rest = rest }

-- no token begins, which is known up to the byte before this rest
abbrev pub no_front : List ℕ → Front
no_front rest = front no_token rest

-- behind : stands -
abbrev pub turnstile_of : List ℕ → Front
turnstile_of [] = no_front []
turnstile_of (b ∷ rest) = if b == 45 then front (mark Turnstile) rest else no_front rest

-- behind ? stands this name, which is as long as it can be and not empty
abbrev pub variable_of : Text → List ℕ → Front
variable_of [] [] = no_front []
variable_of [] (b ∷ rest) = no_front rest
variable_of (b ∷ name) rest = front (variable (b ∷ name)) rest

-- behind < stand these characters of an IRI, as many as there are, and then >
abbrev pub iri_of : Text → List ℕ → Front
iri_of text [] = no_front []
iri_of text (b ∷ rest) = if b == 62 && is_utf8 text then front (iri text) rest else no_front rest

-- the token that begins with this byte
abbrev pub token_of : ℕ → List ℕ → Front
token_of b rest =
    if b == 113 then front (mark QueryWord) rest
    else if b == 40 then front (mark Opening) rest
    else if b == 41 then front (mark Closing) rest
    else if b == 44 then front (mark Comma) rest
    else if b == 58 then turnstile_of rest
    else if b == 63 then variable_of (run is_variable_byte rest) (behind is_variable_byte rest)
    else if b == 60 then iri_of (run is_iri_byte rest) (behind is_iri_byte rest)
    else no_front rest

-- the token at the front of bytes that begin with no white space
abbrev pub front_of : List ℕ → Front
front_of [] = front (mark Ending) []
front_of (b ∷ rest) = token_of b rest

-- the token that stands next, behind white space
abbrev pub next_front : List ℕ → Front
next_front bytes = front_of (behind is_blank bytes)

-- a token, and the offset of its first byte
pub record Placed : Type 0 where
  pub symbol : Symbol
  pub at : ℕ

-- the next token of a text with so many bytes, of which these are left
abbrev pub next_placed : ℕ → List ℕ → Placed
next_placed len bytes = record { symbol = (next_front bytes).symbol; at = len - length (behind is_blank bytes) }

-- nothing follows the end of the text, and nothing a place where no token begins
abbrev pub is_last : Symbol → Bool
is_last (mark Ending) = true
is_last no_token = true
is_last _ = false

-- these are the tokens of what is left of a text with so many bytes
pub data AreTokens (len : ℕ) : List ℕ → List Placed → Type 0 where
  last : {bytes : List ℕ} → is_last (next_front bytes).symbol ≡ true → AreTokens len bytes (next_placed len bytes ∷ [])
  more : {bytes : List ℕ} {tokens : List Placed} → is_last (next_front bytes).symbol ≡ false
      → AreTokens len (next_front bytes).rest tokens → AreTokens len bytes (next_placed len bytes ∷ tokens)

-- the tokens without their offsets
abbrev pub symbols_of : List Placed → List Symbol
symbols_of tokens = map (λ t. t.symbol) tokens
