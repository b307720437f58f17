-- What the functions of the lexer find at an offset.
use Rattle.std.specs.Prelude.{◌≡◌, ◌≢◌, ◌⊎◌, ℕ, ◌<◌, ◌≤◌, ◌++◌, [], ◌∷◌, List, Option, MatchOption, length}
use Rattle.std.specs.Str.{encode_utf8_all}
use Rattle.dl_lex.specs.declared.token.TokenKind.{TokenKind}
use Rattle.dl_lex.specs.declared.token.Token.{Token}
use Rattle.dl_lex.specs.Characters.{StandsAt}
use Rattle.dl_lex.specs.Grammar.{Skips, IsQuoted, IsRunText, IsTokenAt}

-- no token begins at the offset
abbrev pub NoTokenAt : List ℕ → ℕ → Type 0
NoTokenAt bytes at = (kind : TokenKind) (j : ℕ) → ¬ IsTokenAt bytes kind at j

-- the token stands at the offset
pub record IsTokenFrom (bytes : List ℕ) (at : ℕ) (token : Token) : Type 0 where
  pub starts : token.start ≡ at
  pub stands : IsTokenAt bytes token.kind at token.end

-- the token that stands at the offset, if one does
abbrev pub IsScan : List ℕ → ℕ → Option Token → Type 0
IsScan bytes at found = MatchOption found (NoTokenAt bytes at) (IsTokenFrom bytes at)

-- white space or a comment stands from i to j
pub record SkipsOne (bytes : List ℕ) (i j : ℕ) : Type 0 where
  pub moves : i < j
  pub in_range : j ≤ length bytes
  pub goes_on : (k : ℕ) → Skips bytes j k → Skips bytes i k

-- what is left of a string from i to j: characters of it, and its closing "
pub record IsRestOfText (bytes : List ℕ) (i j : ℕ) : Type 0 where
  pub characters : List ℕ
  pub quoted : IsQuoted characters
  pub stands : StandsAt bytes i (encode_utf8_all characters ++ 34 ∷ []) j

-- a \ with a " or a \ behind it stands from i to j
pub record IsEscapeAt (bytes : List ℕ) (i j : ℕ) : Type 0 where
  pub escaped : ℕ
  pub is : (escaped ≡ 34) ⊎ (escaped ≡ 92)
  pub stands : StandsAt bytes i (92 ∷ escaped ∷ []) j

-- no such pair begins at i
abbrev pub NoEscapeAt : List ℕ → ℕ → Type 0
NoEscapeAt bytes i = (j : ℕ) → ¬ IsEscapeAt bytes i j

-- the text is of no kind of run
abbrev pub NoRunText : List ℕ → Type 0
NoRunText text = (kind : TokenKind) → ¬ IsRunText text kind

-- the byte begins none of the tokens that are no runs
pub record IsRunByte (byte : ℕ) : Type 0 where
  pub no_open : byte ≢ 40
  pub no_close : byte ≢ 41
  pub no_equals : byte ≢ 61
  pub no_caret : byte ≢ 94
  pub no_iri : byte ≢ 60
  pub no_text : byte ≢ 34
  pub no_lang : byte ≢ 64
