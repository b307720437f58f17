-- What the private readers find at the front of bytes.
use Rattle.std.specs.Prelude.{◌≡◌, ℕ, Bool, true, false, ◌||◌, ◌==◌, List, ◌∷◌, ◌++◌, Option, Some, None, length, IsTrue, MatchOption}
use Rattle.std.specs.Borrow.{Bor}
use Rattle.dl_names.specs.NameList.{Text}
use Rattle.dl_triples.specs.declared.spelling.Quoting.{Quoting}
use Rattle.dl_triples.specs.declared.spelling.Quoting.TheVariants as quotings
use Rattle.dl_triples.specs.declared.line.Iri.{Iri}
use Rattle.dl_triples.specs.declared.line.Triple.{Triple}
use Rattle.dl_triples.specs.declared.line.Form.{Form}
use Rattle.dl_triples.specs.declared.line.Form.TheVariants as forms
use Rattle.dl_triples.specs.Lines.{IsLine, IsLineEnd}
use Rattle.std.specs.List.{list_all}
use Rattle.std.specs.Char.{IsScalar, is_ascii_hexdigit}
use Rattle.std.specs.Str.{IsUtf8}
use Rattle.dl_triples.specs.Spelling.{IsEscape, Spells, is_plain, is_allowed, digit_count, hex_value}
use Rattle.dl_triples.specs.Terms.{IriThen, ObjectThen, IsTriple, IsNothing, HasNode, AreSubtags, IsTag, IsSuffix, trimmed}
use Rattle.dl_triples.specs.Runs.{begins}

-- an escape stands at the front, and then the rest
pub record EscapeThen (quoting : Quoting) (bytes : List ℕ) (c : ℕ) (rest : List ℕ) : Type 0 where
  pub part : List ℕ
  pub is : IsEscape quoting part c
  pub stands : bytes ≡ part ++ rest

-- a byte that goes on with the spelling of a text
abbrev pub goes_on : Quoting → ℕ → Bool
goes_on quoting b = is_plain quoting b || b == 92

-- a text is spelled at the front, and what stands behind can't go on with it
pub record SpelledThen (quoting : Quoting) (bytes value rest : List ℕ) : Type 0 where
  pub text : List ℕ
  pub stands : bytes ≡ text ++ rest
  pub spells : Spells quoting text value
  pub ends : begins (goes_on quoting) rest ≡ false

-- a text is spelled at the front, and no other goes on behind it; it spells itself where it is
-- plain
pub record IsSpelled (quoting : Quoting) (bytes rest : List ℕ) (plain : Bool) : Type 0 where
  pub text : List ℕ
  pub value : List ℕ
  pub stands : bytes ≡ text ++ rest
  pub spells : Spells quoting text value
  pub same : IsTrue plain → value ≡ text
  pub only : (other tail : List ℕ) → SpelledThen quoting bytes other tail → rest ≡ tail

-- the digits of an escape stand at the front, and then the rest
pub record NumberThen (quoting : Quoting) (e : ℕ) (bytes : List ℕ) (c : ℕ) (rest : List ℕ)
    : Type 0 where
  pub digits : List ℕ
  pub count : digit_count e ≡ Some (length digits)
  pub hex : list_all is_ascii_hexdigit digits ≡ true
  pub is : c ≡ hex_value digits
  pub scalar : IsScalar c
  pub allowed : is_allowed quoting c ≡ true
  pub stands : bytes ≡ digits ++ rest

-- what closes a text
abbrev pub closing : Quoting → ℕ
closing quotings.Iri = 62
closing quotings.Literal = 34

-- a text stands at the front up to what closes it, and then the rest
pub record TextThen (quoting : Quoting) (bytes text value rest : List ℕ) : Type 0 where
  pub stands : bytes ≡ text ++ closing quoting ∷ rest
  pub utf8 : IsUtf8 text
  pub spells : Spells quoting text value

-- such a text, which spells itself where it is plain
pub record FindsText (quoting : Quoting) (bytes text : List ℕ) (plain : Bool) (rest : List ℕ)
    : Type 0 where
  pub value : List ℕ
  pub then : TextThen quoting bytes text value rest
  pub same : IsTrue plain → value ≡ text

-- further parts of a tag stand at the front, then the dot, and then the rest
pub record SubtagsThen (bytes rest : List ℕ) : Type 0 where
  pub part : List ℕ
  pub behind : List ℕ
  pub is : AreSubtags part
  pub stands : bytes ≡ part ++ behind
  pub dot : trimmed behind ≡ 46 ∷ rest

-- the same of a whole tag
pub record TagThen (bytes rest : List ℕ) : Type 0 where
  pub part : List ℕ
  pub behind : List ℕ
  pub is : IsTag part
  pub stands : bytes ≡ part ++ behind
  pub dot : trimmed behind ≡ 46 ∷ rest

-- the same of what stands behind the quotes of a literal
pub record SuffixThen (bytes rest : List ℕ) : Type 0 where
  pub part : List ℕ
  pub behind : List ℕ
  pub is : IsSuffix part
  pub stands : bytes ≡ part ++ behind
  pub dot : trimmed behind ≡ 46 ∷ rest

-- the same of a literal behind its opening quote
pub record LiteralThen (bytes rest : List ℕ) : Type 0 where
  pub text : List ℕ
  pub value : List ℕ
  pub behind : List ℕ
  pub quoted : TextThen quotings.Literal bytes text value behind
  pub suffixed : SuffixThen behind rest

-- an IRI as it is kept: its text between < and >, which is the IRI itself where it is plain
pub record IsKept (iri : Iri) (value : Text) : Type 0 where
  pub spells : Spells quotings.Iri iri.text.now value
  pub plain : IsTrue iri.plain → value ≡ iri.text.now

-- an object as it is kept
pub data IsKeptObject : Option Iri → Option Text → Type 0 where
  iri : {kept : Iri} {value : Text} → IsKept kept value → IsKeptObject (Some kept) (Some value)
  literal : IsKeptObject None None

-- an IRIREF stands at the front, and is kept so
pub record FindsIri (bytes : List ℕ) (iri : Iri) (rest : List ℕ) : Type 0 where
  pub value : Text
  pub then : IriThen bytes value rest
  pub kept : IsKept iri value

-- an object with the dot stands at the front, and is kept so
pub record FindsObject (bytes : List ℕ) (object : Option Iri) (rest : List ℕ) : Type 0 where
  pub value : Option Text
  pub then : ObjectThen bytes value rest
  pub kept : IsKeptObject object value

-- a triple as it is kept
pub record IsKeptTriple (triple : Triple) (subject predicate : Text) (object : Option Text)
    : Type 0 where
  pub first : IsKept triple.subject subject
  pub second : IsKept triple.predicate predicate
  pub third : IsKeptObject triple.object object

-- the line is a triple, which is kept so
pub record KeepsTriple (line : List ℕ) (triple : Triple) : Type 0 where
  pub subject : Text
  pub predicate : Text
  pub object : Option Text
  pub is : IsTriple line subject predicate object
  pub kept : IsKeptTriple triple subject predicate object

-- the line has none of the forms, and no blank node begins where a term has to begin
pub record HasNoForm (line : List ℕ) : Type 0 where
  pub no_nothing : IsNothing line → ⊥
  pub no_triple : (subject predicate : Text) (object : Option Text)
      → IsTriple line subject predicate object → ⊥
  pub no_node : HasNode line → ⊥

-- the form of a line
abbrev pub HasForm : List ℕ → Form → Type 0
HasForm line forms.Nothing = IsNothing line
HasForm line (forms.Triple triple) = KeepsTriple line triple
HasForm line forms.Node = HasNode line
HasForm line forms.Other = HasNoForm line

-- a line stands at the front, and behind its end the rest
pub record LineThen (bytes line rest : List ℕ) : Type 0 where
  pub end : List ℕ
  pub is : IsLineEnd end rest
  pub stands : bytes ≡ line ++ (end ++ rest)

-- the first line, and what stands behind its end, if the end of the bytes doesn't end it
pub record IsFirstLine (bytes line : List ℕ) (rest : Option (Bor (List ℕ))) : Type 0 where
  pub is_line : IsLine line
  pub ends : MatchOption rest (bytes ≡ line) (λ r. LineThen bytes line r.now)
