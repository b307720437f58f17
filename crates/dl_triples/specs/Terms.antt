-- The parts of a line of RDF 1.1 N-Triples, each on exactly its bytes, and the lines: triples, empty ones and
-- comments.
use Rattle.std.specs.Prelude.{◌≡◌, ℕ, Bool, true, ◌||◌, ◌==◌, List, [], ◌∷◌, ◌++◌, Option, Some, None, if◌then◌else◌}
use Rattle.std.specs.List.{list_all}
use Rattle.std.specs.Char.{is_ascii_alphabetic, is_ascii_alphanumeric}
use Rattle.std.specs.Str.{IsUtf8}
use Rattle.dl_names.specs.NameList.{Text}
use Rattle.dl_triples.specs.declared.spelling.Quoting.TheVariants.{Iri, Literal}
use Rattle.dl_triples.specs.Spelling.{Spells}

-- what may stand between all parts: space and tab
abbrev pub is_blank : ℕ → Bool
is_blank b = b == 32 || b == 9

-- what stands behind the spaces and tabs at the front
abbrev pub trimmed : List ℕ → List ℕ
trimmed [] = []
trimmed (b ∷ bytes) = if is_blank b then trimmed bytes else b ∷ bytes

-- an IRIREF, and the IRI that it spells between < and >
pub record IsIriref (part : List ℕ) (iri : Text) : Type 0 where
  pub text : List ℕ
  pub is : part ≡ 60 ∷ text ++ 62 ∷ []
  pub utf8 : IsUtf8 text
  pub spells : Spells Iri text iri

-- the further parts of a language tag: - and letters and digits, any number of times
pub data AreSubtags : List ℕ → Type 0 where
  none : AreSubtags []
  more : {bytes part rest : List ℕ} → (part ≡ [] → ⊥) → list_all is_ascii_alphanumeric part ≡ true
      → bytes ≡ 45 ∷ part ++ rest → AreSubtags rest → AreSubtags bytes

-- a language tag: letters, and then its further parts
pub record IsTag (tag : List ℕ) : Type 0 where
  pub primary : List ℕ
  pub subtags : List ℕ
  pub is : tag ≡ primary ++ subtags
  pub some : primary ≡ [] → ⊥
  pub letters : list_all is_ascii_alphabetic primary ≡ true
  pub further : AreSubtags subtags

-- what tells the datatype of a literal or its language, or nothing
pub data IsSuffix : List ℕ → Type 0 where
  nothing : IsSuffix []
  datatype : {part iri : List ℕ} → IsIriref part iri → IsSuffix (94 ∷ 94 ∷ part)
  language : {tag : List ℕ} → IsTag tag → IsSuffix (64 ∷ tag)

-- a literal: a string in quotes, and its suffix
pub record IsLiteral (part : List ℕ) : Type 0 where
  pub text : List ℕ
  pub value : List ℕ
  pub suffix : List ℕ
  pub is : part ≡ 34 ∷ text ++ 34 ∷ suffix
  pub utf8 : IsUtf8 text
  pub spells : Spells Literal text value
  pub suffixed : IsSuffix suffix

-- an object: an IRIREF with its IRI, or a literal
pub data IsObject (part : List ℕ) : Option Text → Type 0 where
  iri : {iri : Text} → IsIriref part iri → IsObject part (Some iri)
  literal : IsLiteral part → IsObject part None

-- an IRIREF stands at the front, and then the rest
pub record IriThen (bytes : List ℕ) (iri : Text) (rest : List ℕ) : Type 0 where
  pub part : List ℕ
  pub is : IsIriref part iri
  pub stands : bytes ≡ part ++ rest

-- an object stands at the front, then, behind spaces and tabs, the dot that ends a triple, and then the
-- rest
pub record ObjectThen (bytes : List ℕ) (object : Option Text) (rest : List ℕ) : Type 0 where
  pub part : List ℕ
  pub behind : List ℕ
  pub is : IsObject part object
  pub stands : bytes ≡ part ++ behind
  pub dot : trimmed behind ≡ 46 ∷ rest

-- nothing but spaces, tabs and a comment, which is UTF-8
pub data IsNothing (bytes : List ℕ) : Type 0 where
  empty : trimmed bytes ≡ [] → IsNothing bytes
  comment : {text : List ℕ} → trimmed bytes ≡ 35 ∷ text → IsUtf8 text → IsNothing bytes

-- the line is a triple of these terms; its object is an IRI or, where there is none, a literal
pub record IsTriple (line : List ℕ) (subject predicate : Text) (object : Option Text) : Type 0 where
  pub second : List ℕ
  pub third : List ℕ
  pub rest : List ℕ
  pub first_term : IriThen (trimmed line) subject second
  pub second_term : IriThen (trimmed second) predicate third
  pub third_term : ObjectThen (trimmed third) object rest
  pub ends : IsNothing rest

-- behind spaces and tabs begins a blank node
abbrev pub NodeNext : List ℕ → Type 0
NodeNext bytes = (rest : List ℕ) × (trimmed bytes ≡ 95 ∷ 58 ∷ rest)

-- a blank node begins where the subject or, behind two right terms, the object has to begin
pub data HasNode (line : List ℕ) : Type 0 where
  subject : NodeNext line → HasNode line
  object : {subject predicate : Text} {second third : List ℕ}
      → IriThen (trimmed line) subject second → IriThen (trimmed second) predicate third → NodeNext third
      → HasNode line
