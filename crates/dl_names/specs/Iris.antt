-- The IRIs of names: an IRIREF of RDF 1.1 N-Triples without escapes. That some names are reserved is this project's
-- own.
use Rattle.std.specs.Prelude.{ℕ, Bool, not, ◌&&◌, ◌||◌, nat_lt, ◌==◌, List, [], ◌∷◌, codes, IsTrue, IsUtf8, nat_eq}
use Rattle.std.specs.List.{list_any, list_all, starts_with}
use Rattle.std.specs.Str.{bytes_eq}

-- the characters of an IRI but for those that are not ASCII: not U+0000 to U+0020, and none of < > " { } | ^ ` \
abbrev pub is_iri_byte : ℕ → Bool
is_iri_byte b = nat_lt 32 b && not (list_any (λ f. b == f) (60 ∷ 62 ∷ 34 ∷ 123 ∷ 125 ∷ 124 ∷ 94 ∷ 96 ∷ 92 ∷ []))

-- the text of an IRI: characters in UTF-8, none of which is excluded; it may be empty
pub record IsIri (text : List ℕ) : Type 0 where
  pub utf8 : IsUtf8 text
  pub characters : IsTrue (list_all is_iri_byte text)

-- the namespaces of OWL, RDF, RDFS and XML Schema, whose names are reserved
abbrev pub reserved_namespaces : List (List ℕ)
reserved_namespaces =
    codes "http://www.w3.org/2002/07/owl#" ∷ codes "http://www.w3.org/1999/02/22-rdf-syntax-ns#"
    ∷ codes "http://www.w3.org/2000/01/rdf-schema#" ∷ codes "http://www.w3.org/2001/XMLSchema#" ∷ []

-- the name begins with one of these namespaces
abbrev pub is_reserved : List ℕ → Bool
is_reserved text = list_any (λ namespace. starts_with nat_eq text namespace) reserved_namespaces

-- no reserved namespace begins the IRI: it may name an object property or an individual
abbrev pub is_free : List ℕ → Bool
is_free iri = not (is_reserved iri)

-- the IRI of a name: not reserved
pub record IsName (text : List ℕ) : Type 0 where
  pub iri : IsIri text
  pub free : IsTrue (is_free text)

-- the class whose members no model has (OWL 2 Functional-Style Syntax)
abbrev pub owl_nothing : List ℕ
owl_nothing = codes "http://www.w3.org/2002/07/owl#Nothing"

-- what says that an individual is in a class (RDF 1.1)
abbrev pub rdf_type : List ℕ
rdf_type = codes "http://www.w3.org/1999/02/22-rdf-syntax-ns#type"

-- the IRI may name a class: it is free, or that of owl:Nothing
abbrev pub may_be_class : List ℕ → Bool
may_be_class iri = is_free iri || bytes_eq owl_nothing iri
