-- The names of classes, object properties and individuals, as places among the names in the order of first occurrence.
use Rattle.std.specs.Prelude.{◌≡◌, ℕ, Bool, true, Some, List, codes}
use Rattle.dl_names.specs.NameList.{Text, names_after, place_of}
use Rattle.dl_owl.specs.Symbols.{Symbol}
use Rattle.dl_owl.specs.Prefixes.{Prefixes, iri_of}

abbrev pub owl_thing : Text
owl_thing = codes "http://www.w3.org/2002/07/owl#Thing"

abbrev pub owl_top_object_property : Text
owl_top_object_property = codes "http://www.w3.org/2002/07/owl#topObjectProperty"

-- the token is the IRI
abbrev pub IsIri : Prefixes → Symbol → Text → Type 0
IsIri p s text = iri_of p s ≡ Some text

-- the token is a name at a place of the names, which it may be the last of
pub record IsNameOf (p : Prefixes) (allowed : Text → Bool) (names : List Text) (s : Symbol) (place : ℕ)
    (after : List Text) : Type 0 where
  pub text : Text
  pub iri : IsIri p s text
  pub is_allowed : allowed text ≡ true
  pub named : after ≡ names_after names text
  pub at : place ≡ place_of after text
