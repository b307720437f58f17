-- What a triple says (OWL 2 Mapping to RDF Graphs: class and object property assertions). What is skipped,
-- what has no effect and what is reserved is this project's own.
use Rattle.std.specs.Prelude.{ℕ, Bool, List, [], ◌∷◌, codes, Option, Some, None, if◌then◌else◌}
use Rattle.std.specs.List.{list_any}
use Rattle.std.specs.Str.{bytes_eq}
use Rattle.dl_names.specs.NameList.{Text, names_after, place_of}
use Rattle.dl_names.specs.Iris.{is_free, owl_nothing, rdf_type}
use Rattle.dl_terms.specs.declared.axiom.Fact.{Fact}
use Rattle.dl_terms.specs.declared.axiom.Fact.TheVariants.{Is, Link}
use Rattle.dl_triples.specs.declared.meaning.Kind.{Kind}
use Rattle.dl_triples.specs.declared.meaning.Kind.TheVariants as kinds
use Rattle.dl_triples.specs.declared.meaning.Meaning.{Meaning}
use Rattle.dl_triples.specs.declared.meaning.Meaning.TheVariants as meanings

-- the annotation properties that OWL 2 has built in
abbrev pub annotation_properties : List Text
annotation_properties =
    codes "http://www.w3.org/2000/01/rdf-schema#label"
    ∷ codes "http://www.w3.org/2000/01/rdf-schema#comment"
    ∷ codes "http://www.w3.org/2000/01/rdf-schema#seeAlso"
    ∷ codes "http://www.w3.org/2000/01/rdf-schema#isDefinedBy"
    ∷ codes "http://www.w3.org/2002/07/owl#versionInfo"
    ∷ codes "http://www.w3.org/2002/07/owl#deprecated"
    ∷ codes "http://www.w3.org/2002/07/owl#priorVersion"
    ∷ codes "http://www.w3.org/2002/07/owl#backwardCompatibleWith"
    ∷ codes "http://www.w3.org/2002/07/owl#incompatibleWith" ∷ []

-- the classes that every individual is in: that one is in them says nothing
abbrev pub universal_classes : List Text
universal_classes =
    codes "http://www.w3.org/2002/07/owl#NamedIndividual" ∷ codes "http://www.w3.org/2002/07/owl#Thing" ∷ []

-- the IRI is one of these
abbrev pub is_among : Text → List Text → Bool
is_among iri iris = list_any (bytes_eq iri) iris

-- what kind of IRI it is: a name where it isn't reserved
abbrev pub kind_of : Text → Kind
kind_of iri =
    if is_free iri then kinds.Name
    else if is_among iri annotation_properties then kinds.Annotation
    else if bytes_eq iri rdf_type then kinds.Type
    else if is_among iri universal_classes then kinds.Universal
    else if bytes_eq iri owl_nothing then kinds.Nothing
    else kinds.Reserved

-- what a triple says whose subject, predicate and object are IRIs of these kinds
abbrev pub meaning_of_kinds : Kind → Kind → Kind → Meaning
meaning_of_kinds _ kinds.Annotation _ = meanings.Skipped
meaning_of_kinds _ kinds.Type kinds.Universal = meanings.NoEffect
meaning_of_kinds kinds.Name kinds.Type kinds.Nothing = meanings.Class
meaning_of_kinds kinds.Name kinds.Type kinds.Name = meanings.Class
meaning_of_kinds kinds.Name kinds.Name kinds.Name = meanings.Link
meaning_of_kinds _ _ _ = meanings.Reserved

-- what a triple says; one whose object is a literal is skipped
abbrev pub meaning_of : Text → Text → Option Text → Meaning
meaning_of subject predicate None = meanings.Skipped
meaning_of subject predicate (Some object) =
    meaning_of_kinds (kind_of subject) (kind_of predicate) (kind_of object)

-- the names of a fact, in the order of the triple; rdf:type is none of them
abbrev pub names_of : Meaning → Text → Text → Option Text → List Text
names_of meanings.Class subject predicate (Some object) = subject ∷ object ∷ []
names_of meanings.Link subject predicate (Some object) = subject ∷ predicate ∷ object ∷ []
names_of _ subject predicate object = []

-- the fact, by the places of its names
abbrev pub facts_of : Meaning → Text → Text → Option Text → List Text → List Fact
facts_of meanings.Class subject predicate (Some object) names =
    Is (place_of names object) (place_of names subject) ∷ []
facts_of meanings.Link subject predicate (Some object) names =
    Link (place_of names predicate) (place_of names subject) (place_of names object) ∷ []
facts_of _ subject predicate object names = []

-- 1 for a triple that is skipped and counted
abbrev pub skips : Meaning → ℕ
skips meanings.Skipped = 1
skips _ = 0

-- the names of what a triple says, and its fact
abbrev pub triple_names : Text → Text → Option Text → List Text
triple_names subject predicate object =
    names_of (meaning_of subject predicate object) subject predicate object

abbrev pub triple_facts : Text → Text → Option Text → List Text → List Fact
triple_facts subject predicate object names =
    facts_of (meaning_of subject predicate object) subject predicate object names

-- the names after these texts are named, from left to right
abbrev pub all_named : List Text → List Text → List Text
all_named names [] = names
all_named names (text ∷ texts) = all_named (names_after names text) texts
