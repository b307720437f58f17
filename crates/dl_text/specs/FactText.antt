-- The text of a fact: a triple of RDF 1.1 N-Triples, with single spaces.
use Rattle.std.specs.Prelude.{List, ◌∷◌, ◌++◌, codes}
use Rattle.dl_names.specs.Iris.{rdf_type}
use Rattle.dl_names.specs.NameList.{Text}
use Rattle.dl_terms.specs.declared.axiom.Fact.{Fact}
use Rattle.dl_terms.specs.declared.axiom.Fact.TheVariants as fact
use Rattle.dl_text.specs.NameText.{name_text}

abbrev pub fact_text : List Text → Fact → Text
fact_text names (fact.Is c a) =
    name_text names a ++ (32 ∷ 60 ∷ rdf_type ++ (62 ∷ 32 ∷ name_text names c ++ codes " ."))
fact_text names (fact.Link p a b) =
    name_text names a ++ (32 ∷ name_text names p ++ (32 ∷ name_text names b ++ codes " ."))
