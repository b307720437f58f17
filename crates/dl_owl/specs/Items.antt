-- What an item of an ontology adds to its document.
use Rattle.std.specs.Prelude.{ℕ, [], ◌∷◌, ◌++◌, if◌then◌else◌}
use Rattle.dl_terms.specs.declared.role.Role.{Role}
use Rattle.dl_terms.specs.declared.axiom.Fact.{Fact}
use Rattle.dl_terms.specs.declared.axiom.Fact.TheVariants.{Link}
use Rattle.dl_text.specs.AxiomText.{property_of}
use Rattle.dl_owl.specs.declared.document.Document.{Document}
use Rattle.dl_owl.specs.declared.item.Item.{Item}
use Rattle.dl_owl.specs.declared.item.Item.TheVariants.{Axiom as axiom_item, Fact as fact_item, Class as class_item, Role as role_item, NoEffect as no_effect}

abbrev pub empty_document : Document
empty_document = record { axioms = []; facts = []; classes = []; roles = [] }

-- the document with an item more
abbrev pub with_item : Document → Item → Document
with_item d (axiom_item a) = record d { axioms = d.axioms ++ a ∷ [] }
with_item d (fact_item f) = record d { facts = d.facts ++ f ∷ [] }
with_item d (class_item n) = record d { classes = d.classes ++ n ∷ [] }
with_item d (role_item n) = record d { roles = d.roles ++ n ∷ [] }
with_item d no_effect = d

-- a role joins two individuals: by its object property, and turned where it is an inverse
abbrev pub link : Role → ℕ → ℕ → Fact
link r a b = if r.inverse then Link (property_of r) b a else Link (property_of r) a b
