use Rattle.dl_owl.proofs.Whole.{ontology_is, is_ontology, lone_is, is_lone}
use Rattle.dl_owl.proofs.laws.values_are_those_of_the_grammar.Goals as goal

pub returns-clause-ontology : goal.returns-clause-ontology
returns-clause-ontology c =
    λ names after tokens document fits.
    (ontology_is names tokens document after fits, λ h. is_ontology names tokens document after h.0 h.1)

pub returns-clause-axiom : goal.returns-clause-axiom
returns-clause-axiom c =
    λ names after tokens document fits.
    (lone_is names tokens document after fits, λ h. is_lone names tokens document after h.0 h.1)
