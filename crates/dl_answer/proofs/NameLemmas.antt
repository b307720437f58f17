-- What holds at an individual is what holds at its name.
use Rattle.std.proofs.Common.{ℕ, List}
use Rattle.dl_terms.specs.Structure.{individual, HoldsAtName, HoldsAt}
use Rattle.dl_terms.specs.Structure.HoldsAt.{at_name, at_end}
use Rattle.dl_terms.specs.declared.role.Basic.{Basic}
use Rattle.dl_terms.specs.declared.axiom.Axiom.{Axiom}
use Rattle.dl_terms.specs.declared.axiom.Fact.{Fact}
use Rattle.dl_terms.proofs.StructureLemmas.{individual-child}

-- at an individual nothing holds but what holds at its name
pub at_individual : {axioms : List Axiom} {facts : List Fact} {b : Basic} (a : ℕ)
    → HoldsAt axioms facts b (individual a) → HoldsAtName axioms facts b a
at_individual a (at_name e h) = h
at_individual a (at_end y r e below) = absurd (individual-child a y r e)
