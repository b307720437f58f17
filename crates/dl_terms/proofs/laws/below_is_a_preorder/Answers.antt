use Rattle.dl_terms.proofs.BelowLemmas.{RoleBelow-refl, RoleBelow-trans, ConceptBelow-refl, ConceptBelow-trans, ConceptBelow-SomeOf}
use Rattle.dl_terms.proofs.laws.below_is_a_preorder.Goals as goal

pub returns-clause-role_itself : goal.returns-clause-role_itself
returns-clause-role_itself c = RoleBelow-refl

pub returns-clause-role_chain : goal.returns-clause-role_chain
returns-clause-role_chain c = λ axioms r s t. RoleBelow-trans axioms

pub returns-clause-concept_itself : goal.returns-clause-concept_itself
returns-clause-concept_itself c = ConceptBelow-refl

pub returns-clause-concept_chain : goal.returns-clause-concept_chain
returns-clause-concept_chain c = λ axioms b c d. ConceptBelow-trans axioms

pub returns-clause-some_of : goal.returns-clause-some_of
returns-clause-some_of c = λ axioms r s. ConceptBelow-SomeOf axioms
