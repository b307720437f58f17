use Rattle.dl_rewrite.proofs.KnownLemmas.{roles_had, links_known}
use Rattle.dl_rewrite.proofs.laws.hierarchies_have_roles.Goals as goal

pub returns-clause-of_axioms : goal.returns-clause-of_axioms
returns-clause-of_axioms c = roles_had

pub returns-clause-of_facts : goal.returns-clause-of_facts
returns-clause-of_facts c = links_known
