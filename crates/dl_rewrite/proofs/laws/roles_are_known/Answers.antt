use Rattle.dl_rewrite.proofs.KnownLemmas.{follower_known, role_known}
use Rattle.dl_rewrite.proofs.laws.roles_are_known.Goals as goal

pub returns-clause-follower : goal.returns-clause-follower
returns-clause-follower c = follower_known

pub returns-clause-at_names : goal.returns-clause-at_names
returns-clause-at_names c = role_known
