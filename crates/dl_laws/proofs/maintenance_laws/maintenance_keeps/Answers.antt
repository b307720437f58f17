use Rattle.dl_core.proofs.MaintainLemmas.{migrated_keep, swept_keep, reclaimed_keep}
use Rattle.dl_laws.proofs.maintenance_laws.maintenance_keeps.Goals as goal

pub returns-clause-migrate : goal.returns-clause-migrate
returns-clause-migrate c = migrated_keep

pub returns-clause-sweep : goal.returns-clause-sweep
returns-clause-sweep c = swept_keep

pub returns-clause-reclaim : goal.returns-clause-reclaim
returns-clause-reclaim c = reclaimed_keep
