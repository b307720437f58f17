use Rattle.std.proofs.Common.{refl}
use Rattle.dl_laws.specs.Examples.{migrate_and_reclaim, pin_and_sweep, no_such_shard}
use Rattle.dl_laws.proofs.ExampleLemmas.{only_a_told, both_told}
use Rattle.dl_laws.proofs.worked_examples.maintenance_examples.Goals as goal

pub returns-clause-reclaim : goal.returns-clause-reclaim
returns-clause-reclaim c numbering is = both_told numbering is migrate_and_reclaim _ refl refl

pub returns-clause-sweep : goal.returns-clause-sweep
returns-clause-sweep c numbering is = only_a_told numbering is pin_and_sweep _ refl

pub returns-clause-no_shard : goal.returns-clause-no_shard
returns-clause-no_shard c numbering is = only_a_told numbering is no_such_shard _ refl
