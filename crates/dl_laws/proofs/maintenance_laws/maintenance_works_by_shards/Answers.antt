use Rattle.dl_core.proofs.RefillLemmas.{shard-migrated, migrated_others, shard-swept, swept_others}
use Rattle.dl_laws.proofs.maintenance_laws.maintenance_works_by_shards.Goals as goal

pub returns-clause-migrated : goal.returns-clause-migrated
returns-clause-migrated c = shard-migrated

pub returns-clause-swept : goal.returns-clause-swept
returns-clause-swept c = shard-swept

pub returns-clause-migrated_others : goal.returns-clause-migrated_others
returns-clause-migrated_others c = λ l history root stands i n.
    migrated_others root i n (record { load = l; history = history; stands = stands })

pub returns-clause-swept_others : goal.returns-clause-swept_others
returns-clause-swept_others c = swept_others
