use Rattle.std.proofs.Common.{rules}
use Rattle.dl_tests_store.proofs.EpochLemmas.{one_begins}
use Rattle.dl_tests_store.proofs.epoch.covering.Goals as goal

pub covering-requires : goal.covering-requires
covering-requires c =
    one_begins c.entries-entries.result.now c.args.epochs.now c.args.version c.index-entries-0.result c.entries-entries.ensures.entries c.index-entries-0.is
    (search rules) (search rules)
