use Rattle.dl_answer.specs.Readers.{HasFacts}
use Rattle.dl_answer.proofs.ListLemmas.{listed}
use Rattle.dl_answer.proofs.probes.list_of.Goals as goal

pub returns-clause-list : goal.returns-clause-list
returns-clause-list g c =
    listed c.args.hier.now c.args.probe.now c.in_ok-below.below (HasFacts (g.R.Reads.stands c.args.reads.now) c.args.version)
    c.pairs_below.result c.in_ok-below.ensures c.pairs_below.ensures.sorted c.pairs_below.ensures.pairs
