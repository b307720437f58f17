use Rattle.dl_answer.specs.Readers.{HasFacts}
use Rattle.dl_answer.proofs.ListLemmas.{listed_among}
use Rattle.dl_answer.proofs.uneven.list_among.Goals as goal

pub returns-clause-list : goal.returns-clause-list
returns-clause-list g c =
    listed_among c.args.hier.now c.args.probe.now c.in_ok-below.below c.in_ok-sieve.sieve c.args.others.now
    (HasFacts (g.R.Reads.stands c.args.reads.now) c.args.version) c.pairs_sifted.result c.in_ok-below.ensures
    c.in_ok-sieve.ensures.pass c.pairs_sifted.ensures.sorted c.pairs_sifted.ensures.pairs
