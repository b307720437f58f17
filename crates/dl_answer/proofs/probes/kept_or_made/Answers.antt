use Rattle.dl_answer.specs.Readers.{HasFacts}
use Rattle.dl_answer.specs.Probes.{AreBehind}
use Rattle.dl_answer.specs.Searches.{AreRead}
use Rattle.dl_answer.proofs.ListLemmas.{made_by}
use Rattle.dl_answer.proofs.ReaderLemmas.{goes_keeping, goes_fetching, goes_further}
use Rattle.dl_answer.proofs.probes.kept_or_made.Goals as goal

pub returns-in-Some-clause-goes : goal.returns-in-Some-clause-goes
returns-in-Some-clause-goes g c = goes_keeping _ _ _ _ _ _ c.take.ensures.kept

pub returns-in-Some-clause-list : goal.returns-in-Some-clause-list
returns-in-Some-clause-list g c = record {
  sorted = c.in-Some.ensures.sorted;
  alike = λ axioms facts read. c.in-Some.ensures.list axioms facts read.kept;
}

pub returns-in-None-clause-goes : goal.returns-in-None-clause-goes
returns-in-None-clause-goes g c =
    goes_further (goes_keeping _ _ _ _ _ _ c.take.ensures.kept)
    (goes_fetching _ _ (g.met.R.Reads.stands_for c.args.reads.now) _ c.requires.pin c.list_of.ensures.fetched)

pub returns-in-None-clause-list : goal.returns-in-None-clause-list
returns-in-None-clause-list g c =
    let S = g.R.Reads.stands c.args.reads.now in
    let h = c.args.hier.now in
    made_by (λ axioms facts. HasFacts S c.args.version facts × AreBehind h axioms facts)
    (AreRead S c.args.version h c.args.kept.now) (λ axioms facts read. (read.has, read.behind)) c.args.probe.now
    c.list_of.result c.list_of.ensures.list
