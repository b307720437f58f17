use Rattle.std.proofs.Common.{subst, ◌∙◌}
use Rattle.dl_answer.specs.Readers.{HasFacts}
use Rattle.dl_answer.specs.Probes.{AreBehind}
use Rattle.dl_answer.specs.Sifted.{IsListAmong}
use Rattle.dl_answer.specs.Searches.{AreRead}
use Rattle.dl_answer.proofs.ListLemmas.{among_by}
use Rattle.dl_answer.proofs.ReaderLemmas.{goes_fetching, goes_further}
use Rattle.dl_answer.proofs.uneven.few_and_many.Goals as goal

pub returns-in_err-many-clause-goes : goal.returns-in_err-many-clause-goes
returns-in_err-many-clause-goes g c =
    goes_further c.in_ok-few.ensures.goes
    (goes_fetching _ _ (g.met.R.Reads.stands_for c.list_kept.new.reads) _
    (c.in_ok-few.ensures.goes.fetched.pin ∙ c.requires.pin) c.in_err-many.ensures.fetched)

pub returns-clause-goes : goal.returns-clause-goes
returns-clause-goes g c =
    goes_further c.in_ok-few.ensures.goes
    (goes_fetching _ _ (g.met.R.Reads.stands_for c.list_kept.new.reads) _
    (c.in_ok-few.ensures.goes.fetched.pin ∙ c.requires.pin) c.in_ok-many.ensures.fetched)

pub returns-clause-many : goal.returns-clause-many
returns-clause-many g c =
    let S = g.R.Reads.stands c.list_kept.new.reads in
    let h = c.args.hier.now in
    let v = c.args.version in
    let many = c.in_ok-many.many in
    let Read = AreRead (g.R.Reads.stands c.args.reads.now) v h c.args.kept.now in
    subst (λ others. IsListAmong Read c.args.other.now others many) c.as_slice.ensures
    (among_by (λ axioms facts. HasFacts S v facts × AreBehind h axioms facts) Read
    (λ axioms facts read. let now = c.in_ok-few.ensures.goes.stays axioms facts read in (now.has, now.behind))
    c.args.other.now c.as_slice.result.now many c.in_ok-many.ensures.list)
