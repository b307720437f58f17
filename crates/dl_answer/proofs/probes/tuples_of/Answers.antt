use Rattle.std.proofs.Common.{length}
use Rattle.dl_rewrite.specs.OverNames.{HasOverNames}
use Rattle.dl_answer.specs.Searches.{AreRead}
use Rattle.dl_answer.proofs.ReaderLemmas.{goes_keeping, goes_further}
use Rattle.dl_answer.proofs.SearchLemmas.{finds_by}
use Rattle.dl_answer.proofs.probes.tuples_of.Goals as goal

pub returns-in_err-first-clause-goes : goal.returns-in_err-first-clause-goes
returns-in_err-first-clause-goes g c = goes_keeping _ _ _ _ _ _ c.which_has_fewer.ensures.kept

pub returns-in-Some-clause-goes : goal.returns-in-Some-clause-goes
returns-in-Some-clause-goes g c =
    goes_further (goes_keeping _ _ _ _ _ _ c.which_has_fewer.ensures.kept) c.tuples_by_fewer.ensures.goes

pub returns-in-Some-clause-found : goal.returns-in-Some-clause-found
returns-in-Some-clause-found g c =
    let d = c.args.disjunct.now in
    let S = g.R.Reads.stands c.args.reads.now in
    let v = c.args.version in
    let h = c.args.hier.now in
    finds_by (AreRead S v h c.which_has_fewer.new.kept) (AreRead S v h c.args.kept.now)
    (λ axioms known. HasOverNames axioms known d) (length d.head) c.args.limit c.tuples_by_fewer.result
    (goes_keeping v h S (g.R.Reads.reader c.args.reads.now) _ _ c.which_has_fewer.ensures.kept).stays
    c.tuples_by_fewer.ensures.found

pub returns-in-None-clause-goes : goal.returns-in-None-clause-goes
returns-in-None-clause-goes g c =
    goes_further (goes_keeping _ _ _ _ _ _ c.which_has_fewer.ensures.kept) c.tuples_by_all.ensures.goes

pub returns-in-None-clause-found : goal.returns-in-None-clause-found
returns-in-None-clause-found g c =
    let d = c.args.disjunct.now in
    let S = g.R.Reads.stands c.args.reads.now in
    let v = c.args.version in
    let h = c.args.hier.now in
    finds_by (AreRead S v h c.which_has_fewer.new.kept) (AreRead S v h c.args.kept.now)
    (λ axioms known. HasOverNames axioms known d) (length d.head) c.args.limit c.tuples_by_all.result
    (goes_keeping v h S (g.R.Reads.reader c.args.reads.now) _ _ c.which_has_fewer.ensures.kept).stays
    c.tuples_by_all.ensures.found
