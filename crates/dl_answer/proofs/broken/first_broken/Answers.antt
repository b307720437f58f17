use Rattle.std.proofs.Common.{◌∙◌}
use Rattle.dl_answer.proofs.BrokenLemmas.{found_within, found_broken, found_last, found_sound}
use Rattle.dl_answer.proofs.ReaderLemmas.{goes_nowhere, goes_further}
use Rattle.dl_answer.proofs.broken.first_broken.Goals as goal

pub bounds-axioms-index : goal.bounds-axioms-index
bounds-axioms-index g c =
    found_within c.args.axioms.now c.as_slice.result.now (c.as_slice.ensures ∙ c.in_ok-normal.ensures.rows.negatives)
    c.in_ok-index.field-0 c.in-Some.index c.in-Some.is c.in_ok-index.ensures.there

pub returns-in-Some-clause-verdict : goal.returns-in-Some-clause-verdict
returns-in-Some-clause-verdict g c = λ known read.
    let negatives = c.as_slice.ensures ∙ c.in_ok-normal.ensures.rows.negatives in
    found_broken c.args.axioms.now c.as_slice.result.now negatives c.in_ok-index.field-0 known c.args.nothing
    (c.in_ok-index.ensures.first c.args.axioms.now known read) c.in-Some.index c.index-axioms-index.result c.in_ok-copy.copy
    c.in-Some.is
    (found_within c.args.axioms.now c.as_slice.result.now negatives c.in_ok-index.field-0 c.in-Some.index c.in-Some.is
    c.in_ok-index.ensures.there)
    c.index-axioms-index.is c.in_ok-copy.ensures

pub returns-then-branch-clause-verdict : goal.returns-then-branch-clause-verdict
returns-then-branch-clause-verdict g c = λ known read.
    found_last c.args.axioms.now c.as_slice.result.now (c.as_slice.ensures ∙ c.in_ok-normal.ensures.rows.negatives)
    c.in_ok-index.field-0 known c.args.nothing (c.in_ok-index.ensures.first c.args.axioms.now known read)
    c.in_ok-has_member.field-0 c.in_default.is c.if-branch.true (c.in_ok-has_member.ensures.member c.args.axioms.now known
    (c.in_ok-index.ensures.goes.stays c.args.axioms.now known read))

pub returns-clause-verdict : goal.returns-clause-verdict
returns-clause-verdict g c = λ known read.
    found_sound c.args.axioms.now c.as_slice.result.now (c.as_slice.ensures ∙ c.in_ok-normal.ensures.rows.negatives)
    c.in_ok-index.field-0 known c.args.nothing (c.in_ok-index.ensures.first c.args.axioms.now known read)
    c.in_ok-has_member.field-0 c.in_default.is c.if-branch.false (c.in_ok-has_member.ensures.member c.args.axioms.now known
    (c.in_ok-index.ensures.goes.stays c.args.axioms.now known read))

pub returns-in_err-normal-clause-goes : goal.returns-in_err-normal-clause-goes
returns-in_err-normal-clause-goes g c = goes_nowhere _ _ _ _ _

pub returns-in_err-has_member-clause-goes : goal.returns-in_err-has_member-clause-goes
returns-in_err-has_member-clause-goes g c = goes_further c.in_ok-index.ensures.goes c.in_err-has_member.ensures.goes

pub returns-then-branch-clause-goes : goal.returns-then-branch-clause-goes
returns-then-branch-clause-goes g c = goes_further c.in_ok-index.ensures.goes c.in_ok-has_member.ensures.goes

pub returns-clause-goes : goal.returns-clause-goes
returns-clause-goes g c = goes_further c.in_ok-index.ensures.goes c.in_ok-has_member.ensures.goes
