use Rattle.std.proofs.Common.{subst}
use Rattle.std.specs.List.{All}
use Rattle.std.proofs.lemmas.List.{take_all}
use Rattle.std.proofs.lemmas.List.Elements.{All-nil}
use Rattle.dl_terms.specs.Broken.{IsMet}
use Rattle.dl_terms.specs.declared.role.Basic.TheVariants.{Class}
use Rattle.dl_terms.specs.declared.role.Negative.TheVariants.{Basics}
use Rattle.dl_answer.proofs.BrokenLemmas.{first_here, next_there, none_more, absent_by}
use Rattle.dl_answer.proofs.ReaderLemmas.{goes_nowhere, goes_further}
use Rattle.dl_answer.proofs.broken.first_met.Goals as goal

pub loop-index-init : goal.loop-index-init
loop-index-init g c = record {
  none = λ axioms known read. All-nil (λ n. ¬ IsMet axioms known n.1);
  goes = goes_nowhere _ _ _ _ _;
}

pub returns-then-branch-clause-first : goal.returns-then-branch-clause-first
returns-then-branch-clause-first g c = λ axioms known read.
    first_here (IsMet axioms known) c.args.negatives.now c.loop-index.index-index (0, Basics (Class 0) (Class 0))
    c.loop-index-test.true (c.loop-index.invariant.none axioms known read)
    ((c.in_ok-is_met.ensures.met axioms known (c.loop-index.invariant.goes.stays axioms known read)).0 c.if-branch.true)

pub returns-then-branch-clause-there : goal.returns-then-branch-clause-there
returns-then-branch-clause-there g c =
    next_there c.args.negatives.now c.loop-index.index-index (0, Basics (Class 0) (Class 0)) c.loop-index-test.true

pub loop-index-preserved : goal.loop-index-preserved
loop-index-preserved g c = record {
  none = λ axioms known read.
      none_more (IsMet axioms known) c.args.negatives.now c.loop-index.index-index (0, Basics (Class 0) (Class 0))
      c.loop-index-test.true (c.loop-index.invariant.none axioms known read)
      (absent_by c.in_ok-is_met.field-0 c.if-branch.false (c.in_ok-is_met.ensures.met axioms known (c.loop-index.invariant.goes.stays axioms known read)));
  goes = goes_further c.loop-index.invariant.goes c.in_ok-is_met.ensures.goes;
}

pub returns-clause-first : goal.returns-clause-first
returns-clause-first g c = λ axioms known read.
    subst (All (λ n. ¬ IsMet axioms known n.1)) (take_all c.loop-index.index-index c.args.negatives.now c.loop-index-test.false)
    (c.loop-index.invariant.none axioms known read)

pub returns-in_err-is_met-clause-goes : goal.returns-in_err-is_met-clause-goes
returns-in_err-is_met-clause-goes g c = goes_further c.loop-index.invariant.goes c.in_err-is_met.ensures.goes

pub returns-then-branch-clause-goes : goal.returns-then-branch-clause-goes
returns-then-branch-clause-goes g c = goes_further c.loop-index.invariant.goes c.in_ok-is_met.ensures.goes
