use Rattle.std.proofs.Common.{sym, subst}
use Rattle.std.specs.List.Sorted.{IsSorted}
use Rattle.dl_terms.specs.Order.{pair_cmp}
use Rattle.dl_answer.specs.Probes.{HoldAlike}
use Rattle.dl_answer.specs.Kept.{AreFirst}
use Rattle.dl_answer.specs.Searches.{AreRead}
use Rattle.dl_answer.proofs.ListLemmas.{made_by}
use Rattle.dl_answer.proofs.ReaderLemmas.{goes_nowhere}
use Rattle.dl_answer.proofs.probes.shared_list.Goals as goal

pub returns-in_err-copy_of-clause-goes : goal.returns-in_err-copy_of-clause-goes
returns-in_err-copy_of-clause-goes g c = goes_nowhere _ _ _ _ _

pub returns-in-Some-clause-goes : goal.returns-in-Some-clause-goes
returns-in-Some-clause-goes g c = goes_nowhere _ _ _ _ _

pub returns-in-Some-clause-list : goal.returns-in-Some-clause-list
returns-in-Some-clause-list g c = record {
  sorted = subst (IsSorted pair_cmp) (sym c.in_ok-copy_of.ensures) c.in-Some.ensures.sorted;
  alike = λ axioms facts behind.
      subst (HoldAlike axioms facts c.args.probe.now) (sym c.in_ok-copy_of.ensures)
      (c.in-Some.ensures.list axioms facts behind.0);
}

pub returns-clause-list : goal.returns-clause-list
returns-clause-list g c =
    let Read = AreRead (g.R.Reads.stands c.args.reads.now) c.args.version c.args.hier.now c.args.kept.now in
    made_by Read (λ axioms facts. AreFirst axioms facts c.args.before.now c.args.lists.now × Read axioms facts)
    (λ axioms facts behind. behind.1) c.args.probe.now c.kept_or_made.result c.kept_or_made.ensures.list
