use Rattle.std.proofs.Common.{sym, subst, ◌∙◌}
use Rattle.std.specs.List.Sorted.{IsSorted}
use Rattle.dl_terms.specs.Order.{pair_cmp}
use Rattle.dl_answer.specs.Probes.{HoldAlike}
use Rattle.dl_answer.proofs.ReaderLemmas.{goes_and_keeps}
use Rattle.dl_answer.proofs.uneven.list_kept.Goals as goal

pub keep-requires : goal.keep-requires
keep-requires g c = subst (IsSorted pair_cmp) (sym (c.in_ok-copy.ensures ∙ c.as_slice.ensures)) c.in_ok-pairs.ensures.list.sorted

pub returns-in_err-keep-clause-goes : goal.returns-in_err-keep-clause-goes
returns-in_err-keep-clause-goes g c =
    goes_and_keeps _ c.in_ok-pairs.ensures.goes (λ axioms facts read kept.
    c.keep.ensures axioms facts kept
    (subst (HoldAlike axioms facts c.args.probe.now) (sym (c.in_ok-copy.ensures ∙ c.as_slice.ensures))
    (c.in_ok-pairs.ensures.list.alike axioms facts read)))

pub returns-clause-goes : goal.returns-clause-goes
returns-clause-goes g c =
    goes_and_keeps _ c.in_ok-pairs.ensures.goes (λ axioms facts read kept.
    c.keep.ensures axioms facts kept
    (subst (HoldAlike axioms facts c.args.probe.now) (sym (c.in_ok-copy.ensures ∙ c.as_slice.ensures))
    (c.in_ok-pairs.ensures.list.alike axioms facts read)))
