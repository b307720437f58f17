use Rattle.std.proofs.Common.{sym, subst, ◌∙◌}
use Rattle.dl_owl.specs.declared.fault.OwlFault.TheVariants as fault
use Rattle.dl_owl.specs.Expected.{open_then}
use Rattle.dl_owl.specs.Walk.{here, Faults}
use Rattle.dl_owl.proofs.CursorLemmas.{exit_passes, not_kind, open-not, open-deep, open-goes, open-faults}
use Rattle.dl_owl.proofs.cursor.open.Goals as goal

pub returns-then-not-is_open : goal.returns-then-not-is_open
returns-then-not-is_open c =
    λ p names k.
    subst (λ n. Faults (open_then k) (here c.args.at.now p names) names (fault.Syntax n)) (sym c.start-start.ensures)
    (open-not c.args.at.now p names k (not_kind c.is_open.result _ c.is_open.ensures c.if-not-is_open.true))

pub returns-then-is_deep : goal.returns-then-is_deep
returns-then-is_deep c =
    λ p names k.
    subst (λ n. Faults (open_then k) (here c.args.at.now p names) names (fault.TooDeep n)) (sym c.start-start.ensures)
    (open-deep c.args.at.now p names k (c.is_open.ensures.0 c.if-not-is_open.false) (sym c.is_deep.ensures ∙ c.if-is_deep.true))

pub returns-in_err-advance : goal.returns-in_err-advance
returns-in_err-advance c =
    λ p names.
    exit_passes open_then (here c.args.at.now p names) (here c.advance.new.self p names) c.from_residual.result c.in_err-advance.field-0.0
    c.from_residual.ensures.1
    (λ k.
    open-faults c.args.at.now p names k (c.is_open.ensures.0 c.if-not-is_open.false) (sym c.is_deep.ensures ∙ c.if-is_deep.false)
    c.in_err-advance.field-0.0 c.in_err-advance.ensures)

pub returns : goal.returns
returns c =
    λ p names k.
    open-goes c.args.at.now p names k (c.is_open.ensures.0 c.if-not-is_open.false) (sym c.is_deep.ensures ∙ c.if-is_deep.false)
    c.advance.new.self c.deepen.new.self c.in_ok-advance.ensures c.deepen.ensures
