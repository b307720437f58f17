use Rattle.std.proofs.Common.{sym, subst}
use Rattle.dl_owl.specs.declared.fault.OwlFault.TheVariants as fault
use Rattle.dl_owl.specs.Expected.{close_then}
use Rattle.dl_owl.specs.Walk.{here, Faults}
use Rattle.dl_owl.proofs.CursorLemmas.{exit_passes, not_kind, close-not, close-goes, close-faults}
use Rattle.dl_owl.proofs.cursor.close.Goals as goal

pub returns-then-not-is_close : goal.returns-then-not-is_close
returns-then-not-is_close c =
    λ p names k.
    subst (λ n. Faults (close_then k) (here c.args.at.now p names) names (fault.Syntax n)) (sym c.start-start.ensures)
    (close-not c.args.at.now p names k (not_kind c.is_close.result _ c.is_close.ensures c.if-not-is_close.true))

pub returns-in_err-advance : goal.returns-in_err-advance
returns-in_err-advance c =
    λ p names.
    exit_passes close_then (here c.args.at.now p names) (here c.advance.new.self p names) c.from_residual.result c.in_err-advance.field-0.0
    c.from_residual.ensures.1
    (λ k. close-faults c.args.at.now p names k (c.is_close.ensures.0 c.if-not-is_close.false) c.in_err-advance.field-0.0 c.in_err-advance.ensures)

pub returns : goal.returns
returns c =
    λ p names k.
    close-goes c.args.at.now p names k (c.is_close.ensures.0 c.if-not-is_close.false) c.advance.new.self c.rise.new.self
    c.in_ok-advance.ensures c.rise.ensures
