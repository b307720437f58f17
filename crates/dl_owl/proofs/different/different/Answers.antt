use Rattle.std.proofs.Common.{[]}
use Rattle.dl_owl.specs.Expected.{prologue, different_close}
use Rattle.dl_owl.specs.Walk.{here, Passes}
use Rattle.dl_owl.proofs.CursorLemmas.{not_kind}
use Rattle.dl_owl.proofs.SeriesLemmas.{exit_by}
use Rattle.dl_owl.proofs.DifferentLemmas.{different_first, different_first_faults, different_second, different_second_faults, different_again, different_again_faults, different_ahead, different_closes}
use Rattle.dl_owl.proofs.different.different.Goals as goal

pub returns-in_err-add_individual : goal.returns-in_err-add_individual
returns-in_err-add_individual c =
    λ names.
    exit_by (Passes (different_close 2 []) (here c.args.at.now c.args.prefixes.now names)
    (here c.add_individual.new.at c.args.prefixes.now names))
    c.from_residual.result c.in_err-add_individual.field-0.0 c.from_residual.ensures.1
    (different_first_faults (here c.args.at.now c.args.prefixes.now names) (here c.add_individual.new.at
    c.args.prefixes.now names) c.new-before.result c.add_individual.new.before
    c.in_err-add_individual.field-0.0 c.new-before.ensures (c.in_err-add_individual.ensures names))

pub returns-in_err-add_individual-2 : goal.returns-in_err-add_individual-2
returns-in_err-add_individual-2 c =
    λ names.
    exit_by (Passes (different_close 2 []) (here c.args.at.now c.args.prefixes.now names)
    (here c.add_individual-2.new.at c.args.prefixes.now names))
    c.from_residual-in_err-add_individual-2.result c.in_err-add_individual-2.field-0.0
    c.from_residual-in_err-add_individual-2.ensures.1
    (different_second_faults c.add_individual.new.before c.add_individual-2.new.before
    (here c.args.at.now c.args.prefixes.now names)
    (here c.add_individual.new.at c.args.prefixes.now names) (here c.add_individual-2.new.at c.args.prefixes.now
    names) c.in_err-add_individual-2.field-0.0
    (different_first (here c.args.at.now c.args.prefixes.now names) (here c.add_individual.new.at c.args.prefixes.now
    names) c.new-before.result c.add_individual.new.before
    c.new-before.ensures (c.in_ok-add_individual.ensures names))
    (c.in_err-add_individual-2.ensures names))

pub loop-at-init : goal.loop-at-init
loop-at-init c =
    λ names.
    different_second c.add_individual.new.before c.add_individual-2.new.before (here c.args.at.now c.args.prefixes.now
    names)
    (here c.add_individual.new.at c.args.prefixes.now names) (here c.add_individual-2.new.at c.args.prefixes.now
    names)
    (different_first (here c.args.at.now c.args.prefixes.now names) (here c.add_individual.new.at c.args.prefixes.now
    names) c.new-before.result c.add_individual.new.before
    c.new-before.ensures (c.in_ok-add_individual.ensures names))
    (c.in_ok-add_individual-2.ensures names)

pub returns-in_err-add_individual-3 : goal.returns-in_err-add_individual-3
returns-in_err-add_individual-3 c =
    λ names.
    exit_by (Passes (different_close 2 []) (here c.args.at.now c.args.prefixes.now names)
    (here c.add_individual-in-loop-at.new.at c.args.prefixes.now names))
    c.from_residual-in_err-add_individual-3.result c.in_err-add_individual-3.field-0.0
    c.from_residual-in_err-add_individual-3.ensures.1
    (different_again_faults c.loop-at.before c.add_individual-in-loop-at.new.before
    (here c.args.at.now c.args.prefixes.now names)
    (here c.loop-at.at c.args.prefixes.now names) (here c.add_individual-in-loop-at.new.at c.args.prefixes.now names)
    c.in_err-add_individual-3.field-0.0
    (c.loop-at.invariant names) (not_kind c.is_close.result _ c.is_close.ensures c.loop-at-test.true)
    (c.in_err-add_individual-3.ensures names))

pub loop-at-preserved : goal.loop-at-preserved
loop-at-preserved c =
    λ names.
    different_again c.loop-at.before c.add_individual-in-loop-at.new.before (here c.args.at.now c.args.prefixes.now
    names)
    (here c.loop-at.at c.args.prefixes.now names) (here c.add_individual-in-loop-at.new.at c.args.prefixes.now names)
    (c.loop-at.invariant names) (not_kind c.is_close.result _ c.is_close.ensures c.loop-at-test.true)
    (c.in_ok-add_individual-3.ensures names)

pub loop-at-smaller : goal.loop-at-smaller
loop-at-smaller c =
    (different_ahead c.loop-at.before c.add_individual-in-loop-at.new.before (here c.args.at.now c.args.prefixes.now
    [])
    (here c.loop-at.at c.args.prefixes.now []) (here c.add_individual-in-loop-at.new.at c.args.prefixes.now [])
    (c.loop-at.invariant []) (not_kind c.is_close.result _ c.is_close.ensures c.loop-at-test.true)
    (c.in_ok-add_individual-3.ensures []) prologue).1.ahead

pub returns : goal.returns
returns c =
    λ names.
    different_closes c.loop-at.before (here c.args.at.now c.args.prefixes.now names)
    (here c.loop-at.at c.args.prefixes.now names) (here c.close.new.at c.args.prefixes.now names) c.close.result
    (c.loop-at.invariant names) (c.is_close.ensures.0 c.loop-at-test.false)
    (c.close.ensures c.args.prefixes.now names)
