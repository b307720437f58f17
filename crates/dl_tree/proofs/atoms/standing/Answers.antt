use Rattle.std.proofs.Common.{◌∙◌, ◌&&◌, ap, bit_and, w8}
use Rattle.std.specs.Int.{bit_not}
use Rattle.dl_reach.specs.Rows.{row_has}
use Rattle.dl_tree.specs.Tests.{test_stands, test_at, column}
use Rattle.dl_tree.proofs.AskLemmas.{asked_next}
use Rattle.dl_tree.proofs.atoms.standing.Goals as goal

pub loop-atom-preserved : goal.loop-atom-preserved
loop-atom-preserved c = λ i.
    asked_next c.loop-atom.row.items c.args.s c.args.m i (column c.args.below.now i) c.args.atoms.now c.loop-atom.atom-index c.atom-item.result
    c.ask.new.row.items (column c.args.below.now i (bit_and c.args.s (bit_not w8 c.args.m))) c.loop-atom-test.true (c.loop-atom.invariant i)
    (c.ask.ensures i ∙ ap (λ a. row_has c.loop-atom.row.items i && test_stands c.args.s c.args.m (test_at i a)) c.atom-item.is)
