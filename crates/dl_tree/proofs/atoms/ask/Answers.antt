use Rattle.std.proofs.Common.{◌∙◌, ◌&&◌, ◌||◌, ap, ap₂, sym}
use Rattle.dl_reach.specs.Rows.{row_has}
use Rattle.dl_tree.specs.Tests.{test_stands, test_at}
use Rattle.dl_tree.specs.declared.atoms.AtomTest.TheVariants.{Link}
use Rattle.dl_tree.proofs.atoms.ask.Goals as goal

pub returns-in-Is : goal.returns-in-Is
returns-in-Is c = λ i.
    c.keep.ensures i
    ∙ ap₂ (λ b l. row_has c.args.row.now.items i && (b || row_has l i)) c.is_apart.ensures c.as_slice.ensures
    ∙ ap (λ a. row_has c.args.row.now.items i && test_stands c.args.s c.args.m (test_at i a)) (sym c.in-Is.is)

pub returns-in-Link : goal.returns-in-Link
returns-in-Link c = λ i.
    c.ask_link.ensures i
    ∙ ap₂ (λ o t. row_has c.args.row.now.items i && test_stands c.args.s c.args.m (Link c.in-Link.from c.in-Link.to (row_has o i) (row_has t i)))
    c.as_slice-in-Link.ensures c.as_slice-in-Link-2.ensures
    ∙ ap (λ a. row_has c.args.row.now.items i && test_stands c.args.s c.args.m (test_at i a)) (sym c.in-Link.is)
