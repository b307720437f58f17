use Rattle.std.proofs.Common.{◌∙◌, ◌&&◌, ◌||◌, [], ap}
use Rattle.dl_reach.specs.Rows.{row_has}
use Rattle.dl_tree.proofs.AskLemmas.{row_has-none, link_asks}
use Rattle.dl_tree.proofs.atoms.ask_link.Goals as goal

pub returns : goal.returns
returns c = λ i.
    link_asks c.args.s c.args.m c.args.link.0 c.args.link.1 (row_has c.args.row.now.items i) (row_has c.keep.new.row.items i)
    (row_has c.keep-2.new.row.items i) (row_has c.keep-3.new.row.items i) (row_has c.args.out.now i) (row_has c.args.into.now i) (row_has [] i)
    (row_has-none i) (c.keep.ensures i ∙ ap (λ b. row_has c.args.row.now.items i && (b || row_has [] i)) c.link_stands.ensures)
    (c.keep-2.ensures i ∙ ap (λ b. row_has c.keep.new.row.items i && (b || row_has c.args.out.now i)) c.link_stands-2.ensures)
    (c.keep-3.ensures i ∙ ap (λ b. row_has c.keep-2.new.row.items i && (b || row_has c.args.into.now i)) c.link_stands-3.ensures)
