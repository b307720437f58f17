use Rattle.dl_tree.proofs.RowLemmas.{copy_tells}
use Rattle.dl_tree.proofs.bits.copied.Goals as goal

pub returns : goal.returns
returns c =
    copy_tells c.args.places c.in_ok-copy.copy.items c.args.row.now c.join.new.row.items c.in_ok-copy.ensures.wide c.in_ok-copy.ensures.none
    c.join.ensures.len c.join.ensures.bits
