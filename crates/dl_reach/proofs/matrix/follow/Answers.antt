use Rattle.std.proofs.Common.{rules}
use Rattle.dl_reach.specs.Matrix.{HasBit}
use Rattle.dl_reach.proofs.Closing.{Extends-refl, Extends-united}
use Rattle.dl_reach.proofs.matrix.follow.Goals as goal

pub returns-clause-extends : goal.returns-clause-extends
returns-clause-extends c =
    let has : HasBit c.args.words.now c.args.width c.args.row c.args.other = search rules in
    Extends-united c.args.width c.args.row c.args.other c.args.words.now c.unite.new.words has c.unite.ensures.bits

pub returns-then-row-other-clause-extends : goal.returns-then-row-other-clause-extends
returns-then-row-other-clause-extends c = Extends-refl c.args.width c.args.words.now
