use Rattle.dl_reach.proofs.Closing.{Extends-trans, start_bits, closed_has_chains}
use Rattle.dl_reach.proofs.closure.fill.Goals as goal

pub returns : goal.returns
returns c =
    closed_has_chains c.args.width c.args.nodes c.args.edges.now c.set_bits.new.words c.close.new.words c.requires.ends (start_bits c.args.width c.args.nodes c.args.edges.now c.args.words.now c.set_diagonal.new.words c.set_bits.new.words c.requires.empty c.set_diagonal.ensures c.set_bits.ensures) (Extends-trans c.args.width c.set_bits.new.words c.follow_all.new.words c.close.new.words c.follow_all.ensures.extends c.close.ensures.extends) c.close.ensures.followed
