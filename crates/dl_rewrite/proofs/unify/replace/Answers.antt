use Rattle.std.proofs.Common.{◌<◌, length, add-one, arith}
use Rattle.dl_rewrite.specs.Unifiers.{replaced}
use Rattle.dl_rewrite.proofs.ListLemmas.{get_or-changed, set-changed}
use Rattle.dl_rewrite.proofs.unify.replace.Goals as goal

pub loop-term-preserved : goal.loop-term-preserved
loop-term-preserved c =
    let i = c.loop-term.term-index in
    let f = replaced c.args.v c.args.by in
    let i_in : i < length c.args.to.now = omega arith in
    rw (c.replaced.ensures, c.loop-term.invariant, get_or-changed f c.args.to.now, add-one) (set-changed f c.args.to.now i _ i_in)
