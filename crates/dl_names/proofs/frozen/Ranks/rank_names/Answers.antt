use Rattle.std.proofs.Common.{◌<◌, length, add-one, arith, slice_index}
use Rattle.dl_names.proofs.RankLemmas.{get_or-changed, set-changed}
use Rattle.dl_names.proofs.frozen.Ranks.rank_names.Goals as goal

pub loop-name-preserved : goal.loop-name-preserved
loop-name-preserved c =
    let i = c.loop-name.name-index in
    let f = slice_index c.args.self.now in
    let i_in : i < length c.args.names.now = omega arith in
    rw (c.of.ensures, c.loop-name.invariant, get_or-changed f c.args.names.now, add-one) (set-changed f c.args.names.now i _ i_in)
