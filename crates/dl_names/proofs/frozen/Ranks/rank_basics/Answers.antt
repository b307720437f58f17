use Rattle.std.proofs.Common.{◌<◌, length, add-one, arith, slice_index}
use Rattle.dl_terms.specs.Renamed.{renamed_basic}
use Rattle.dl_names.proofs.RankLemmas.{get_or-changed, set-changed}
use Rattle.dl_names.proofs.frozen.Ranks.rank_basics.Goals as goal

pub loop-basic-preserved : goal.loop-basic-preserved
loop-basic-preserved c =
    let i = c.loop-basic.basic-index in
    let f = renamed_basic (slice_index c.args.self.now) in
    let i_in : i < length c.args.basics.now = omega arith in
    rw (c.ranked_basic.ensures, c.loop-basic.invariant, get_or-changed f c.args.basics.now, add-one) (set-changed f c.args.basics.now i _ i_in)
