use Rattle.std.proofs.Common.{◌<◌, length, add-one, arith, slice_index}
use Rattle.dl_terms.specs.Renamed.{renamed_part}
use Rattle.dl_names.proofs.RankLemmas.{get_or-changed, set-changed}
use Rattle.dl_names.proofs.frozen.Ranks.rank_parts.Goals as goal

pub loop-part-preserved : goal.loop-part-preserved
loop-part-preserved c =
    let i = c.loop-part.part-index in
    let f = renamed_part (slice_index c.args.self.now) in
    let i_in : i < length c.args.parts.now = omega arith in
    rw (c.ranked_part.ensures, c.loop-part.invariant, get_or-changed f c.args.parts.now, add-one) (set-changed f c.args.parts.now i _ i_in)
