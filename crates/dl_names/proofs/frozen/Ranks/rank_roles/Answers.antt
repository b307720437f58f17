use Rattle.std.proofs.Common.{◌<◌, length, add-one, arith, slice_index}
use Rattle.dl_terms.specs.Renamed.{renamed_role}
use Rattle.dl_names.proofs.RankLemmas.{get_or-changed, set-changed}
use Rattle.dl_names.proofs.frozen.Ranks.rank_roles.Goals as goal

pub loop-role-preserved : goal.loop-role-preserved
loop-role-preserved c =
    let i = c.loop-role.role-index in
    let f = renamed_role (slice_index c.args.self.now) in
    let i_in : i < length c.args.roles.now = omega arith in
    rw (c.ranked_role.ensures, c.loop-role.invariant, get_or-changed f c.args.roles.now, add-one) (set-changed f c.args.roles.now i _ i_in)
