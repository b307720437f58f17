use Rattle.std.proofs.Common.{◌<◌, length, add-one, arith, slice_index}
use Rattle.dl_terms.specs.Renamed.{renamed_axiom}
use Rattle.dl_names.proofs.RankLemmas.{get_or-changed, set-changed}
use Rattle.dl_names.proofs.frozen.Ranks.rank_axioms.Goals as goal

pub loop-stated-preserved : goal.loop-stated-preserved
loop-stated-preserved c =
    let i = c.loop-stated.stated-index in
    let f = renamed_axiom (slice_index c.args.self.now) in
    let i_in : i < length c.args.axioms.now = omega arith in
    rw (c.rank_axiom.ensures, c.loop-stated.invariant, get_or-changed f c.args.axioms.now, add-one) (set-changed f c.args.axioms.now i _ i_in)
