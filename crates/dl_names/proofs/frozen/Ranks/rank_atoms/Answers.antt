use Rattle.std.proofs.Common.{◌<◌, length, add-one, arith, slice_index}
use Rattle.dl_terms.specs.Renamed.{renamed_atom}
use Rattle.dl_names.proofs.RankLemmas.{get_or-changed, set-changed}
use Rattle.dl_names.proofs.frozen.Ranks.rank_atoms.Goals as goal

pub loop-atom-preserved : goal.loop-atom-preserved
loop-atom-preserved c =
    let i = c.loop-atom.atom-index in
    let f = renamed_atom (slice_index c.args.self.now) in
    let i_in : i < length c.args.atoms.now = omega arith in
    rw (c.ranked_atom.ensures, c.loop-atom.invariant, get_or-changed f c.args.atoms.now, add-one) (set-changed f c.args.atoms.now i _ i_in)
