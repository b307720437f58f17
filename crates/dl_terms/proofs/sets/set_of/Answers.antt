use Rattle.dl_terms.proofs.SetLemmas.{set_from_dedup}
use Rattle.dl_terms.proofs.sets.set_of.Goals as goal

pub returns : goal.returns
returns g c =
    rw (c.of.ensures, ← c.into_vec-set.ensures)
    (set_from_dedup g.met.T.Ord.total g.met.T.Eq.laws g.met.T.Ord.matches_eq c.requires _ _ _
    c.sort_unstable.ensures.permutation c.sort_unstable.ensures.sorted c.dedup.ensures.filtered)
