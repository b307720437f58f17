use Rattle.dl_scan.proofs.BelowLemmas.{set_of_moved}
use Rattle.dl_scan.proofs.scan.set_of_runs.Goals as goal

pub returns : goal.returns
returns c =
    rw (← c.into_vec-sorted.ensures)
    (set_of_moved _ _ _ c.sort.ensures.permutation (rw c.of.ensures at c.set_of.ensures))
