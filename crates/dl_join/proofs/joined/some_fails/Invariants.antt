use Rattle.std.proofs.Common.{◌<◌, ℕ, [], get_or}
use Rattle.dl_terms.specs.declared.query.Probe.{Probe}
use Rattle.dl_join.specs.Disjuncts.{ProbeHolds}
use Rattle.dl_join.specs.Probing.{IsClosed}
use Rattle.dl_join.proofs.joined.some_fails.Given as goal

abbrev pub invariant-loop-k : goal.invariant-loop-k
invariant-loop-k l = (j : ℕ) (p : Probe) → j < l.k → IsClosed (get_or l.probes j p) → (names : ℕ → ℕ) → ProbeHolds names (get_or l.lists j []) (get_or l.probes j p)
