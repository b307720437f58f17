use Rattle.std.proofs.Common.{ℕ, ◌≤◌}
use Rattle.dl_reach.specs.Digraph.{AreConnected}
use Rattle.dl_numbers.proofs.LoopLemmas.{AreTold}
use Rattle.dl_numbers.proofs.classes.leaders.Given as goal

abbrev pub invariant-loop-place : goal.invariant-loop-place
invariant-loop-place l =
    AreTold 0 (λ k leader. AreConnected l.order k leader × ((other : ℕ) → AreConnected l.order k other → leader ≤ other)) l.place l.found.items
