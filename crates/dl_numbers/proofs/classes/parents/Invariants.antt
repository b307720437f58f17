use Rattle.std.proofs.Common.{ℕ, None, MatchOption}
use Rattle.dl_numbers.specs.DepthFirst.{IsLeast, IsParent}
use Rattle.dl_numbers.specs.Places.{places, Reaches}
use Rattle.dl_numbers.proofs.LoopLemmas.{AreTold}
use Rattle.dl_numbers.proofs.classes.parents.Given as goal

abbrev pub invariant-loop-place : goal.invariant-loop-place
invariant-loop-place l =
    AreTold None (λ k parent. IsLeast (places l.order.nodes) (Reaches l.order) k
    → MatchOption parent ((p : ℕ) → IsParent (places l.order.nodes) (Reaches l.order) p k → ⊥)
    (λ p. IsParent (places l.order.nodes) (Reaches l.order) p k)) l.place l.found.items
