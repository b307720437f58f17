use Rattle.std.proofs.Common.{◌≡◌, ℕ, List, ◌≤◌, ◌++◌, reverse, length, get_or, None}
use Rattle.dl_numbers.proofs.LoopLemmas.{AreFrom}
use Rattle.dl_numbers.proofs.order.push_children.Given as goal

abbrev pub invariant-loop-place : goal.invariant-loop-place
invariant-loop-place l =
    ((children : List ℕ) × AreFrom (length l.leaders) l.place (λ k. (get_or l.leaders k 0 ≡ k) × (get_or l.parents k None ≡ l.parent)) children
    × (l.waiting.items ≡ l.initial.waiting.items ++ reverse children)) × (l.place ≤ length l.leaders)

abbrev pub decreases-loop-place : goal.decreases-loop-place
decreases-loop-place l = l.place
