use Rattle.std.proofs.Common.{◌≡◌, ℕ, List, ◌++◌, get_or}
use Rattle.dl_numbers.specs.DepthFirst.{AreExactly}
use Rattle.dl_numbers.specs.Places.{places}
use Rattle.dl_numbers.proofs.order.push_members.Given as goal

abbrev pub invariant-loop-place : goal.invariant-loop-place
invariant-loop-place l =
    (members : List ℕ) × AreExactly (places l.place) (λ k. get_or l.leaders k 0 ≡ l.class) members
    × (l.found.items ≡ l.initial.found.items ++ members)
