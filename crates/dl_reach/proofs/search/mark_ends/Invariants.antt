use Rattle.std.proofs.Common.{ℕ, map, take}
use Rattle.dl_reach.specs.Search.{Marks}
use Rattle.dl_reach.proofs.search.mark_ends.Given as goal

abbrev pub invariant-loop-edge : goal.invariant-loop-edge
invariant-loop-edge l =
    Marks (map (λ (e : ℕ × ℕ). e.1) (take l.edge-index l.edges)) l.initial.seen l.initial.found.items l.seen l.found.items
