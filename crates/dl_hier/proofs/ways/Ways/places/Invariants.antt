use Rattle.std.proofs.Common.{◌≡◌, ℕ, ◌+◌, ◌*◌, ◌<◌, length, get_or}
use Rattle.dl_hier.specs.Ways.{place}
use Rattle.dl_hier.proofs.ways.Ways.places.Given as goal

abbrev pub invariant-loop-k : goal.invariant-loop-k
invariant-loop-k l =
    (length l.places.items ≡ l.k)
    × ((j : ℕ) → j < l.k → get_or l.places.items j 0 ≡ place l.self.first l.self.rest (l.first + j * l.every))
