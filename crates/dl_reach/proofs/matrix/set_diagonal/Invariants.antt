use Rattle.std.proofs.Common.{ℕ, ◌≡◌, ◌<◌, ◌↔◌, ◌⊎◌}
use Rattle.dl_reach.specs.Matrix.{HasBit}
use Rattle.dl_reach.proofs.matrix.set_diagonal.Given as goal

abbrev pub invariant-loop-row : goal.invariant-loop-row
invariant-loop-row l =
    (a b : ℕ) → HasBit l.words l.width a b ↔ (HasBit l.initial.words l.width a b ⊎ ((a ≡ b) × (a < l.row)))
