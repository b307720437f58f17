use Rattle.std.proofs.Common.{ℕ, take, ◌↔◌, ◌⊎◌, Contains}
use Rattle.dl_reach.specs.Matrix.{HasBit}
use Rattle.dl_reach.proofs.matrix.set_bits.Given as goal

abbrev pub invariant-loop-pair : goal.invariant-loop-pair
invariant-loop-pair l =
    (a b : ℕ) → HasBit l.words l.width a b ↔ (HasBit l.initial.words l.width a b ⊎ Contains (take l.pair-index l.pairs) (a, b))
