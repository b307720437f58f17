use Rattle.std.proofs.Common.{ℕ, take}
use Rattle.std.specs.List.{Contains}
use Rattle.dl_models.proofs.facts.look_up.Given as goal

abbrev pub invariant-loop-known : goal.invariant-loop-known
invariant-loop-known l = (x : ℕ) → ¬ Contains (take l.known-index l.pairs) (l.key, x)
