use Rattle.std.proofs.Common.{ℕ, ◌↔◌, take}
use Rattle.std.specs.List.{Contains}
use Rattle.dl_core.specs.Changes.{IsPlaceIn}
use Rattle.dl_core.proofs.committed_shard.found_places.Given as goal

abbrev pub invariant-loop-fact : goal.invariant-loop-fact
invariant-loop-fact l = (place : ℕ) → Contains l.places place ↔ IsPlaceIn l.root l.i (take l.fact-index l.facts) place
