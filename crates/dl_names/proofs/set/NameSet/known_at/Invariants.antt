use Rattle.std.proofs.Common.{All}
use Rattle.dl_names.specs.Hints.{IsKnown}
use Rattle.dl_names.proofs.set.NameSet.known_at.Given as goal

abbrev pub invariant-loop-place : goal.invariant-loop-place
invariant-loop-place l = All (IsKnown l.self) l.known.items
