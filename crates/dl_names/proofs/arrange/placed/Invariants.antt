use Rattle.std.proofs.Common.{take}
use Rattle.dl_names.specs.Arrange.{ArePlaced}
use Rattle.dl_names.proofs.arrange.placed.Given as goal

abbrev pub invariant-loop-place : goal.invariant-loop-place
invariant-loop-place l = ArePlaced l.skip (take l.place l.texts.keys) l.entries.items
