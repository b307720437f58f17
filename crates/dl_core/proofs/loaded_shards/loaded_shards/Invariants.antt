use Rattle.std.proofs.Common.{map}
use Rattle.std.specs.Arc.{arc_value}
use Rattle.dl_epoch.specs.Frozen.{from_version}
use Rattle.dl_core.specs.Next.{row_for}
use Rattle.dl_core.proofs.PartLemmas.{AreMade}
use Rattle.dl_core.proofs.loaded_shards.loaded_shards.Given as goal

abbrev pub invariant-loop-i : goal.invariant-loop-i
invariant-loop-i l =
    AreMade l.shards l.i (map (row_for (from_version 1 l.epoch) 1) l.facts) l.parts.items (map arc_value l.made)
