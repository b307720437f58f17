use Rattle.std.proofs.Common.{take}
use Rattle.std.specs.List.{All}
use Rattle.dl_epoch.specs.Covering.{kept}
use Rattle.dl_core.specs.Changes.{NoneOpens}
use Rattle.dl_core.proofs.found.place_of.Given as goal

abbrev pub invariant-loop-entry : goal.invariant-loop-entry
invariant-loop-entry l = All (λ e. NoneOpens l.shard (kept e).epoch l.fact) (take l.entry-index l.entries)
