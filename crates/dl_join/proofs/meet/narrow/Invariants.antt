use Rattle.std.proofs.Common.{take}
use Rattle.dl_join.specs.Needs.{AddsNarrowed}
use Rattle.dl_join.proofs.meet.narrow.Given as goal

abbrev pub invariant-loop-need : goal.invariant-loop-need
invariant-loop-need l = AddsNarrowed l.name (take l.need-index l.needs) l.initial.narrowed.items l.narrowed.items
