use Rattle.std.proofs.Common.{◌≡◌, ◌++◌, take, map, true}
use Rattle.dl_event.specs.declared.event.Item.TheVariants as item
use Rattle.dl_stream.specs.Edits.{edit}
use Rattle.dl_stream.proofs.edits.add_classes.Given as goal

abbrev pub invariant-loop-class : goal.invariant-loop-class
invariant-loop-class l = l.made ≡ l.initial.made ++ map (λ n. edit true (item.Class n)) (take l.class-index l.classes)
