use Rattle.std.proofs.Common.{◌≡◌, ◌++◌, take, map, true}
use Rattle.dl_event.specs.declared.event.Item.TheVariants as item
use Rattle.dl_stream.specs.Edits.{edit}
use Rattle.dl_stream.proofs.edits.add_properties.Given as goal

abbrev pub invariant-loop-property : goal.invariant-loop-property
invariant-loop-property l = l.made ≡ l.initial.made ++ map (λ n. edit true (item.Property n)) (take l.property-index l.properties)
