-- Events without auxiliary roles: no role in them is one. Events are this project's own.
use Rattle.std.specs.List.{All}
use Rattle.dl_terms.specs.Auxiliaries.{HasNoAuxiliary}
use Rattle.dl_event.specs.declared.event.Item.{Item}
use Rattle.dl_event.specs.declared.event.Item.TheVariants as item
use Rattle.dl_event.specs.declared.event.Event.{Event}
use Rattle.dl_event.specs.declared.event.Event.TheVariants as event

-- no role of an item is an auxiliary role
abbrev pub ItemHasNoAuxiliary : Item → Type 0
ItemHasNoAuxiliary (item.Axiom a) = HasNoAuxiliary a
ItemHasNoAuxiliary (item.Fact f) = Unit {0}
ItemHasNoAuxiliary (item.Class c) = Unit {0}
ItemHasNoAuxiliary (item.Property p) = Unit {0}

-- no role of an event's items is one
abbrev pub EventHasNoAuxiliary : Event → Type 0
EventHasNoAuxiliary (event.Commit edits) = All (λ e. ItemHasNoAuxiliary e.item) edits
EventHasNoAuxiliary e = Unit {0}
