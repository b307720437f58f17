use Rattle.std.proofs.Common.{◌≡◌, ◌++◌, map}
use Rattle.dl_event.specs.declared.event.Item.TheVariants as item
use Rattle.dl_stream.specs.Edits.{edit}
use Rattle.dl_stream.proofs.edits.add_axioms.Given as goal

abbrev pub invariant-loop-stated : goal.invariant-loop-stated
invariant-loop-stated l = l.made ≡ l.initial.made ++ map (λ a. edit l.add (item.Axiom a)) l.yielded
