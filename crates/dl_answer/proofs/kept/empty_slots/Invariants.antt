use Rattle.std.proofs.Common.{◌≡◌, vec_len}
use Rattle.std.specs.List.{All}
use Rattle.std.specs.declared.option.Option.TheVariants.{None}
use Rattle.dl_answer.proofs.kept.empty_slots.Given as goal

abbrev pub invariant-loop-slot : goal.invariant-loop-slot
invariant-loop-slot l = (vec_len l.slots ≡ l._slot) × All (λ slot. slot ≡ None) l.slots.items
