use Rattle.std.proofs.Common.{◌≡◌, map, take, string_bytes}
use Rattle.dl_names.proofs.arrange.texts_of.Given as goal

abbrev pub invariant-loop-entry : goal.invariant-loop-entry
invariant-loop-entry l = map string_bytes l.texts.items ≡ map (λ entry. entry.1.now) (take l.entry-index l.entries.items)
