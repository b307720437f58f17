use Rattle.std.proofs.Common.{◌≡◌, map, take}
use Rattle.dl_join.specs.Searching.{named}
use Rattle.dl_join.proofs.search.name_head.Given as goal

abbrev pub invariant-loop-term : goal.invariant-loop-term
invariant-loop-term l = l.copy.items ≡ map (named l.var l.name) (take l.term-index l.head)
