use Rattle.std.proofs.Common.{take}
use Rattle.std.specs.List.{All}
use Rattle.dl_join.specs.Searching.{IsName}
use Rattle.dl_join.proofs.search.is_closed.Given as goal

abbrev pub invariant-loop-term : goal.invariant-loop-term
invariant-loop-term l = All IsName (take l.term-index l.head)
