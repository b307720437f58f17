use Rattle.std.proofs.Common.{◌≡◌, ◌++◌, map, take, drop}
use Rattle.dl_rewrite.specs.Unifiers.{replaced}
use Rattle.dl_rewrite.proofs.unify.replace.Given as goal

abbrev pub invariant-loop-term : goal.invariant-loop-term
invariant-loop-term l = l.to ≡ map (replaced l.v l.by) (take l.term-index l.fn.to) ++ drop l.term-index l.fn.to
