use Rattle.std.proofs.Common.{◌≡◌, ◌++◌, take}
use Rattle.dl_run.proofs.input.joined.Given as goal

abbrev pub invariant-loop-fact : goal.invariant-loop-fact
invariant-loop-fact l = l.both ≡ l.fn.facts ++ take l.fact-index l.others
