use Rattle.std.proofs.Common.{◌≡◌, ◌++◌, map, filter, take}
use Rattle.dl_scan.specs.Reading.{pair_of}
use Rattle.dl_scan.specs.Sieves.{passes_first}
use Rattle.dl_scan.proofs.reading.push_ends.Given as goal

abbrev pub invariant-loop-end : goal.invariant-loop-end
invariant-loop-end l = l.pairs ≡ l.initial.pairs ++ filter (passes_first l.sieve) (map (pair_of l.how) (take l.end-index l.ends))
