use Rattle.std.proofs.Common.{◌≡◌, true, take}
use Rattle.std.specs.List.{list_all}
use Rattle.dl_triples.specs.Runs.{admits}
use Rattle.dl_triples.proofs.runs.split.Given as goal

abbrev pub invariant-loop-index : goal.invariant-loop-index
invariant-loop-index l = list_all (admits l.class) (take l.index l.bytes) ≡ true
