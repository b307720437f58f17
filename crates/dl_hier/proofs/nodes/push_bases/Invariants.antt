use Rattle.std.proofs.Common.{◌≡◌, ◌++◌, take, flat_map}
use Rattle.dl_hier.specs.Predicates.{both_ways}
use Rattle.dl_hier.proofs.nodes.push_bases.Given as goal

abbrev pub invariant-loop-base : goal.invariant-loop-base
invariant-loop-base l = l.roles ≡ l.initial.roles ++ flat_map both_ways (take l.base-index l.bases)
