use Rattle.std.proofs.Common.{◌≡◌, ◌++◌, map, take, drop, slice_index}
use Rattle.dl_terms.specs.Renamed.{renamed_axiom}
use Rattle.dl_names.proofs.frozen.Ranks.rank_axioms.Given as goal

abbrev pub invariant-loop-stated : goal.invariant-loop-stated
invariant-loop-stated l = l.axioms ≡ map (renamed_axiom (slice_index l.self)) (take l.stated-index l.fn.axioms) ++ drop l.stated-index l.fn.axioms
