use Rattle.std.proofs.Common.{◌≡◌, ◌++◌, map, take, drop, slice_index}
use Rattle.dl_terms.specs.Renamed.{renamed_fact}
use Rattle.dl_names.proofs.frozen.Ranks.rank_facts.Given as goal

abbrev pub invariant-loop-fact : goal.invariant-loop-fact
invariant-loop-fact l = l.facts ≡ map (renamed_fact (slice_index l.self)) (take l.fact-index l.fn.facts) ++ drop l.fact-index l.fn.facts
