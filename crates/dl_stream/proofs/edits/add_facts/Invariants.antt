use Rattle.std.proofs.Common.{◌≡◌, ◌++◌, take}
use Rattle.dl_stream.specs.Edits.{fact_edits}
use Rattle.dl_stream.proofs.edits.add_facts.Given as goal

abbrev pub invariant-loop-fact : goal.invariant-loop-fact
invariant-loop-fact l = l.made ≡ l.initial.made ++ fact_edits l.add (take l.fact-index l.facts)
