use Rattle.std.proofs.Common.{◌≡◌, ◌++◌, ◌-◌}
use Rattle.dl_stream.specs.Generator.{drawn_facts}
use Rattle.dl_stream.proofs.draws.generated_facts.Given as goal

abbrev pub invariant-loop-count : goal.invariant-loop-count
invariant-loop-count l =
    drawn_facts l.size l.fn.number l.size ≡ l.facts ++ drawn_facts l.size l.draws.state (l.size - l._count)
