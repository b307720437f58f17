use Rattle.dl_stream.specs.Generator.{drawn_facts}
use Rattle.dl_stream.proofs.DrawLemmas.{facts_next}
use Rattle.dl_stream.proofs.draws.generated_facts.Goals as goal

pub loop-count-preserved : goal.loop-count-preserved
loop-count-preserved c =
    facts_next c.args.size (drawn_facts c.args.size c.args.number c.args.size) c.loop-count.facts c.push.new.self c.loop-count.draws.state
    c.fact.new.self.state c.loop-count._count c.args.size c.fact.result c.loop-count-test.true c.loop-count.invariant c.fact.ensures.fact
    c.fact.ensures.state c.in_ok-push.ensures.ok
