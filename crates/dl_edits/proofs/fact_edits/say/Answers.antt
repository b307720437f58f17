use Rattle.dl_edits.proofs.SaidLemmas.{put_said}
use Rattle.dl_edits.proofs.fact_edits.say.Goals as goal

pub returns : goal.returns
returns c = put_said c.facts_are_ordered.ensures.derived c.args.facts.now c.insert.new.self _ _ _ c.in-Fact.is c.in-Ok.ensures.updates.0
