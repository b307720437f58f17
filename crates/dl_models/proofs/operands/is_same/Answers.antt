use Rattle.dl_models.proofs.AcceptLemmas.{both-first, both-second}
use Rattle.dl_models.proofs.operands.is_same.Goals as goal

pub returns-then-to : goal.returns-then-to
returns-then-to g c =
    both-second c.is_within-back.result (c.is_within-to.ensures.0 c.if-to.true) c.is_within-back.ensures

pub returns-else-to : goal.returns-else-to
returns-else-to g c = both-first c.is_within-to.result c.is_within-to.ensures c.if-to.false
