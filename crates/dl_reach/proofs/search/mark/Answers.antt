use Rattle.dl_reach.proofs.Marking.{Marks-new}
use Rattle.dl_reach.proofs.search.mark.Goals as goal

pub returns-in_ok-push : goal.returns-in_ok-push
returns-in_ok-push c = rw c.in_ok-push.ensures.items (Marks-new _ _ _ c.requires.marked c.requires.in_range c.if-not-seen-node.true)
