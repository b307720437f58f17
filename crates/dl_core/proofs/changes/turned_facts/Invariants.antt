use Rattle.std.proofs.Common.{◌≡◌, take}
use Rattle.dl_core.specs.Next.{root_facts}
use Rattle.dl_core.specs.Changes.{turned}
use Rattle.dl_core.proofs.changes.turned_facts.Given as goal

abbrev pub invariant-loop-pair : goal.invariant-loop-pair
invariant-loop-pair l = l.facts ≡ turned l.come (root_facts l.root) (take l.pair-index l.decided)
