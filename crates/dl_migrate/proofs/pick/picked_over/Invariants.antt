use Rattle.dl_migrate.specs.Sweeping.{is_over}
use Rattle.dl_migrate.proofs.PickLemmas.{Picking}
use Rattle.dl_migrate.proofs.pick.picked_over.Given as goal

abbrev pub invariant-loop-i : goal.invariant-loop-i
invariant-loop-i l = Picking l.n (is_over l.horizon) l.shard l.i l.picked.places l.picked.rows
