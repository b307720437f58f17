use Rattle.dl_migrate.specs.Moving.{is_behind}
use Rattle.dl_migrate.proofs.PickLemmas.{Picking}
use Rattle.dl_migrate.proofs.pick.picked_behind.Given as goal

abbrev pub invariant-loop-i : goal.invariant-loop-i
invariant-loop-i l = Picking l.n (is_behind l.id) l.shard l.i l.picked.places l.picked.rows
