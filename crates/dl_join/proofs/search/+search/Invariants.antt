use Rattle.std.proofs.Common.{◌≡◌, ◌+◌, ◌-◌, ◌*◌, ◌^◌, length, take}
use Rattle.dl_join.proofs.LevelLemmas.{Searched}
use Rattle.dl_join.proofs.search.+search.Given as goal

abbrev pub decreases-search : goal.decreases-search
decreases-search l = 2 * length l.order.now

abbrev pub decreases-each_name : goal.decreases-each_name
decreases-each_name l = 2 * length l.others.now + 1

abbrev pub invariant-each_name-loop-name : goal.invariant-each_name-loop-name
invariant-each_name-loop-name l = record {
  later : take l.kept l.room.later.items ≡ l.initial.room.later.items;
  searched : Searched l.from l.var l.initial.room.active.items l.initial.room.later.items l.room.active.items l.head l.initial.gathered l.gathered l.found;
}

abbrev pub decreases-each_name-loop-name : goal.decreases-each_name-loop-name
decreases-each_name-loop-name l = 2 ^ 32 - l.from
