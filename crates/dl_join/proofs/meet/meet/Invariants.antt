use Rattle.std.proofs.Common.{◌-◌, ◌^◌}
use Rattle.dl_join.proofs.NeedLemmas.{Meets}
use Rattle.dl_join.proofs.meet.meet.Given as goal

abbrev pub invariant-loop-reached : goal.invariant-loop-reached
invariant-loop-reached l = Meets l.from l.bound l.initial.needs l.needs

abbrev pub decreases-loop-reached : goal.decreases-loop-reached
decreases-loop-reached l = 2 ^ 64 - l.bound
