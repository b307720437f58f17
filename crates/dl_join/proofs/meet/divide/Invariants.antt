use Rattle.std.proofs.Common.{◌≡◌, take, filter, ◌==◌, not}
use Rattle.dl_join.specs.declared.need.Need.{Need}
use Rattle.dl_join.proofs.meet.divide.Given as goal

abbrev pub invariant-loop-need : goal.invariant-loop-need
invariant-loop-need l = record {
  active : l.active.items ≡ filter (λ (n : Need). n.at == l.var) (take l.need-index l.needs);
  later : l.later.items ≡ filter (λ (n : Need). not (n.at == l.var)) (take l.need-index l.needs);
}
