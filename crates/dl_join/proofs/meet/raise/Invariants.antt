use Rattle.std.proofs.Common.{◌^◌, ◌<◌}
use Rattle.dl_join.proofs.NeedLemmas.{Raised}
use Rattle.dl_join.proofs.meet.raise.Given as goal

abbrev pub invariant-loop-need : goal.invariant-loop-need
invariant-loop-need l = record {
  small : 0 < l.need-index → l.bound < 2 ^ 32;
  raised : Raised l.from l.bound l.need-index l.initial.needs l.needs;
}
