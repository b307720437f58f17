use Rattle.std.proofs.Common.{◌-◌, ◌≤◌, length}
use Rattle.dl_lex.proofs.Quoted.{GoesOnAt}
use Rattle.dl_lex.proofs.scan.text_end.Given as goal

abbrev pub invariant-loop-next : goal.invariant-loop-next
invariant-loop-next l = record {
  in_range : l.at ≤ length l.bytes;
  goes_on : GoesOnAt l.bytes l.from l.at;
}

abbrev pub decreases-loop-next : goal.decreases-loop-next
decreases-loop-next l = length l.bytes - l.at
