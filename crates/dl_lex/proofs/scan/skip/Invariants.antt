use Rattle.std.proofs.Common.{ℕ, ◌-◌, ◌≤◌, length}
use Rattle.dl_lex.specs.Grammar.{Skips}
use Rattle.dl_lex.proofs.scan.skip.Given as goal

abbrev pub invariant-loop-next : goal.invariant-loop-next
invariant-loop-next l = record {
  in_range : l.at ≤ length l.bytes;
  goes_on : (k : ℕ) → Skips l.bytes l.at k → Skips l.bytes l.from k;
}

abbrev pub decreases-loop-next : goal.decreases-loop-next
decreases-loop-next l = length l.bytes - l.at
