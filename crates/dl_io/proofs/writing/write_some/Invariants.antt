-- The sink got the bytes up to the place, and its count of faults didn't fall.
use Rattle.std.proofs.Common.{length, ◌-◌, ◌≤◌, take}
use Rattle.dl_io.specs.Lending.{StaysLent}
use Rattle.dl_io.specs.Writing.{Gets}
use Rattle.dl_io.proofs.writing.write_some.Given as goal

abbrev pub invariant-loop-at : goal.invariant-loop-at
invariant-loop-at g l =
    record {
      within : l.at ≤ length l.bytes;
      got : Gets (g.S.Sink.got l.initial.sink) (g.S.Sink.got l.sink) (take l.at l.bytes);
      count : g.S.Sink.faults l.initial.sink ≤ g.S.Sink.faults l.sink;
      lent : StaysLent (g.S.Sink.lent l.initial.sink) (g.S.Sink.lent l.sink);
    }

abbrev pub decreases-loop-at : goal.decreases-loop-at
decreases-loop-at g l = length l.bytes - l.at
