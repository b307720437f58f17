-- The front of the buffer is the front of the file, and the library tells what it told.
use Rattle.std.proofs.Common.{◌+◌, ◌-◌, ◌≡◌, ◌≤◌, take, vec_len, IfSome}
use Rattle.dl_io.specs.Count.{NoneFalls}
use Rattle.dl_io.proofs.whole.read_whole.Given as goal

abbrev pub invariant-loop-len : goal.invariant-loop-len
invariant-loop-len g l =
    record {
      within : l.len ≤ vec_len l.buffer;
      front : IfSome (g.L.Library.told l.initial.files) (λ file_of. take l.len l.buffer.items ≡ take l.len (file_of l.name));
      unchanged : g.L.Library.told l.files ≡ g.L.Library.told l.initial.files;
      count : NoneFalls (g.L.Library.faults l.initial.files) (g.L.Library.faults l.files);
    }

abbrev pub decreases-loop-len : goal.decreases-loop-len
decreases-loop-len g l = 268435456 + 1 - l.len
