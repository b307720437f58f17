-- The checksum of the bytes so far.
use Rattle.std.proofs.Common.{◌≡◌, take}
use Rattle.dl_io.specs.Shared.{checksum}
use Rattle.dl_io.proofs.counts.checksum.Given as goal

abbrev pub invariant-loop-byte : goal.invariant-loop-byte
invariant-loop-byte l = l.sum ≡ checksum (take l.byte-index l.name)
