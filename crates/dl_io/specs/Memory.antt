-- A library and a sink in memory, with calls that are to fail.
use Rattle.std.specs.Prelude.{ℕ, List}
use Rattle.dl_io.specs.Buffer.{Buffer}
use Rattle.dl_io.specs.Schedule.{Schedule}

-- files, the calls that are to fail, and the counts of faults by name
pub record FaultyFiles : Type 0 where
  pub files : List (List ℕ × List ℕ)
  pub schedule : Schedule
  pub counts : List ℕ

-- a buffer, the calls that are to fail, and the count of faults
pub record FaultyBuffer : Type 0 where
  pub buffer : Buffer
  pub schedule : Schedule
  pub faults : ℕ
