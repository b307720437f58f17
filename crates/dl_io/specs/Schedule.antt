-- Which calls are to fail.
use Rattle.std.specs.Prelude.{ℕ, List, Contains}
use Rattle.dl_io.specs.Count.{raised_count}

-- the numbers of the calls that are to fail, counted from 0, and how many calls there were
pub record Schedule : Type 0 where
  pub fails : List ℕ
  pub calls : ℕ

-- the next call is one of those that are to fail
abbrev pub FailsNext : Schedule → Type 0
FailsNext schedule = Contains schedule.fails schedule.calls

-- after one more call
abbrev pub after_call : Schedule → Schedule
after_call schedule = record { fails = schedule.fails; calls = raised_count schedule.calls }
