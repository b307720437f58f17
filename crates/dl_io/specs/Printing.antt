-- What a call that prints a text does to its sink.
use Rattle.std.specs.Prelude.{ℕ, ◌≤◌, List, Option, Result, OnOk, OnErr}
use Rattle.dl_io.specs.Count.{HasRisen}
use Rattle.dl_io.specs.Lending.{Lender, StaysLent}
use Rattle.dl_io.specs.Writing.{Gets, GetsPrefix}

-- The sink got exactly the text, or after an error some first bytes of it; an error comes only where the count of
-- faults rose, or stands at its last value; and the sink has the lender that it had. `got`, `faults` and `lender` are
-- those of the sink's type.
pub record Prints {S A E : Type 0} (got : S → Option (List ℕ)) (faults : S → ℕ) (lender : S → Option Lender)
    (result : Result A E) (before now : S) (text : List ℕ) : Type 0 where
  pub all : OnOk result (Gets (got before) (got now) text)
  pub prefix : OnErr result (GetsPrefix (got before) (got now) text)
  pub count : faults before ≤ faults now
  pub failed : OnErr result (HasRisen (faults before) (faults now))
  pub lent : StaysLent (lender before) (lender now)
