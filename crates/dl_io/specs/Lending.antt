-- Who lent a sink the one that it hands on to. That a sink tells this is this project's own.
use Rattle.std.specs.Prelude.{ℕ, ◌≡◌, List, Option, None, Some}
use Rattle.dl_io.specs.Writing.{Gets}

-- the name of the loan, and what the sink that is lent got so far, where it tells it
pub record Lender : Type 0 where
  pub name : ℕ
  pub got : Option (List ℕ)

-- later on: the loan is the same one, and the sink that is lent got some bytes more, or none
pub record IsSameLoan (before now : Lender) : Type 0 where
  pub same : now.name ≡ before.name
  pub more : (bytes : List ℕ) × Gets before.got now.got bytes

-- A sink that somebody lent another one still has it, and a sink that has no lender gets none.
abbrev pub StaysLent : Option Lender → Option Lender → Type 0
StaysLent None None = Unit {0}
StaysLent None (Some now) = ⊥
StaysLent (Some before) None = ⊥
StaysLent (Some before) (Some now) = IsSameLoan before now
