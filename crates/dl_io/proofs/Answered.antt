-- What follows from a call's answer, whichever it is.
use Rattle.std.proofs.Common.{◌≡◌, ℕ, Result, Ok, Err, IfOk, OnErr, is_ok, if◌then◌else◌, arith}
use Rattle.dl_io.specs.Count.{raised_count, HasRisen}

-- what holds of every value holds of the one in an `Ok`
pub IfOk-each : {T E : Type 0} (answer : Result T E) (P : T → Type 0) → ((value : T) → P value) → IfOk answer P
IfOk-each (Ok value) P each = each value
IfOk-each (Err error) P each = tt

-- a count that goes up at each `Err` rose where there is one
pub HasRisen-counted : {T E : Type 0} (answer : Result T E) (before now : ℕ) → now ≡ (if is_ok answer then before else raised_count before) → OnErr answer (HasRisen before now)
HasRisen-counted (Ok value) before now counted = tt
HasRisen-counted (Err error) before now counted = omega arith

-- what holds anyway holds where there is an `Err`
pub OnErr-anyway : {T E : Type 0} (answer : Result T E) (P : Type 0) → P → OnErr answer P
OnErr-anyway (Ok value) P holds = tt
OnErr-anyway (Err error) P holds = holds
