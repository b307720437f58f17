-- Values that some variables have already, for private functions that search for a match.
use Rattle.std.specs.Prelude.{◌≡◌, ℕ, ◌↔◌, Bool, List}
use Rattle.std.specs.List.{Contains}
use Rattle.std.specs.Bool.{MatchBool}

-- the values of variables are those that are given
abbrev pub Agrees : (ℕ → ℕ) → List (ℕ × ℕ) → Type 0
Agrees m given = (v x : ℕ) → Contains given (v, x) → m v ≡ x

-- some values are those that are given
abbrev pub CanAgree : List (ℕ × ℕ) → Type 0
CanAgree given = (m : ℕ → ℕ) × Agrees m given

-- the new ones say just as much more as a condition on the values
pub record Adds (Says : (ℕ → ℕ) → Type 0) (old new : List (ℕ × ℕ)) : Type 0 where
  pub exact : (m : ℕ → ℕ) → Agrees m new ↔ (Agrees m old × Says m)
  pub some : CanAgree new

-- either the new ones say so, or no values that are given can
abbrev pub AddsOrNot : ((ℕ → ℕ) → Type 0) → List (ℕ × ℕ) → List (ℕ × ℕ) → Bool → Type 0
AddsOrNot Says old new b = MatchBool b (Adds Says old new) ((m : ℕ → ℕ) → Agrees m old → ¬ Says m)
