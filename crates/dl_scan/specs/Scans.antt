-- A scan as clauses see it, and what it gains.
use Rattle.std.specs.Prelude.{◌≡◌, ◌↔◌, ◌⊎◌, ℕ, Bool, true, List}
use Rattle.std.specs.List.{Contains}
use Rattle.dl_hier.specs.declared.below.Below.{Below}
use Rattle.dl_row.specs.Rows.{Epoch}
use Rattle.dl_row.specs.declared.row.Row.{Row}
use Rattle.dl_scan.specs.Pairs.{IsPairBelow, visible_facts}
use Rattle.dl_scan.specs.Sieves.{passes_first}

-- what is asked, the version that is looked at, and the pairs so far
pub record Scan : Type 0 where
  pub below : Below
  pub version : ℕ
  pub pairs : List (ℕ × ℕ)

abbrev pub scan : Below → ℕ → List (ℕ × ℕ) → Scan
scan below version pairs = record { below = below; version = version; pairs = pairs }

-- a list gained exactly the items of which something holds
abbrev pub Gains : {A : Type 0} → List A → List A → (A → Type 0) → Type 0
Gains {A} old new IsNew = (x : A) → Contains new x ↔ (Contains old x ⊎ IsNew x)

-- a scan gained exactly the pairs, below what it asks, of the facts of the rows that are visible at its version
pub record Takes (epochs : List Epoch) (rows : List Row) (old new : Scan) : Type 0 where
  pub below : new.below ≡ old.below
  pub version : new.version ≡ old.version
  pub pairs : Gains old.pairs new.pairs (IsPairBelow (visible_facts epochs old.version rows) old.below)

-- a scan gained exactly those of these pairs whose first name passes a sieve
pub record TakesSifted (epochs : List Epoch) (rows : List Row) (marks : List Bool) (old new : Scan) : Type 0 where
  pub below : new.below ≡ old.below
  pub version : new.version ≡ old.version
  pub pairs : Gains old.pairs new.pairs
      (λ p. IsPairBelow (visible_facts epochs old.version rows) old.below p × (passes_first marks p ≡ true))
