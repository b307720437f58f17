-- Rows of bits over the roles of a hierarchy: the bit of each role's place. For private functions.
use Rattle.std.specs.Prelude.{◌≡◌, ℕ, ◌*◌, ◌<◌, ◌≤◌, ◌↔◌, Bool, true, false, List, length, slice_index_or}
use Rattle.dl_terms.specs.Chain.{Chain}
use Rattle.dl_terms.specs.Roles.{named}
use Rattle.dl_terms.specs.declared.role.Role.{Role}
use Rattle.dl_terms.specs.declared.axiom.Axiom.{Axiom}
use Rattle.dl_reach.specs.Rows.{row_has}
use Rattle.dl_tree.specs.Below.{MayFollow}

abbrev pub role_at : List Role → ℕ → Role
role_at roles i = slice_index_or roles i (named 0)

abbrev pub HasBit : List ℕ → ℕ → Type 0
HasBit row i = row_has row i ≡ true

abbrev pub IsMarked : List Bool → ℕ → Type 0
IsMarked marks i = slice_index_or marks i false ≡ true

-- a row has room for so many bits, and those of the places at which something holds
pub record TellsRow (n : ℕ) (P : ℕ → Type 0) (row : List ℕ) : Type 0 where
  pub as_many : n ≤ 64 * length row
  pub each : (i : ℕ) → i < n → HasBit row i ↔ P i

-- a role of the row may follow the role of a place
abbrev pub LeadsTo : List Axiom → List Role → List ℕ → ℕ → Type 0
LeadsTo axioms roles row i =
    (k : ℕ) × (k < length roles) × HasBit row k × MayFollow axioms (role_at roles i) (role_at roles k)

-- a chain of roles, of which each may follow the one before it, leads from the role of a place to one of the row
abbrev pub ChainLeadsTo : List Axiom → List Role → List ℕ → ℕ → Type 0
ChainLeadsTo axioms roles row i =
    (k : ℕ) × (k < length roles) × HasBit row k × Chain (MayFollow axioms) (role_at roles i) (role_at roles k)
