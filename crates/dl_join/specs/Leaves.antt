-- Existential variables that needs join with one other variable alone: leaves. What the needs of a leaf ask of the
-- other variable is a list of its names, so that a leaf is taken off before the search, as by a semi-join
-- (Yannakakis, Algorithms for acyclic database schemes, 1981).
use Rattle.std.specs.Prelude.{◌≡◌, ◌≢◌, ℕ, ◌==◌, ◌⊎◌, ◌↔◌, Bool, false, if◌then◌else◌, true, Option, Some, None, List, [], ◌∷◌, slice_index}
use Rattle.std.specs.List.{All, Any, Contains}
use Rattle.dl_terms.specs.declared.query.Term.{Term}
use Rattle.dl_terms.specs.declared.query.Term.TheVariants.{Var}
use Rattle.dl_join.specs.declared.need.Need.{Need}
use Rattle.dl_join.specs.declared.need.Column.TheVariants.{First}
use Rattle.dl_join.specs.Needs.{Mentions, AreAscending}
use Rattle.dl_join.specs.Searching.{IsGiven}

-- a need that has a variable has no other one than this
abbrev pub KeepsTo : ℕ → ℕ → Need → Type 0
KeepsTo var to need = Mentions var need → (v : ℕ) → Mentions v need → (v ≡ var) ⊎ (v ≡ to)

-- a variable that the head lacks, and that needs join with one other variable alone
pub record Hangs (var to : ℕ) (needs : List Need) (head : List Term) : Type 0 where
  pub free : Contains head (Var var) → ⊥
  pub alone : All (KeepsTo var to) needs

-- a leaf, and the variable that it hangs on
pub record IsLeaf (var to : ℕ) (needs : List Need) (head : List Term) : Type 0 where
  pub apart : var ≢ to
  pub hangs : Hangs var to needs head
  pub joined : Any (λ n. Mentions var n × Mentions to n) needs

-- a variable is in a need, as a test
abbrev pub is_some : ℕ → Option ℕ → Bool
is_some v None = false
is_some v (Some w) = w == v

abbrev pub mentions : ℕ → Need → Bool
mentions v need = if need.at == v then true else is_some v need.other

-- a need has a leaf, or, where this is asked widely, the variable alone that it hangs on, as a test
abbrev pub is_none : Option ℕ → Bool
is_none None = true
is_none (Some w) = false

abbrev pub is_near : Bool → ℕ → ℕ → Need → Bool
is_near wide var to need = if mentions var need then true
    else (if wide then (if need.at == to then is_none need.other else false) else false)

-- the names that needs give to a variable are those that are first in a pair
abbrev pub AreNamesOf : ℕ → List Need → List (ℕ × ℕ) → Type 0
AreNamesOf var needs pairs = (a : ℕ) → ((b : ℕ) × Contains pairs (a, b)) ↔ IsGiven needs (Var var ∷ []) (a ∷ [])

-- pairs in order that have the names of a variable first
pub record HasNames (var : ℕ) (needs : List Need) (pairs : List (ℕ × ℕ)) : Type 0 where
  pub ascending : AreAscending First pairs
  pub names : AreNamesOf var needs pairs

-- there is one need, and it has the variable first, and another one
pub record IsLone (var : ℕ) (needs : List Need) : Type 0 where
  pub need : Need
  pub only : needs ≡ need ∷ []
  pub at : need.at ≡ var
  pub second : ℕ
  pub other : need.other ≡ Some second

-- there is one need, and it has the variable second
pub record IsLast (var : ℕ) (needs : List Need) : Type 0 where
  pub need : Need
  pub only : needs ≡ need ∷ []
  pub other : need.other ≡ Some var

-- the first name of a tuple, twice
abbrev pub doubled_name : List ℕ → ℕ × ℕ
doubled_name tuple = (slice_index tuple 0, slice_index tuple 0)
