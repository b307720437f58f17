-- What the search finds below a choice of names: tuples that names for the variables left give to the head while the
-- needs left hold.
use Rattle.std.specs.Prelude.{◌≡◌, ◌≢◌, ℕ, ◌<◌, ◌==◌, List, length, map, if◌then◌else◌, ◌++◌, Some}
use Rattle.std.specs.List.{All, Any, Contains}
use Rattle.dl_terms.specs.declared.query.Term.{Term}
use Rattle.dl_terms.specs.declared.query.Term.TheVariants.{Var, Name}
use Rattle.dl_join.specs.declared.need.Need.{Need}
use Rattle.dl_join.specs.Disjuncts.{name_of}
use Rattle.dl_join.specs.Needs.{NeedHolds, IsAscending, Mentions, FitsOrder}

-- a tuple that names for the variables give to the head while the needs hold
pub record IsGiven (needs : List Need) (head : List Term) (tuple : List ℕ) : Type 0 where
  pub names : ℕ → ℕ
  pub holds : All (NeedHolds names) needs
  pub gives : map (name_of names) head ≡ tuple

-- a term with a name for a variable
abbrev pub named : ℕ → ℕ → Term → Term
named v name (Var w) = if w == v then Name name else Var w
named v name (Name a) = Name a

-- the name of a term that is one
abbrev pub name_or_zero : Term → ℕ
name_or_zero (Var v) = 0
name_or_zero (Name a) = a

abbrev pub IsName : Term → Type 0
IsName (Var v) = ⊥
IsName (Name a) = Unit {0}

-- each variable of the head is in a need
abbrev pub IsCovered : List Need → List Term → Type 0
IsCovered needs head = (v : ℕ) → Contains head (Var v) → Any (Mentions v) needs

-- what a search begins with: variables in order, needs and a head
pub record IsReady (order : List ℕ) (needs : List Need) (head : List Term) : Type 0 where
  pub ascending : All IsAscending needs
  pub fits : All (FitsOrder order) needs
  pub covered : IsCovered needs head

-- the needs divided into those of the first variable and the others
pub record IsLevel (var : ℕ) (others : List ℕ) (active later : List Need) (head : List Term) : Type 0 where
  pub some : 0 < length active
  pub here : All (λ n. n.at ≡ var) active
  pub elsewhere : All (λ n. n.at ≢ var) later
  pub ready : All IsAscending (active ++ later)
  pub active_fits : All (λ n. (w : ℕ) → n.other ≡ Some w → (w ≢ var) × Contains others w) active
  pub later_fits : All (FitsOrder others) later
  pub later_apart : All (λ n. (w : ℕ) → n.other ≡ Some w → w ≢ var) later
  pub covered : IsCovered (active ++ later) head
