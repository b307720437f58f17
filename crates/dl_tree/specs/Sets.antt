-- Sets of variables of a query, and which are connected. The connected-set form of tree witnesses is this project's
-- own.
use Rattle.std.specs.Prelude.{◌≡◌, ℕ, Bool, true, false, ◌||◌}
use Rattle.std.specs.List.{Contains}
use Rattle.dl_terms.specs.Chain.{Chain}
use Rattle.dl_terms.specs.declared.query.Term.{Term}
use Rattle.dl_terms.specs.declared.query.Term.TheVariants.{Var, Name}
use Rattle.dl_terms.specs.declared.query.Atom.{Atom}
use Rattle.dl_terms.specs.declared.query.Atom.TheVariants.{Is, Link}
use Rattle.dl_terms.specs.declared.query.Query.{Query}

-- a term that is a variable of the set
abbrev pub is_in : (ℕ → Bool) → Term → Bool
is_in s (Var v) = s v
is_in s (Name a) = false

-- an atom with a member of the set
abbrev pub touches : (ℕ → Bool) → Atom → Bool
touches s (Is c t) = is_in s t
touches s (Link p t u) = is_in s t || is_in s u

-- two terms share a role atom
pub data AreLinked (q : Query) (t u : Term) : Type 0 where
  forward : {p : ℕ} → Contains q.atoms (Link p t u) → AreLinked q t u
  backward : {p : ℕ} → Contains q.atoms (Link p u t) → AreLinked q t u

-- a role atom within the set
pub record IsStepWithin (q : Query) (s : ℕ → Bool) (v w : ℕ) : Type 0 where
  pub from : s v ≡ true
  pub to : s w ≡ true
  pub linked : AreLinked q (Var v) (Var w)

-- a set is connected: it isn't empty, and a chain of role atoms within it links any two of its members
pub record IsConnected (q : Query) (s : ℕ → Bool) : Type 0 where
  pub member : ℕ
  pub is_member : s member ≡ true
  pub chains : (v w : ℕ) → s v ≡ true → s w ≡ true → Chain (IsStepWithin q s) v w

-- a term outside the set that shares a role atom with a member
pub record IsOutsideNeighbour (q : Query) (s : ℕ → Bool) (t : Term) : Type 0 where
  pub outside : is_in s t ≡ false
  pub member : ℕ
  pub is_member : s member ≡ true
  pub linked : AreLinked q (Var member) t
