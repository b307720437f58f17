-- How a fold falls apart: the members that stand at the one role, and the rest, which folds below it.
use Rattle.std.specs.Prelude.{◌≡◌, ℕ, Bool, true, false, not, ◌&&◌, List, []}
use Rattle.std.specs.List.{Contains}
use Rattle.dl_terms.specs.Roles.{named, inverse_of}
use Rattle.dl_terms.specs.Below.{RoleBelow, ConceptBelow}
use Rattle.dl_terms.specs.Structure.{Follows}
use Rattle.dl_terms.specs.declared.role.Role.{Role}
use Rattle.dl_terms.specs.declared.role.Basic.TheVariants.{Class, SomeOf}
use Rattle.dl_terms.specs.declared.axiom.Axiom.{Axiom}
use Rattle.dl_terms.specs.declared.query.Term.{Term}
use Rattle.dl_terms.specs.declared.query.Atom.{Atom}
use Rattle.dl_terms.specs.declared.query.Atom.TheVariants.{Is, Link}
use Rattle.dl_terms.specs.declared.query.Query.{Query}
use Rattle.dl_tree.specs.Sets.{is_in, touches}
use Rattle.dl_tree.specs.Folds.{AtomHoldsAtWords}

-- the members of one set that aren't in another
abbrev pub minus : (ℕ → Bool) → (ℕ → Bool) → ℕ → Bool
minus s m v = s v && not (m v)

-- a role may follow another
abbrev pub MayFollow : List Axiom → Role → Role → Type 0
MayFollow axioms t u = ConceptBelow axioms (SomeOf (inverse_of t)) (SomeOf u)

-- a set folds below a role: its members have words that aren't empty and follow the role, all else stands at the root
pub record FoldsBelowBy (axioms : List Axiom) (q : Query) (s : ℕ → Bool) (t : Role) (words : ℕ → List Role)
    : Type 0 where
  pub outside : (v : ℕ) → s v ≡ false → words v ≡ []
  pub some : (v : ℕ) → s v ≡ true → words v ≡ [] → ⊥
  pub follows : (v : ℕ) → s v ≡ true → Follows axioms t (words v)
  pub atoms : (a : Atom) → Contains q.atoms a → touches s a ≡ true → AtomHoldsAtWords axioms words a

pub record FoldsBelow (axioms : List Axiom) (q : Query) (s : ℕ → Bool) (t : Role) : Type 0 where
  pub words : ℕ → List Role
  pub folds : FoldsBelowBy axioms q s t words

-- a role atom holds where the members of m stand at the role t, those of s that aren't in m below it, and all else at
-- the root
pub record LinkStands (axioms : List Axiom) (s m : ℕ → Bool) (t : Role) (p : ℕ) (u w : Term) : Type 0 where
  pub apart : is_in m u ≡ true → is_in m w ≡ true → ⊥
  pub out : is_in s u ≡ true → is_in s w ≡ false → (is_in m u ≡ true) × RoleBelow axioms t (inverse_of (named p))
  pub into : is_in s w ≡ true → is_in s u ≡ false → (is_in m w ≡ true) × RoleBelow axioms t (named p)

abbrev pub AtomStands : List Axiom → (ℕ → Bool) → (ℕ → Bool) → Role → Atom → Type 0
AtomStands axioms s m t (Is c u) = is_in m u ≡ true → ConceptBelow axioms (SomeOf (inverse_of t)) (Class c)
AtomStands axioms s m t (Link p u w) = LinkStands axioms s m t p u w

-- the members of m stand at the role t, and the rest of s falls below it
pub record SplitsAt (axioms : List Axiom) (q : Query) (s m : ℕ → Bool) (t : Role) : Type 0 where
  pub within : (v : ℕ) → m v ≡ true → s v ≡ true
  pub stands : (a : Atom) → Contains q.atoms a → AtomStands axioms s m t a
  pub rest : FoldsBelow axioms q (minus s m) t

-- a part of a set that no role atom links to the rest of it
pub record IsClosedIn (q : Query) (part s : ℕ → Bool) : Type 0 where
  pub within : (v : ℕ) → part v ≡ true → s v ≡ true
  pub forward : (p : ℕ) (u w : Term) → Contains q.atoms (Link p u w) → is_in part u ≡ true
      → is_in s w ≡ true → is_in part w ≡ true
  pub backward : (p : ℕ) (u w : Term) → Contains q.atoms (Link p u w) → is_in part w ≡ true
      → is_in s u ≡ true → is_in part u ≡ true

-- the members at the role are some: the fold has its topmost members there
pub record SplitsAtSome (axioms : List Axiom) (q : Query) (s : ℕ → Bool) (t : Role) : Type 0 where
  pub top : ℕ → Bool
  pub member : ℕ
  pub is_member : top member ≡ true
  pub splits : SplitsAt axioms q s top t
