-- What the rows of a table are found from. For private functions.
use Rattle.std.specs.Prelude.{ℕ, ◌<◌, ◌≤◌, ◌^◌, List, length}
use Rattle.std.specs.List.{Contains}
use Rattle.std.specs.List.Sorted.{IsStrictlySortedBy}
use Rattle.dl_terms.specs.Order.{role_cmp}
use Rattle.dl_terms.specs.Queries.{existential_variables}
use Rattle.dl_terms.specs.declared.role.Role.{Role}
use Rattle.dl_terms.specs.declared.axiom.Axiom.{Axiom}
use Rattle.dl_terms.specs.declared.query.Query.{Query}
use Rattle.dl_hier.specs.Predicates.{roles}
use Rattle.dl_hier.specs.Hierarchy.{Hierarchy, IsHierarchyOf}
use Rattle.dl_tree.specs.Sets.{IsConnected}
use Rattle.dl_tree.specs.Folds.{IsTreeWitness}
use Rattle.dl_tree.specs.Below.{MayFollow, FoldsBelow}
use Rattle.dl_tree.specs.Masks.{set_of, AreLinkMasks}
use Rattle.dl_tree.specs.Rows.{role_at, TellsRow}
use Rattle.dl_tree.specs.Table.{IsRowOf}
use Rattle.dl_tree.specs.TestsOf.{AreTestsOfEach, TellsBelowEach}
use Rattle.dl_tree.specs.declared.atoms.AtomRows.{AtomRows}

-- the role atoms and the tests of a query, over a hierarchy of the axioms
pub record IsPlanFor (h : Hierarchy) (axioms : List Axiom) (q : Query) (links : List (ℕ × ℕ))
    (atoms : List AtomRows) : Type 0 where
  pub hierarchy : IsHierarchyOf h axioms
  pub ascending : IsStrictlySortedBy role_cmp (roles h.predicates)
  pub followers : (t u : Role) → MayFollow axioms t u → Contains (roles h.predicates) t
      → Contains (roles h.predicates) u
  pub few : length (existential_variables q) ≤ 8
  pub masks : AreLinkMasks q (existential_variables q) links
  pub asked : AreTestsOfEach axioms q.atoms (existential_variables q) (roles h.predicates) atoms

-- the number of a set, and rows that say which sets of lesser number fold below the roles
pub record IsNext (h : Hierarchy) (axioms : List Axiom) (q : Query) (links : List (ℕ × ℕ))
    (atoms : List AtomRows) (below : List (List ℕ)) (s : ℕ) : Type 0 where
  pub plan : IsPlanFor h axioms q links atoms
  pub fits : s < 2 ^ length (existential_variables q)
  pub told : TellsBelowEach axioms q (existential_variables q) (roles h.predicates) below s

-- a set folds into the tree of the role of a place
abbrev pub FoldsAt : List Axiom → Query → List Role → ℕ → ℕ → Type 0
FoldsAt axioms q roles s i =
    (words : ℕ → List Role) × IsTreeWitness axioms q (set_of (existential_variables q) s) (role_at roles i) words

abbrev pub FoldsBelowAt : List Axiom → Query → List Role → ℕ → ℕ → Type 0
FoldsBelowAt axioms q roles s i = FoldsBelow axioms q (set_of (existential_variables q) s) (role_at roles i)

-- the row of a number up to a last one, whatever query this is the plan for
abbrev pub IsRowFor : Hierarchy → List (ℕ × ℕ) → List AtomRows → ℕ → ℕ → List Role → Type 0
IsRowFor h links atoms last number row = (axioms : List Axiom) (q : Query) → IsPlanFor h axioms q links atoms
    → last < 2 ^ length (existential_variables q) → IsRowOf axioms (roles h.predicates) q number row

-- for each role whether the set of a number up to a last one folds below it
abbrev pub TellsBelowFor : Hierarchy → List (ℕ × ℕ) → List AtomRows → ℕ → ℕ → List ℕ → Type 0
TellsBelowFor h links atoms last number row = (axioms : List Axiom) (q : Query) → IsPlanFor h axioms q links atoms
    → last < 2 ^ length (existential_variables q)
    → TellsRow (length (roles h.predicates)) (FoldsBelowAt axioms q (roles h.predicates) number) row

-- the set is connected, and the row has the bits of its roles
pub record IsFoldRow (axioms : List Axiom) (q : Query) (roles : List Role) (s : ℕ) (row : List ℕ) : Type 0 where
  pub connected : IsConnected q (set_of (existential_variables q) s)
  pub tells : TellsRow (length roles) (FoldsAt axioms q roles s) row
