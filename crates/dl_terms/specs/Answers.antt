-- Matches of a conjunctive query in the canonical structure, and its certain answers (Calvanese et al. 2007).
use Rattle.std.specs.Prelude.{◌≡◌, ℕ, ◌<◌, ◌↔◌, List, map}
use Rattle.std.specs.List.{Contains}
use Rattle.std.specs.List.Sorted.{IsStrictlySortedBy}
use Rattle.std.specs.Cmp.Lexicographic.{slice_cmp}
use Rattle.std.specs.Ordering.{nat_cmp}
use Rattle.dl_terms.specs.Roles.{named}
use Rattle.dl_terms.specs.Structure.{Element, individual, IsElement, HoldsAt, Joins}
use Rattle.dl_terms.specs.declared.role.Basic.TheVariants.{Class}
use Rattle.dl_terms.specs.declared.axiom.Axiom.{Axiom}
use Rattle.dl_terms.specs.declared.axiom.Fact.{Fact}
use Rattle.dl_terms.specs.declared.query.Term.{Term}
use Rattle.dl_terms.specs.declared.query.Term.TheVariants.{Var, Name}
use Rattle.dl_terms.specs.declared.query.Atom.{Atom}
use Rattle.dl_terms.specs.declared.query.Atom.TheVariants as atom
use Rattle.dl_terms.specs.declared.query.Query.{Query}

-- what a term stands for: a variable for its element, a name for itself
abbrev pub value_of : (ℕ → Element) → Term → Element
value_of m (Var v) = m v
value_of m (Name a) = individual a

-- an atom holds of the elements of its terms
abbrev pub AtomHolds : List Axiom → List Fact → (ℕ → Element) → Atom → Type 0
AtomHolds axioms facts m (atom.Is c t) = HoldsAt axioms facts (Class c) (value_of m t)
AtomHolds axioms facts m (atom.Link p t u) = Joins axioms facts (named p) (value_of m t) (value_of m u)

-- a match: an element for each variable, such that each atom holds
pub record IsMatch (axioms : List Axiom) (facts : List Fact) (q : Query) (m : ℕ → Element) : Type 0 where
  pub elements : (v : ℕ) → v < q.vars → IsElement axioms facts (m v)
  pub atoms : (a : Atom) → Contains q.atoms a → AtomHolds axioms facts m a

-- a certain answer: a tuple of names that some match gives to the head
pub record IsCertain (axioms : List Axiom) (facts : List Fact) (q : Query) (tuple : List ℕ) : Type 0 where
  pub elements : ℕ → Element
  pub is_match : IsMatch axioms facts q elements
  pub is_head : map elements q.head ≡ map individual tuple

-- tuples ascend strictly by their names from left to right: names are numbered in the order of their bytes
abbrev pub AscendStrictly : List (List ℕ) → Type 0
AscendStrictly = IsStrictlySortedBy (slice_cmp nat_cmp)

-- the list of the certain answers: each once, ascending
pub record AreCertain (axioms : List Axiom) (facts : List Fact) (q : Query) (tuples : List (List ℕ)) : Type 0 where
  pub ascending : AscendStrictly tuples
  pub exact : (tuple : List ℕ) → Contains tuples tuple ↔ IsCertain axioms facts q tuple
