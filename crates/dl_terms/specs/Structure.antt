-- The canonical structure of axioms and facts (Calvanese et al. 2007; Kontchakov, Lutz, Toman, Wolter, Zakharyaschev:
-- The Combined Approach to Query Answering in DL-Lite, 2010): individuals, followed by words of roles.
use Rattle.std.specs.Prelude.{◌≡◌, ℕ, List, [], ◌∷◌, ◌++◌}
use Rattle.std.specs.List.{Contains}
use Rattle.dl_terms.specs.Roles.{named, inverse_of}
use Rattle.dl_terms.specs.Below.{RoleBelow, ConceptBelow}
use Rattle.dl_terms.specs.declared.role.Role.{Role}
use Rattle.dl_terms.specs.declared.role.Basic.{Basic}
use Rattle.dl_terms.specs.declared.role.Basic.TheVariants.{Class, SomeOf}
use Rattle.dl_terms.specs.declared.axiom.Axiom.{Axiom}
use Rattle.dl_terms.specs.declared.axiom.Fact.{Fact}
use Rattle.dl_terms.specs.declared.axiom.Fact.TheVariants.{Is, Link}

-- a basic concept holds at a name: by a class fact, or by what a role fact has at either end
pub data HoldsAtName (axioms : List Axiom) (facts : List Fact) (b : Basic) (a : ℕ) : Type 0 where
  by_class : {c : ℕ} → Contains facts (Is c a) → ConceptBelow axioms (Class c) b → HoldsAtName axioms facts b a
  by_source : {p o : ℕ} → Contains facts (Link p a o) → ConceptBelow axioms (SomeOf (named p)) b
      → HoldsAtName axioms facts b a
  by_target : {p o : ℕ} → Contains facts (Link p o a) → ConceptBelow axioms (SomeOf (inverse_of (named p))) b
      → HoldsAtName axioms facts b a

-- a name and a word of roles
pub record Element : Type 0 where
  pub name : ℕ
  pub word : List Role

-- an individual: the empty word
abbrev pub individual : ℕ → Element
individual a = record { name = a; word = [] }

-- the word with one more role at its end
abbrev pub child : Element → Role → Element
child x r = record { name = x.name; word = x.word ++ r ∷ [] }

-- each role of the word may follow the one before it
abbrev pub Follows : List Axiom → Role → List Role → Type 0
Follows axioms r [] = Unit {0}
Follows axioms r (t ∷ word) = ConceptBelow axioms (SomeOf (inverse_of r)) (SomeOf t) × Follows axioms t word

abbrev pub IsWordAt : List Axiom → List Fact → ℕ → List Role → Type 0
IsWordAt axioms facts a [] = Unit {0}
IsWordAt axioms facts a (r ∷ word) = HoldsAtName axioms facts (SomeOf r) a × Follows axioms r word

-- an element: its first role is one that its name has a neighbour by, and each role may follow the one before it
abbrev pub IsElement : List Axiom → List Fact → Element → Type 0
IsElement axioms facts x = IsWordAt axioms facts x.name x.word

-- a basic concept holds at an element: at its name, or by the last role of its word
pub data HoldsAt (axioms : List Axiom) (facts : List Fact) (b : Basic) (x : Element) : Type 0 where
  at_name : x.word ≡ [] → HoldsAtName axioms facts b x.name → HoldsAt axioms facts b x
  at_end : (y : Element) (r : Role) → x ≡ child y r → ConceptBelow axioms (SomeOf (inverse_of r)) b
      → HoldsAt axioms facts b x

-- a role joins two elements: two names by a fact, or an element and its child, in either direction
pub data Joins (axioms : List Axiom) (facts : List Fact) (s : Role) (x y : Element) : Type 0 where
  by_fact : {p : ℕ} → x.word ≡ [] → y.word ≡ [] → Contains facts (Link p x.name y.name) → RoleBelow axioms (named p) s
      → Joins axioms facts s x y
  by_fact_turned : {p : ℕ} → x.word ≡ [] → y.word ≡ [] → Contains facts (Link p y.name x.name)
      → RoleBelow axioms (inverse_of (named p)) s → Joins axioms facts s x y
  to_child : {r : Role} → y ≡ child x r → RoleBelow axioms r s → Joins axioms facts s x y
  from_child : {r : Role} → x ≡ child y r → RoleBelow axioms r (inverse_of s) → Joins axioms facts s x y
