-- The meaning of axioms and facts (OWL 2 Direct Semantics, sections 2.2 and 2.3) and of queries (Calvanese et al.
-- 2007), in any structure. It speaks of axioms as they are read, and knows no normal form.
use Rattle.std.specs.Prelude.{◌≡◌, ℕ, ◌<◌, ◌↔◌, Bool, true, false, List, [], ◌∷◌, ◌++◌}
use Rattle.std.specs.List.{All, AllPairs, Contains, flat_map}
use Rattle.std.specs.declared.option.Option.{Option}
use Rattle.std.specs.Option.{MatchOption}
use Rattle.dl_terms.specs.declared.role.Base.{Base}
use Rattle.dl_terms.specs.declared.role.Base.TheVariants.{Named, Auxiliary}
use Rattle.dl_terms.specs.declared.role.Role.{Role}
use Rattle.dl_terms.specs.declared.role.Basic.{Basic}
use Rattle.dl_terms.specs.declared.role.Basic.TheVariants as basic
use Rattle.dl_terms.specs.declared.axiom.Part.{Part}
use Rattle.dl_terms.specs.declared.axiom.Part.TheVariants as part
use Rattle.dl_terms.specs.declared.axiom.Axiom.{Axiom}
use Rattle.dl_terms.specs.declared.axiom.Axiom.TheVariants.{SubClass, EquivalentClasses, DisjointClasses, SubRole, EquivalentRoles, DisjointRoles, InverseRoles, Domain, Range, Symmetric, Asymmetric, Irreflexive}
use Rattle.dl_terms.specs.declared.axiom.Fact.{Fact}
use Rattle.dl_terms.specs.declared.axiom.Fact.TheVariants as fact
use Rattle.dl_terms.specs.declared.query.Term.{Term}
use Rattle.dl_terms.specs.declared.query.Term.TheVariants.{Var, Name}
use Rattle.dl_terms.specs.declared.query.Atom.{Atom}
use Rattle.dl_terms.specs.declared.query.Atom.TheVariants as atom
use Rattle.dl_terms.specs.declared.query.Query.{Query}
use Rattle.dl_terms.specs.Occurring.{term_names}

-- a structure: its elements, which of them a name denotes, those in a class, and those that an object property links
pub record Structure : Type 1 where
  pub Value : Type 0
  pub IsElement : Value → Type 0
  pub Denotes : ℕ → Value → Type 0
  pub IsIn : ℕ → Value → Type 0
  pub Links : ℕ → Value → Value → Type 0

-- ---- roles and basic concepts

abbrev pub turned : {A : Type 0} → Bool → (A → A → Type 0) → A → A → Type 0
turned false R x y = R x y
turned true R x y = R y x

-- an auxiliary role, which no axiom has, links what its role links to members of its class
abbrev pub BaseLinks : (i : Structure) → Base → i.Value → i.Value → Type 0
BaseLinks i (Named p) x y = i.Links p x y
BaseLinks i (Auxiliary p inverse c) x y = turned inverse (i.Links p) x y × i.IsIn c y

abbrev pub RoleLinks : (i : Structure) → Role → i.Value → i.Value → Type 0
RoleLinks i r x y = turned r.inverse (BaseLinks i r.base) x y

-- "some r" has the elements with an r-neighbour
abbrev pub IsInBasic : (i : Structure) → Basic → i.Value → Type 0
IsInBasic i (basic.Class c) x = i.IsIn c x
IsInBasic i (basic.SomeOf r) x = (y : i.Value) × i.IsElement y × RoleLinks i r x y

abbrev pub IsInPart : (i : Structure) → i.Value → Part → Type 0
IsInPart i x part.Thing = Unit {0}
IsInPart i x (part.Class c) = i.IsIn c x
IsInPart i x (part.Any r) = IsInBasic i (basic.SomeOf r) x
IsInPart i x (part.Fill r c) = (y : i.Value) × i.IsElement y × RoleLinks i r x y × i.IsIn c y
IsInPart i x (part.Not b) = ¬ IsInBasic i b x

-- ---- axioms

abbrev pub IsWithin : (i : Structure) → Basic → Basic → Type 0
IsWithin i b c = (x : i.Value) → i.IsElement x → IsInBasic i b x → IsInBasic i c x

abbrev pub IsApart : (i : Structure) → Basic → Basic → Type 0
IsApart i b c = (x : i.Value) → i.IsElement x → IsInBasic i b x → ¬ IsInBasic i c x

-- of all two elements
abbrev pub EachTwo : (i : Structure) → (i.Value → i.Value → Type 0) → Type 0
EachTwo i P = (x y : i.Value) → i.IsElement x → i.IsElement y → P x y

abbrev pub RoleIsWithin : (i : Structure) → Role → Role → Type 0
RoleIsWithin i r s = EachTwo i (λ x y. RoleLinks i r x y → RoleLinks i s x y)

abbrev pub RoleIsApart : (i : Structure) → Role → Role → Type 0
RoleIsApart i r s = EachTwo i (λ x y. RoleLinks i r x y → ¬ RoleLinks i s x y)

-- a structure accepts an axiom: operands of an equivalence are the same set, each within each; those of a disjointness
-- share nothing at any two different places
abbrev pub Accepts : (i : Structure) → Axiom → Type 0
Accepts i (SubClass b ps) = (x : i.Value) → i.IsElement x → IsInBasic i b x → All (IsInPart i x) ps
Accepts i (EquivalentClasses bs) = (b c : Basic) → Contains bs b → Contains bs c → IsWithin i b c
Accepts i (DisjointClasses bs) = AllPairs (IsApart i) bs
Accepts i (SubRole r s) = RoleIsWithin i r s
Accepts i (EquivalentRoles rs) = (r s : Role) → Contains rs r → Contains rs s → RoleIsWithin i r s
Accepts i (DisjointRoles rs) = AllPairs (RoleIsApart i) rs
Accepts i (InverseRoles r s) = EachTwo i (λ x y. RoleLinks i r x y ↔ RoleLinks i s y x)
Accepts i (Domain r ps) = EachTwo i (λ x y. RoleLinks i r x y → All (IsInPart i x) ps)
Accepts i (Range r ps) = EachTwo i (λ x y. RoleLinks i r x y → All (IsInPart i y) ps)
Accepts i (Symmetric r) = EachTwo i (λ x y. RoleLinks i r x y → RoleLinks i r y x)
Accepts i (Asymmetric r) = EachTwo i (λ x y. RoleLinks i r x y → ¬ RoleLinks i r y x)
Accepts i (Irreflexive r) = (x : i.Value) → i.IsElement x → ¬ RoleLinks i r x x

-- ---- facts and models

abbrev pub FactHolds : (i : Structure) → Fact → Type 0
FactHolds i (fact.Is c a) = (x : i.Value) × i.Denotes a x × i.IsIn c x
FactHolds i (fact.Link p a b) = (x : i.Value) × (y : i.Value) × i.Denotes a x × i.Denotes b y × i.Links p x y

-- owl:Nothing, where that is a name, has no element
abbrev pub NothingIsEmpty : (i : Structure) → Option ℕ → Type 0
NothingIsEmpty i nothing =
    MatchOption nothing (Unit {0}) (λ n. (x : i.Value) → i.IsElement x → ¬ i.IsIn n x)

-- a model of axioms and facts: it accepts all of both, and owl:Nothing has no element
pub record IsModel (i : Structure) (axioms : List Axiom) (facts : List Fact) (nothing : Option ℕ) : Type 0 where
  pub axioms_accepted : All (Accepts i) axioms
  pub facts_hold : All (FactHolds i) facts
  pub nothing_in_it : NothingIsEmpty i nothing

-- ---- queries

-- what a term stands for, where variables have values
abbrev pub StandsFor : (i : Structure) → (ℕ → i.Value) → Term → i.Value → Type 0
StandsFor i m (Var v) x = m v ≡ x
StandsFor i m (Name a) x = i.Denotes a x

abbrev pub AtomHolds : (i : Structure) → (ℕ → i.Value) → Atom → Type 0
AtomHolds i m (atom.Is c t) = (x : i.Value) × StandsFor i m t x × i.IsIn c x
AtomHolds i m (atom.Link p t u) =
    (x : i.Value) × (y : i.Value) × StandsFor i m t x × StandsFor i m u y × i.Links p x y

-- the head has the elements of a tuple of names, place for place
abbrev pub GivesHead : (i : Structure) → (ℕ → i.Value) → List ℕ → List ℕ → Type 0
GivesHead i m [] [] = Unit {0}
GivesHead i m [] (a ∷ tuple) = ⊥
GivesHead i m (v ∷ head) [] = ⊥
GivesHead i m (v ∷ head) (a ∷ tuple) = i.Denotes a (m v) × GivesHead i m head tuple

-- a name that denotes an element
abbrev pub HasElement : (i : Structure) → ℕ → Type 0
HasElement i a = (x : i.Value) × i.Denotes a x

abbrev pub atom_individuals : Atom → List ℕ
atom_individuals (atom.Is c t) = term_names t
atom_individuals (atom.Link p t u) = term_names t ++ term_names u

-- the individuals that a query names, in the order of its terms
abbrev pub individuals_of : Query → List ℕ
individuals_of q = flat_map atom_individuals q.atoms

-- a query holds of a tuple: some elements for its variables make each atom true and give the tuple to the head
pub record QueryHolds (i : Structure) (q : Query) (tuple : List ℕ) : Type 0 where
  pub values : ℕ → i.Value
  pub elements : (v : ℕ) → v < q.vars → i.IsElement (values v)
  pub atoms : (a : Atom) → Contains q.atoms a → AtomHolds i values a
  pub head : GivesHead i values q.head tuple
