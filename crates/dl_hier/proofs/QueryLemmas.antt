-- From walks in a graph to what is below what.
use Rattle.std.proofs.Common.{◌≡◌, ℕ, ◌<◌, ◌↔◌, ◌⊎◌, Bool, false, IsTrue, List, map, length, get_or, Any, Contains, refl, subst, inl, inr, ⊎_elim, arith}
use Rattle.dl_terms.specs.Chain.{Chain, empty, step}
use Rattle.dl_terms.specs.Roles.{named}
use Rattle.dl_terms.specs.Below.{RoleBelow, ConceptBelow}
use Rattle.dl_terms.specs.declared.role.Role.{Role}
use Rattle.dl_terms.specs.declared.role.Basic.{Basic}
use Rattle.dl_terms.specs.declared.role.Basic.TheVariants.{Class}
use Rattle.dl_terms.specs.declared.axiom.Axiom.{Axiom}
use Rattle.dl_reach.specs.Chain.{Chain as Walk}
use Rattle.dl_reach.specs.Digraph.{Digraph, Leads, EndsBelow}
use Rattle.dl_hier.specs.Predicates.{Predicates, roles, basics}
use Rattle.dl_hier.specs.Hierarchy.{IsStep, IsHierarchyOf}
use Rattle.dl_hier.specs.Nodes.{StandsAt, ends_of}
use Rattle.dl_hier.specs.Graphs.{hierarchy_over, AreGraphsOf}
use Rattle.dl_hier.specs.Picking.{AreTargets}
use Rattle.dl_hier.proofs.MemberLemmas.{StandsAt-Contains}
use Rattle.dl_hier.proofs.PredicateLemmas.{one_role, one_basic}
use Rattle.dl_hier.proofs.ChainLemmas.{walks_are_chains, from_unknown, to_unknown, step-known}

pub then : {A B C : Type 0} → A ↔ B → B ↔ C → A ↔ C
then f g = (λ a. g.0 (f.0 a), λ c. f.1 (g.1 c))

pub back : {A B : Type 0} → A ↔ B → B ↔ A
back f = (f.1, f.0)

pub Any-of : {A : Type 0} (P : A → Type 0) (xs : List A) (x : A) → Contains xs x → P x → Any P xs
Any-of P xs x c h = (c.0, x, c.1, c.2, h)

pub Any-member : {A : Type 0} (P : A → Type 0) (xs : List A) → Any P xs → (x : A) × Contains xs x × P x
Any-member P xs a = (a.1, (a.0, a.2, a.3), a.4)

module _ {A : Type 0} (d : A) (terms : List A) (edges : List (ℕ × ℕ)) (ends : EndsBelow (length terms) edges)
    (one : (i j : ℕ) → i < length terms → j < length terms → get_or terms i d ≡ get_or terms j d → i ≡ j) where
  abbrev OfSteps : A → A → Type 0
  OfSteps = Chain (IsStep (map (ends_of d terms) edges))

  pub known_answer : {i j : ℕ} {a b : A} (answer : Bool) → StandsAt terms i a → StandsAt terms j b → IsTrue answer ↔ Walk (Leads edges) i j
      → IsTrue answer ↔ OfSteps a b
  known_answer answer s t says = then says (walks_are_chains d terms edges ends one s t)

  pub from_unknown_answer : {a b : A} (answer : Bool) → (Contains terms a → ⊥) → IsTrue answer ↔ (a ≡ b) → IsTrue answer ↔ OfSteps a b
  from_unknown_answer {a} answer unknown says =
      then says (λ same. subst (OfSteps a) same empty, λ c. from_unknown d terms edges ends c unknown)

  pub to_unknown_answer : {a b : A} (answer : Bool) → answer ≡ false → Contains terms a → (Contains terms b → ⊥) → IsTrue answer ↔ OfSteps a b
  to_unknown_answer answer says known unknown =
      (λ h. absurd (no_answer answer says h), λ c. absurd (unknown (subst (Contains terms) (to_unknown d terms edges ends c unknown) known)))
    where
      no_answer : (r : Bool) → r ≡ false → IsTrue r → ⊥
      no_answer r e h = grind arith

  -- both ends of a chain that isn't empty are terms
  pub ends_known : {a b : A} → OfSteps a b → (a ≡ b) ⊎ (Contains terms a × Contains terms b)
  ends_known empty = inl refl
  ends_known (step {a = a} {b = m} {c = b} t c) =
      let from = step-known d terms edges ends a m t in
      inr (from.0, ⊎_elim (λ (same : m ≡ b). subst (Contains terms) same from.1) (λ (w : Contains terms m × Contains terms b). w.1) (ends_known c))

  -- walks to one of the targets are chains to one of their terms
  pub leads_to_one : {i : ℕ} {a : A} (wanted : List A) (targets : List ℕ) → StandsAt terms i a → AreTargets terms wanted targets
      → Any (λ t. Walk (Leads edges) i t) targets ↔ Any (λ b. OfSteps a b) wanted
  leads_to_one {i} {a} wanted targets s are = (
    λ h.
        let w = Any-member (λ t. Walk (Leads edges) i t) targets h in
        let b = are.of_terms w.0 w.1 in
        Any-of (λ x. OfSteps a x) wanted b.0 b.1 ((walks_are_chains d terms edges ends one s b.2).0 w.2),
    λ h.
        let w = Any-member (λ x. OfSteps a x) wanted h in
        let t = are.of_known w.0 w.1 (known_end w.2 (StandsAt-Contains s)) in
        Any-of (λ n. Walk (Leads edges) i n) targets t.0 t.1 ((walks_are_chains d terms edges ends one s t.2).1 w.2),
  )
    where
      known_end : {x y : A} → OfSteps x y → Contains terms x → Contains terms y
      known_end empty known = known
      known_end (step t c) known = known_end c (step-known d terms edges ends _ _ t).1

-- the same of a hierarchy of axioms
module _ (p : Predicates) (list : List Role) (of_roles of_basics : Digraph) (are : AreGraphsOf p list of_roles of_basics) where
  pub one_of_roles : (i j : ℕ) → i < length (roles p) → j < length (roles p) → get_or (roles p) i (named 0) ≡ get_or (roles p) j (named 0) → i ≡ j
  one_of_roles = one_role p are.order (named 0)

  pub one_of_basics : (i j : ℕ) → i < length (basics p) → j < length (basics p) → get_or (basics p) i (Class 0) ≡ get_or (basics p) j (Class 0) → i ≡ j
  one_of_basics = one_basic p are.order (Class 0)

  module _ (axioms : List Axiom) (of : IsHierarchyOf (hierarchy_over p of_roles of_basics) axioms) where
    pub role_known : {i j : ℕ} {r s : Role} (answer : Bool) → StandsAt (roles p) i r → StandsAt (roles p) j s
        → IsTrue answer ↔ Walk (Leads of_roles.edges) i j → IsTrue answer ↔ RoleBelow axioms r s
    role_known {i} {j} {r} {s} answer from to says =
        then (known_answer (named 0) (roles p) of_roles.edges are.role_ends one_of_roles answer from to says) (back (of.roles r s))

    pub role_from_unknown : {r s : Role} (answer : Bool) → (Contains (roles p) r → ⊥) → IsTrue answer ↔ (r ≡ s) → IsTrue answer ↔ RoleBelow axioms r s
    role_from_unknown {r} {s} answer unknown says =
        then (from_unknown_answer (named 0) (roles p) of_roles.edges are.role_ends one_of_roles answer unknown says) (back (of.roles r s))

    pub role_to_unknown : {r s : Role} (answer : Bool) → answer ≡ false → Contains (roles p) r → (Contains (roles p) s → ⊥)
        → IsTrue answer ↔ RoleBelow axioms r s
    role_to_unknown {r} {s} answer says known unknown =
        then (to_unknown_answer (named 0) (roles p) of_roles.edges are.role_ends one_of_roles answer says known unknown) (back (of.roles r s))

    pub roles_known : (r s : Role) → RoleBelow axioms r s → (r ≡ s) ⊎ (Contains (roles p) r × Contains (roles p) s)
    roles_known r s h = ends_known (named 0) (roles p) of_roles.edges are.role_ends one_of_roles ((of.roles r s).0 h)

    pub basic_known : {i j : ℕ} {b c : Basic} (answer : Bool) → StandsAt (basics p) i b → StandsAt (basics p) j c
        → IsTrue answer ↔ Walk (Leads of_basics.edges) i j → IsTrue answer ↔ ConceptBelow axioms b c
    basic_known {i} {j} {b} {c} answer from to says =
        then (known_answer (Class 0) (basics p) of_basics.edges are.basic_ends one_of_basics answer from to says) (back (of.concepts b c))

    pub basic_from_unknown : {b c : Basic} (answer : Bool) → (Contains (basics p) b → ⊥) → IsTrue answer ↔ (b ≡ c) → IsTrue answer ↔ ConceptBelow axioms b c
    basic_from_unknown {b} {c} answer unknown says =
        then (from_unknown_answer (Class 0) (basics p) of_basics.edges are.basic_ends one_of_basics answer unknown says) (back (of.concepts b c))

    pub basic_to_unknown : {b c : Basic} (answer : Bool) → answer ≡ false → Contains (basics p) b → (Contains (basics p) c → ⊥)
        → IsTrue answer ↔ ConceptBelow axioms b c
    basic_to_unknown {b} {c} answer says known unknown =
        then (to_unknown_answer (Class 0) (basics p) of_basics.edges are.basic_ends one_of_basics answer says known unknown) (back (of.concepts b c))
