-- What the rows of the graphs of a hierarchy say.
use Rattle.std.proofs.Common.{◌≡◌, ◌⊎◌, ℕ, ◌+◌, ◌*◌, ◌/◌, ◌%◌, ◌<◌, ◌↔◌, Bool, true, false, List, [], length, get_or, nat_eq, Contains, sym, ap, subst, ◌∙◌, inl, inr, arith}
use Rattle.std.proofs.lemmas.Nat.Bits.{bit_at-zero}
use Rattle.std.proofs.lemmas.List.Elements.{Contains-get_or}
use Rattle.dl_terms.specs.Order.{flag}
use Rattle.dl_terms.specs.Roles.{named, inverse_of}
use Rattle.dl_terms.specs.Below.{RoleBelow, ConceptBelow}
use Rattle.dl_terms.specs.declared.role.Base.{Base}
use Rattle.dl_terms.specs.declared.role.Base.TheVariants.{Named}
use Rattle.dl_terms.specs.declared.role.Role.{Role}
use Rattle.dl_terms.specs.declared.role.Basic.{Basic}
use Rattle.dl_terms.specs.declared.role.Basic.TheVariants.{Class, SomeOf}
use Rattle.dl_terms.specs.declared.axiom.Axiom.{Axiom}
use Rattle.dl_reach.specs.Chain.{Chain as Walk}
use Rattle.dl_reach.specs.Digraph.{IsEdge}
use Rattle.dl_reach.specs.Rows.{row_has}
use Rattle.dl_hier.specs.Predicates.{Predicates, bases, roles, basics}
use Rattle.dl_hier.specs.Hierarchy.{Hierarchy, IsHierarchyOf}
use Rattle.dl_hier.specs.Nodes.{StandsAt}
use Rattle.dl_hier.specs.Ways.{Ways, other, node_at}
use Rattle.dl_hier.specs.Graphs.{AreGraphsOf, AreWaysFor, hierarchy_over}
use Rattle.dl_hier.proofs.MemberLemmas.{StandsAt-default, StandsAt-get}
use Rattle.dl_hier.proofs.PredicateLemmas.{way, role-at, length-roles, length-bases, length-basics, one_role, one_basic, basic-at_role, inverse-known, known-some}
use Rattle.dl_hier.proofs.ChainLemmas.{walks_are_chains, to_unknown}
use Rattle.dl_hier.proofs.QueryLemmas.{then, back}
use Rattle.dl_hier.proofs.WayLemmas.{node_at-rest, node_at-first}

module _ (p : Predicates) where
  -- the inverse of a role stands beside it
  pub inverse-at : (n m : ℕ) → n < length (roles p) → m + n ≡ 4 * (n / 2) + 1 → m / 2 ≡ n / 2
      → StandsAt (roles p) m (inverse_of (get_or (roles p) n (named 0)))
  inverse-at n m within sum half = by (cases n)
    where
      base : Base
      base = get_or (bases p) (n / 2) (Named 0)

      at_base : StandsAt (bases p) (n / 2) base
      at_base = StandsAt-get (bases p) (n / 2) (Named 0) (let r = length-roles p in let b = length-bases p in omega (arith, within, r, b))

      at_way : (j : Bool) → StandsAt (roles p) (2 * (n / 2) + flag j) (way base j)
      at_way j = role-at p (n / 2) (way base j) at_base

      cases : (k : ℕ) → (k ≡ 2 * (k / 2) + 0) ⊎ (k ≡ 2 * (k / 2) + 1)
      cases k = grind arith

      by : (n ≡ 2 * (n / 2) + 0) ⊎ (n ≡ 2 * (n / 2) + 1) → StandsAt (roles p) m (inverse_of (get_or (roles p) n (named 0)))
      by (inl e) =
          let here : get_or (roles p) n (named 0) ≡ way base false = ap (λ k. get_or (roles p) k (named 0)) e ∙ StandsAt-default (named 0) (at_way false) in
          let there : 2 * (n / 2) + 1 ≡ m = omega (arith, sum, e) in
          subst (λ r. StandsAt (roles p) m (inverse_of r)) (sym here) (subst (λ k. StandsAt (roles p) k (way base true)) there (at_way true))
      by (inr e) =
          let here : get_or (roles p) n (named 0) ≡ way base true = ap (λ k. get_or (roles p) k (named 0)) e ∙ StandsAt-default (named 0) (at_way true) in
          let there : 2 * (n / 2) + 0 ≡ m = omega (arith, sum, e) in
          subst (λ r. StandsAt (roles p) m (inverse_of r)) (sym here) (subst (λ k. StandsAt (roles p) k (way base false)) there (at_way false))

  pub inverse-other : (n : ℕ) → n < length (roles p) → StandsAt (roles p) (other n) (inverse_of (get_or (roles p) n (named 0)))
  inverse-other n within = inverse-at n (other n) within (grind arith) (grind arith)

  pub roles-even : length (roles p) % 2 ≡ 0
  roles-even = let l = length-roles p in grind (arith, l)

-- ---- rows

-- no bits
pub row_has-none : (row : List ℕ) (i : ℕ) → row ≡ [] → row_has row i ≡ false
row_has-none row i none = ap (λ l. row_has l i) none ∙ ap (λ b. nat_eq b 1) (bit_at-zero (i % 64))

module _ (p : Predicates) (list : List Role) (role_ways basic_ways : Ways) (ways : AreWaysFor p list role_ways basic_ways)
    (h : Hierarchy) (is : hierarchy_over p role_ways.graph basic_ways.graph ≡ h) (axioms : List Axiom) (of : IsHierarchyOf h axioms) where
  are : AreGraphsOf p list role_ways.graph basic_ways.graph
  are = ways.graphs

  over : IsHierarchyOf (hierarchy_over p role_ways.graph basic_ways.graph) axioms
  over = subst (λ x. IsHierarchyOf x axioms) (sym is) of

  -- what the bits say of the roles of the hierarchy
  abbrev Says : (Role → Type 0) → List ℕ → Predicates → Type 0
  Says P row q = (i : ℕ) → i < length (roles q) → (row_has row i ≡ true) ↔ P (get_or (roles q) i (named 0))

  abbrev IsRow : Ways → ℕ → List ℕ → Type 0
  IsRow w to row = (i : ℕ) → i < w.graph.nodes → (row_has row i ≡ true) ↔ Walk (IsEdge w.graph) (node_at w.first w.rest i) to

  pub says_below : (role : Role) (to : ℕ) → StandsAt (roles p) to role → (row : List ℕ) → IsRow role_ways to row
      → Says (λ t. RoleBelow axioms t role) row h.predicates
  says_below role to at row says =
      subst (λ x. Says (λ t. RoleBelow axioms t role) row x.predicates) is (λ i within.
      let itself : node_at role_ways.first role_ways.rest i ≡ i = let r = ways.roles_rest in node_at-first role_ways.first role_ways.rest i (omega (arith, r)) ∙ omega (arith, r) in
      let s = StandsAt-get (roles p) i (named 0) within in
      then (subst (λ k. (row_has row i ≡ true) ↔ Walk (IsEdge role_ways.graph) k to) itself (says i (let n = are.role_nodes in omega (arith, n, within))))
      (then (walks_are_chains (named 0) (roles p) role_ways.graph.edges are.role_ends (one_role p are.order (named 0)) s at)
      (back (over.roles (get_or (roles p) i (named 0)) role))))

  pub says_leading : (b : Basic) (to : ℕ) → StandsAt (basics p) to b → (row : List ℕ) → IsRow basic_ways to row
      → Says (λ t. ConceptBelow axioms (SomeOf (inverse_of t)) b) row h.predicates
  says_leading b to at row says =
      subst (λ x. Says (λ t. ConceptBelow axioms (SomeOf (inverse_of t)) b) row x.predicates) is (λ i within.
      let inside : i < basic_ways.rest = let r = ways.some in omega (arith, r, within) in
      let there : node_at basic_ways.first basic_ways.rest i ≡ length p.classes + other i =
      node_at-rest basic_ways.first basic_ways.rest i inside ∙ ap (λ n. n + other i) ways.classes in
      let s = basic-at_role p (inverse-other p i within) in
      then (subst (λ k. (row_has row i ≡ true) ↔ Walk (IsEdge basic_ways.graph) k to) there
      (says i (let n = are.basic_nodes in let l = length-basics p in omega (arith, n, l, within))))
      (then (walks_are_chains (Class 0) (basics p) basic_ways.graph.edges are.basic_ends (one_basic p are.order (Class 0)) s at)
      (back (over.concepts (SomeOf (inverse_of (get_or (roles p) i (named 0)))) b))))

  no_bit : {Q : Type 0} (row : List ℕ) (i : ℕ) → row ≡ [] → (Q → ⊥) → (row_has row i ≡ true) ↔ Q
  no_bit row i none not = (λ e. absurd (differ (sym e ∙ row_has-none row i none)), λ q. absurd (not q))
    where
      differ : true ≡ false → ⊥
      differ e = cc

  pub says_below_none : (role : Role) → (Contains (roles p) role → ⊥) → (row : List ℕ) → row ≡ [] → Says (λ t. RoleBelow axioms t role) row h.predicates
  says_below_none role unknown row none =
      subst (λ x. Says (λ t. RoleBelow axioms t role) row x.predicates) is (λ i within. no_bit row i none (λ b.
      unknown (subst (Contains (roles p))
      (to_unknown (named 0) (roles p) role_ways.graph.edges are.role_ends ((over.roles (get_or (roles p) i (named 0)) role).0 b) unknown)
      (Contains-get_or (roles p) i (named 0) within))))

  pub says_leading_none : (b : Basic) → (Contains (basics p) b → ⊥) → (row : List ℕ) → row ≡ []
      → Says (λ t. ConceptBelow axioms (SomeOf (inverse_of t)) b) row h.predicates
  says_leading_none b unknown row none =
      subst (λ x. Says (λ t. ConceptBelow axioms (SomeOf (inverse_of t)) b) row x.predicates) is (λ i within. no_bit row i none (λ k.
      let t = get_or (roles p) i (named 0) in
      unknown (subst (Contains (basics p))
      (to_unknown (Class 0) (basics p) basic_ways.graph.edges are.basic_ends ((over.concepts (SomeOf (inverse_of t)) b).0 k) unknown)
      (known-some p (inverse_of t) (inverse-known p t (Contains-get_or (roles p) i (named 0) within))))))
