-- What the calls of a hierarchy ask of each other and give, from its two graphs.
use Rattle.std.proofs.Common.{◌≡◌, ℕ, ◌+◌, ◌*◌, ◌<◌, ◌≤◌, ◌↔◌, List, [], ◌∷◌, length, get_or, slice_index_or, All, Contains, sym, ap, subst, ◌∙◌, arith}
use Rattle.std.specs.declared.cmp.Ordering.{Ordering}
use Rattle.std.specs.Ordering.{nat_cmp}
use Rattle.std.specs.List.Sorted.{IsStrictlySortedBy}
use Rattle.std.proofs.lemmas.List.{get_or_default}
use Rattle.std.proofs.lemmas.List.Elements.{Contains-get_or}
use Rattle.dl_terms.specs.Order.{role_cmp}
use Rattle.dl_terms.specs.Roles.{named, inverse_of}
use Rattle.dl_terms.specs.Below.{RoleBelow, ConceptBelow}
use Rattle.dl_terms.specs.declared.role.Role.{Role}
use Rattle.dl_terms.specs.declared.role.Basic.{Basic}
use Rattle.dl_terms.specs.declared.role.Basic.TheVariants.{Class, SomeOf}
use Rattle.dl_terms.specs.declared.axiom.Axiom.{Axiom}
use Rattle.dl_terms.proofs.MemberLemmas.{Contains-nil}
use Rattle.dl_reach.specs.Chain.{Chain as Walk}
use Rattle.dl_reach.specs.Digraph.{Digraph, IsEdge, max_nodes}
use Rattle.dl_hier.specs.Predicates.{Predicates, AreInOrder, roles, basics}
use Rattle.dl_hier.specs.Hierarchy.{Hierarchy, IsHierarchyOf}
use Rattle.dl_hier.specs.Below.{IsBelowOneOf, AreThose}
use Rattle.dl_hier.specs.Nodes.{StandsAt}
use Rattle.dl_hier.specs.Graphs.{hierarchy_over, AreGraphsOf}
use Rattle.dl_hier.specs.Picking.{ArePicked, AreTargets, LeadsToOneOf}
use Rattle.dl_hier.proofs.PredicateLemmas.{roles-ascend, length-roles, length-basics, basic-at_role, known-some}
use Rattle.dl_hier.proofs.ChainLemmas.{walks_are_chains, from_unknown}
use Rattle.dl_hier.proofs.QueryLemmas.{then, back, one_of_roles, one_of_basics}
use Rattle.dl_hier.proofs.PickLemmas.{AreThose-picked, exact-picked, basic_leads, role_leads, class_node, plain_node, inverse_node, some_node, some_inverse_node}

pub sorted-none : {A : Type 0} (R : A → A → Ordering) (xs : List A) → xs ≡ [] → IsStrictlySortedBy R xs
unfolding IsStrictlySortedBy
sorted-none R xs e = subst (IsStrictlySortedBy R) (sym e) tt

-- targets are nodes
pub targets_within : {A : Type 0} (known terms : List A) (targets slice : List ℕ) (nodes : ℕ) → AreTargets known terms targets → nodes ≡ length known
    → slice ≡ targets → All (λ t. t < nodes) slice
targets_within known terms targets slice nodes are count same = λ k d h.
    let t = get_or slice k d in
    let c : Contains targets t = subst (λ l. Contains l t) same (Contains-get_or slice k d h) in
    let within = ((are.of_terms t c).2).within in
    omega (arith, within, count)

pub roles_few : (p : Predicates) → AreInOrder p → length (roles p) ≤ 8192
roles_few p order =
    let few = order.few in
    omega (arith, few, length-roles p)

pub basics_few : (p : Predicates) → AreInOrder p → length (basics p) ≤ 8192
basics_few p order =
    let few = order.few in
    omega (arith, few, length-roles p, length-basics p)

-- an item stands at its place
at : (names : List ℕ) (i : ℕ) → i < length names → StandsAt names i (slice_index_or names i 0)
at names i within = record { within = within; is = get_or_default names i (slice_index_or names i 0) 0 within }

module _ (p : Predicates) (list : List Role) (of_roles of_basics : Digraph) (are : AreGraphsOf p list of_roles of_basics) where
  pub role_nodes_few : of_roles.nodes ≤ max_nodes
  role_nodes_few =
      let few = roles_few p are.order in
      let count = are.role_nodes in
      omega (arith, few, count)

  pub basic_nodes_few : of_basics.nodes ≤ max_nodes
  basic_nodes_few =
      let few = basics_few p are.order in
      let count = are.basic_nodes in
      omega (arith, few, count)

  pub list-ascends : (slice : List Role) → slice ≡ list → IsStrictlySortedBy role_cmp slice
  list-ascends slice same = subst (IsStrictlySortedBy role_cmp) (sym (same ∙ are.listed)) (roles-ascend p are.order)

  -- the nodes of properties, plain and inverse
  pub property_nodes : (slice : List ℕ) → slice ≡ p.properties → (first : ℕ) → first ≤ 1 → (k : ℕ) → k < length slice → first + k * 2 < of_roles.nodes
  property_nodes slice same first le k within =
      let count = are.role_nodes in
      let long : length slice ≡ length p.properties = ap length same in
      omega (arith, count, long, within, le, length-roles p)

  pub some_nodes : (slice : List ℕ) → slice ≡ p.properties → (first classes : ℕ) → classes ≡ length p.classes → first ≤ classes + 1
      → (k : ℕ) → k < length slice → first + k * 2 < of_basics.nodes
  some_nodes slice same first classes is le k within =
      let count = are.basic_nodes in
      let long : length slice ≡ length p.properties = ap length same in
      omega (arith, count, long, within, le, is, length-roles p, length-basics p)

  pub class_nodes : (slice : List ℕ) → slice ≡ p.classes → (k : ℕ) → k < length slice → 0 + k * 1 < of_basics.nodes
  class_nodes slice same k within =
      let count = are.basic_nodes in
      let long : length slice ≡ length p.classes = ap length same in
      omega (arith, count, long, within, length-basics p)

  module _ (h : Hierarchy) (is : hierarchy_over p of_roles of_basics ≡ h) (axioms : List Axiom) (of : IsHierarchyOf h axioms) where
    over : IsHierarchyOf (hierarchy_over p of_roles of_basics) axioms
    over = subst (λ x. IsHierarchyOf x axioms) (sym is) of

    -- predicates_below
    module _ (terms : List Basic) (targets slice : List ℕ) (nodes : AreTargets (basics p) terms targets) (same : slice ≡ targets) (names found : List ℕ) where
      pub classes_below : names ≡ p.classes → ArePicked nat_cmp names (λ k. LeadsToOneOf of_basics slice (0 + k * 1)) found
          → AreThose h.predicates.classes (λ c. IsBelowOneOf axioms terms (Class c)) found
      classes_below e picked =
          subst (λ x. AreThose x.predicates.classes (λ c. IsBelowOneOf axioms terms (Class c)) found) is
          (AreThose-picked p.classes found (λ k. LeadsToOneOf of_basics targets (0 + k * 1)) (λ c. IsBelowOneOf axioms terms (Class c))
          (λ k c at. basic_leads p list of_roles of_basics are axioms over terms targets nodes (0 + k * 1) (Class c) (class_node p k c at))
          (subst (λ l. ArePicked nat_cmp l (λ k. LeadsToOneOf of_basics targets (0 + k * 1)) found) e
          (subst (λ t. ArePicked nat_cmp names (λ k. LeadsToOneOf of_basics t (0 + k * 1)) found) same picked)))

      pub plain_below : (first : ℕ) → first ≡ length p.classes → names ≡ p.properties
          → ArePicked nat_cmp names (λ k. LeadsToOneOf of_basics slice (first + k * 2)) found
          → AreThose h.predicates.properties (λ q. IsBelowOneOf axioms terms (SomeOf (named q))) found
      plain_below first count e picked =
          subst (λ x. AreThose x.predicates.properties (λ q. IsBelowOneOf axioms terms (SomeOf (named q))) found) is
          (AreThose-picked p.properties found (λ k. LeadsToOneOf of_basics targets (first + k * 2)) (λ q. IsBelowOneOf axioms terms (SomeOf (named q)))
          (λ k q at. basic_leads p list of_roles of_basics are axioms over terms targets nodes (first + k * 2) (SomeOf (named q))
          (subst (λ n. StandsAt (basics p) (n + k * 2) (SomeOf (named q))) (sym count) (some_node p k q at)))
          (subst (λ l. ArePicked nat_cmp l (λ k. LeadsToOneOf of_basics targets (first + k * 2)) found) e
          (subst (λ t. ArePicked nat_cmp names (λ k. LeadsToOneOf of_basics t (first + k * 2)) found) same picked)))

      pub inverse_below : (first : ℕ) → first ≡ length p.classes + 1 → names ≡ p.properties
          → ArePicked nat_cmp names (λ k. LeadsToOneOf of_basics slice (first + k * 2)) found
          → AreThose h.predicates.properties (λ q. IsBelowOneOf axioms terms (SomeOf (inverse_of (named q)))) found
      inverse_below first count e picked =
          subst (λ x. AreThose x.predicates.properties (λ q. IsBelowOneOf axioms terms (SomeOf (inverse_of (named q)))) found) is
          (AreThose-picked p.properties found (λ k. LeadsToOneOf of_basics targets (first + k * 2))
          (λ q. IsBelowOneOf axioms terms (SomeOf (inverse_of (named q))))
          (λ k q at. basic_leads p list of_roles of_basics are axioms over terms targets nodes (first + k * 2) (SomeOf (inverse_of (named q)))
          (subst (λ n. StandsAt (basics p) (n + k * 2) (SomeOf (inverse_of (named q)))) (sym count) (some_inverse_node p k q at)))
          (subst (λ l. ArePicked nat_cmp l (λ k. LeadsToOneOf of_basics targets (first + k * 2)) found) e
          (subst (λ t. ArePicked nat_cmp names (λ k. LeadsToOneOf of_basics t (first + k * 2)) found) same picked)))

    -- roles_below
    module _ (role : Role) (targets slice : List ℕ) (nodes : AreTargets (roles p) (role ∷ []) targets) (same : slice ≡ targets) (names found : List ℕ)
        (e : names ≡ p.properties) where
      pub forward_below : ArePicked nat_cmp names (λ k. LeadsToOneOf of_roles slice (0 + k * 2)) found
          → AreThose h.predicates.properties (λ q. RoleBelow axioms (named q) role) found
      forward_below picked =
          subst (λ x. AreThose x.predicates.properties (λ q. RoleBelow axioms (named q) role) found) is
          (AreThose-picked p.properties found (λ k. LeadsToOneOf of_roles targets (0 + k * 2)) (λ q. RoleBelow axioms (named q) role)
          (λ k q at. role_leads p list of_roles of_basics are axioms over role targets nodes (0 + k * 2) (named q) (plain_node p k q at))
          (subst (λ l. ArePicked nat_cmp l (λ k. LeadsToOneOf of_roles targets (0 + k * 2)) found) e
          (subst (λ t. ArePicked nat_cmp names (λ k. LeadsToOneOf of_roles t (0 + k * 2)) found) same picked)))

      pub backward_below : ArePicked nat_cmp names (λ k. LeadsToOneOf of_roles slice (1 + k * 2)) found
          → AreThose h.predicates.properties (λ q. RoleBelow axioms (inverse_of (named q)) role) found
      backward_below picked =
          subst (λ x. AreThose x.predicates.properties (λ q. RoleBelow axioms (inverse_of (named q)) role) found) is
          (AreThose-picked p.properties found (λ k. LeadsToOneOf of_roles targets (1 + k * 2)) (λ q. RoleBelow axioms (inverse_of (named q)) role)
          (λ k q at. role_leads p list of_roles of_basics are axioms over role targets nodes (1 + k * 2) (inverse_of (named q)) (inverse_node p k q at))
          (subst (λ l. ArePicked nat_cmp l (λ k. LeadsToOneOf of_roles targets (1 + k * 2)) found) e
          (subst (λ t. ArePicked nat_cmp names (λ k. LeadsToOneOf of_roles t (1 + k * 2)) found) same picked)))

    -- class_order and role_order
    pub class_chains : (i j : ℕ) → i < length p.classes → j < length p.classes → Walk (IsEdge of_basics) (0 + i * 1) (0 + j * 1)
        ↔ ConceptBelow axioms (Class (slice_index_or h.predicates.classes i 0)) (Class (slice_index_or h.predicates.classes j 0))
    class_chains i j i_in j_in =
        subst (λ x. Walk (IsEdge of_basics) (0 + i * 1) (0 + j * 1)
        ↔ ConceptBelow axioms (Class (slice_index_or x.predicates.classes i 0)) (Class (slice_index_or x.predicates.classes j 0))) is
        (then (walks_are_chains (Class 0) (basics p) of_basics.edges are.basic_ends (one_of_basics p list of_roles of_basics are)
        (class_node p i (slice_index_or p.classes i 0) (at p.classes i i_in)) (class_node p j (slice_index_or p.classes j 0) (at p.classes j j_in)))
        (back (over.concepts (Class (slice_index_or p.classes i 0)) (Class (slice_index_or p.classes j 0)))))

    pub role_chains : (i j : ℕ) → i < length p.properties → j < length p.properties → Walk (IsEdge of_roles) (0 + i * 2) (0 + j * 2)
        ↔ RoleBelow axioms (named (slice_index_or h.predicates.properties i 0)) (named (slice_index_or h.predicates.properties j 0))
    role_chains i j i_in j_in =
        subst (λ x. Walk (IsEdge of_roles) (0 + i * 2) (0 + j * 2)
        ↔ RoleBelow axioms (named (slice_index_or x.predicates.properties i 0)) (named (slice_index_or x.predicates.properties j 0))) is
        (then (walks_are_chains (named 0) (roles p) of_roles.edges are.role_ends (one_of_roles p list of_roles of_basics are)
        (plain_node p i (slice_index_or p.properties i 0) (at p.properties i i_in)) (plain_node p j (slice_index_or p.properties j 0) (at p.properties j j_in)))
        (back (over.roles (named (slice_index_or p.properties i 0)) (named (slice_index_or p.properties j 0)))))

    -- roles_above and followers
    pub above : (role : Role) (from : ℕ) → StandsAt (roles p) from role → (slice found : List Role) → slice ≡ list
        → ArePicked role_cmp slice (λ k. Walk (IsEdge of_roles) from (0 + k)) found
        → (s : Role) → Contains found s ↔ (Contains (roles h.predicates) s × RoleBelow axioms role s)
    above role from at slice found same picked s =
        subst (λ x. Contains found s ↔ (Contains (roles x.predicates) s × RoleBelow axioms role s)) is
        (exact-picked (roles p) found (λ k. Walk (IsEdge of_roles) from (0 + k)) (λ r. RoleBelow axioms role r)
        (λ k r at_r. then (walks_are_chains (named 0) (roles p) of_roles.edges are.role_ends (one_of_roles p list of_roles of_basics are) at
        (let e : k ≡ 0 + k = omega arith in subst (λ i. StandsAt (roles p) i r) e at_r)) (back (over.roles role r)))
        (subst (λ l. ArePicked role_cmp l (λ k. Walk (IsEdge of_roles) from (0 + k)) found) (same ∙ are.listed) picked) s)

    pub above_none : (role : Role) → (Contains (roles p) role → ⊥) → (found : List Role) → found ≡ []
        → (s : Role) → Contains found s ↔ (Contains (roles h.predicates) s × RoleBelow axioms role s)
    above_none role unknown found none s = (
      λ c. absurd (Contains-nil s (subst (λ l. Contains l s) none c)),
      λ w. absurd (unknown (subst (Contains (roles p)) (sym (from_unknown (named 0) (roles p) of_roles.edges are.role_ends ((over.roles role s).0 w.1) unknown))
          (subst (λ x. Contains (roles x.predicates) s) (sym is) w.0))),
    )

    pub after : (b : Basic) (from : ℕ) → StandsAt (basics p) from b → (first : ℕ) → first ≡ length p.classes → (slice found : List Role) → slice ≡ list
        → ArePicked role_cmp slice (λ k. Walk (IsEdge of_basics) from (first + k)) found
        → (t : Role) → Contains found t ↔ (Contains (roles h.predicates) t × ConceptBelow axioms b (SomeOf t))
    after b from at first count slice found same picked t =
        subst (λ x. Contains found t ↔ (Contains (roles x.predicates) t × ConceptBelow axioms b (SomeOf t))) is
        (exact-picked (roles p) found (λ k. Walk (IsEdge of_basics) from (first + k)) (λ r. ConceptBelow axioms b (SomeOf r))
        (λ k r at_r. then (walks_are_chains (Class 0) (basics p) of_basics.edges are.basic_ends (one_of_basics p list of_roles of_basics are) at
        (subst (λ n. StandsAt (basics p) (n + k) (SomeOf r)) (sym count) (basic-at_role p at_r))) (back (over.concepts b (SomeOf r))))
        (subst (λ l. ArePicked role_cmp l (λ k. Walk (IsEdge of_basics) from (first + k)) found) (same ∙ are.listed) picked) t)

    pub after_none : (b : Basic) → (Contains (basics p) b → ⊥) → (found : List Role) → found ≡ []
        → (t : Role) → Contains found t ↔ (Contains (roles h.predicates) t × ConceptBelow axioms b (SomeOf t))
    after_none b unknown found none t = (
      λ c. absurd (Contains-nil t (subst (λ l. Contains l t) none c)),
      λ w. absurd (unknown (subst (Contains (basics p)) (sym (from_unknown (Class 0) (basics p) of_basics.edges are.basic_ends ((over.concepts b (SomeOf t)).0 w.1) unknown))
          (known-some p t (subst (λ x. Contains (roles x.predicates) t) (sym is) w.0)))),
    )
