-- Items picked one after the other, and the predicates below what was asked.
use Rattle.std.proofs.Common.{◌≡◌, ℕ, ◌+◌, ◌*◌, ◌<◌, ◌≤◌, ◌↔◌, true, false, List, [], ◌∷◌, ◌++◌, length, take, get_or, Any, Contains, sym, ap, subst, ◌∙◌, ⊎_elim, arith}
use Rattle.std.specs.declared.cmp.Ordering.{Ordering}
use Rattle.std.specs.declared.cmp.Ordering.TheVariants.{Less}
use Rattle.std.specs.Ordering.{nat_cmp}
use Rattle.std.specs.Cmp.{IsTotalOrder}
use Rattle.std.specs.List.Sorted.{IsStrictlySortedBy}
use Rattle.std.proofs.lemmas.Bool.{cases_lt}
use Rattle.std.proofs.lemmas.List.{take_more}
use Rattle.std.proofs.lemmas.List.Elements.{Contains-append_left, Contains-push, Contains-push_cases, Contains-get_or}
use Rattle.std.proofs.lemmas.Map.Keys.{Less-from_sorted, IsStrictlyIncreasing-from_sorted}
use Rattle.dl_terms.specs.Roles.{named, inverse_of}
use Rattle.dl_terms.specs.Below.{RoleBelow, ConceptBelow}
use Rattle.dl_terms.specs.declared.role.Role.{Role}
use Rattle.dl_terms.specs.declared.role.Basic.{Basic}
use Rattle.dl_terms.specs.declared.role.Basic.TheVariants.{Class, SomeOf}
use Rattle.dl_terms.specs.declared.axiom.Axiom.{Axiom}
use Rattle.dl_reach.specs.Digraph.{Digraph}
use Rattle.dl_terms.proofs.MemberLemmas.{Contains-first, Contains-one}
use Rattle.dl_hier.specs.Predicates.{Predicates, roles, basics}
use Rattle.dl_hier.specs.Hierarchy.{IsHierarchyOf}
use Rattle.dl_hier.specs.Below.{IsBelowOneOf, AreThose}
use Rattle.dl_hier.specs.Nodes.{StandsAt}
use Rattle.dl_hier.specs.Graphs.{hierarchy_over, AreGraphsOf}
use Rattle.dl_hier.specs.Picking.{ArePicked, AreTargets, LeadsToOneOf}
use Rattle.dl_hier.proofs.SortedLemmas.{sorted-push}
use Rattle.dl_hier.proofs.MemberLemmas.{StandsAt-Contains, StandsAt-default, StandsAt-get}
use Rattle.dl_hier.proofs.PredicateLemmas.{role-at_property, basic-at_class, basic-at_role}
use Rattle.dl_hier.proofs.QueryLemmas.{then, Any-of, Any-member, leads_to_one, one_of_roles, one_of_basics}

-- ---- picking

-- exactly the items below an index of which something holds
pub record ArePickedTo {A : Type 0} (cmp : A → A → Ordering) (items : List A) (IsThat : ℕ → Type 0) (i : ℕ) (found : List A) : Type 0 where
  pub ascending : IsStrictlySortedBy cmp found
  pub picked : (x : A) → Contains found x → (k : ℕ) × (k < i) × StandsAt items k x × IsThat k
  pub each : (k : ℕ) (x : A) → k < i → StandsAt items k x → IsThat k → Contains found x

module _ {A : Type 0} {R : A → A → Ordering} (total : IsTotalOrder R) (items : List A) (up : IsStrictlySortedBy R items) (IsThat : ℕ → Type 0) where
  pub ArePickedTo-none : ArePickedTo R items IsThat 0 []
  unfolding IsStrictlySortedBy
  ArePickedTo-none = record {
    ascending = tt;
    picked = λ x c. absurd (omega (arith, c.1));
    each = λ k x lt. absurd (omega (arith, lt));
  }

  pub ArePickedTo-pass : (i : ℕ) (found : List A) → ArePickedTo R items IsThat i found → (IsThat i → ⊥) → ArePickedTo R items IsThat (i + 1) found
  ArePickedTo-pass i found old not_that = record {
    ascending = old.ascending;
    picked = λ x c. let w = old.picked x c in (w.0, omega (arith, w.1), w.2, w.3);
    each = λ k x lt at that.
        ⊎_elim (λ (below : k < i). old.each k x below at that)
        (λ (not_below : i ≤ k). absurd (not_that (let e : k ≡ i = omega (arith, lt, not_below) in subst IsThat e that))) (cases_lt k i);
  }

  pub ArePickedTo-push : (i : ℕ) (x : A) (found : List A) → ArePickedTo R items IsThat i found → StandsAt items i x → IsThat i
      → ArePickedTo R items IsThat (i + 1) (found ++ x ∷ [])
  ArePickedTo-push i x found old at that = record {
    ascending = sorted-push R found x old.ascending (λ k d within.
        let y = get_or found k d in
        let w = old.picked y (Contains-get_or found k d within) in
        subst (λ z. R z x ≡ Less) (StandsAt-default d w.2) (subst (λ z. R (get_or items w.0 d) z ≡ Less) (StandsAt-default d at)
        (Less-from_sorted R items w.0 i d up w.1 at.within)));
    picked = λ y c.
        ⊎_elim (λ (old_one : Contains found y). let w = old.picked y old_one in (w.0, omega (arith, w.1), w.2, w.3))
        (λ (same : x ≡ y). (i, omega arith, subst (StandsAt items i) same at, that)) (Contains-push_cases found x y c);
    each = λ k y lt at_k that_k.
        ⊎_elim (λ (below : k < i). Contains-append_left found (x ∷ []) y (old.each k y below at_k that_k))
        (λ (not_below : i ≤ k).
        let e : k ≡ i = omega (arith, lt, not_below) in
        let same : x ≡ y = sym (StandsAt-default x at) ∙ sym (ap (λ n. get_or items n x) e) ∙ StandsAt-default x at_k in
        subst (Contains (found ++ x ∷ [])) same (Contains-push found x)) (cases_lt k i);
  }

  -- a list that is made: the empty one, and one that gains the item at an index or stays
  pub picked_none : (found : List A) → found ≡ [] → ArePickedTo R items IsThat 0 found
  picked_none found empty = subst (ArePickedTo R items IsThat 0) (sym empty) ArePickedTo-none

  pub picked_push : (i : ℕ) (d : A) (old new : List A) → ArePickedTo R items IsThat i old → i < length items → IsThat i
      → new ≡ old ++ get_or items i d ∷ [] → ArePickedTo R items IsThat (i + 1) new
  picked_push i d old new so_far within that pushed =
      subst (ArePickedTo R items IsThat (i + 1)) (sym pushed) (ArePickedTo-push i (get_or items i d) old so_far (StandsAt-get items i d within) that)

  pub picked_pass : (i : ℕ) (old new : List A) → ArePickedTo R items IsThat i old → (IsThat i → ⊥) → new ≡ old → ArePickedTo R items IsThat (i + 1) new
  picked_pass i old new so_far not_that same = subst (ArePickedTo R items IsThat (i + 1)) (sym same) (ArePickedTo-pass i old so_far not_that)

  pub ArePickedTo-all : (i : ℕ) (found : List A) → ArePickedTo R items IsThat i found → length items ≤ i → ArePicked R items IsThat found
  ArePickedTo-all i found old all = record {
    ascending = old.ascending;
    exact = λ x. (
      λ c. let w = old.picked x c in (w.0, w.2, w.3),
      λ w. old.each w.0 x (let h = w.1 in omega (arith, h.within, all)) w.1 w.2,
    );
  }

-- ---- targets

module _ {A : Type 0} (known : List A) where
  pub AreTargets-none : AreTargets known [] []
  AreTargets-none = record { of_terms = λ t c. absurd (omega (arith, c.1)); of_known = λ x c k. absurd (omega (arith, c.1)) }

  pub AreTargets-push : (terms : List A) (targets : List ℕ) (x : A) (t : ℕ) → AreTargets known terms targets → StandsAt known t x
      → AreTargets known (terms ++ x ∷ []) (targets ++ t ∷ [])
  AreTargets-push terms targets x t old at = record {
    of_terms = λ u c.
        ⊎_elim (λ (old_one : Contains targets u). let w = old.of_terms u old_one in (w.0, Contains-append_left terms (x ∷ []) w.0 w.1, w.2))
        (λ (same : t ≡ u). (x, Contains-push terms x, subst (λ n. StandsAt known n x) same at)) (Contains-push_cases targets t u c);
    of_known = λ y c k.
        ⊎_elim (λ (old_one : Contains terms y). let w = old.of_known y old_one k in (w.0, Contains-append_left targets (t ∷ []) w.0 w.1, w.2))
        (λ (same : x ≡ y). (t, Contains-push targets t, subst (StandsAt known t) same at)) (Contains-push_cases terms x y c);
  }

  pub AreTargets-pass : (terms : List A) (targets : List ℕ) (x : A) → AreTargets known terms targets → (Contains known x → ⊥)
      → AreTargets known (terms ++ x ∷ []) targets
  AreTargets-pass terms targets x old unknown = record {
    of_terms = λ u c. let w = old.of_terms u c in (w.0, Contains-append_left terms (x ∷ []) w.0 w.1, w.2);
    of_known = λ y c k.
        ⊎_elim (λ (old_one : Contains terms y). old.of_known y old_one k)
        (λ (same : x ≡ y). absurd (unknown (subst (Contains known) (sym same) k))) (Contains-push_cases terms x y c);
  }

  -- one more term of a list, which is known or isn't
  pub targets_found : (terms : List A) (i : ℕ) (d : A) (old new : List ℕ) (t : ℕ) → i < length terms → AreTargets known (take i terms) old
      → StandsAt known t (get_or terms i d) → new ≡ old ++ t ∷ [] → AreTargets known (take (i + 1) terms) new
  targets_found terms i d old new t within so_far at pushed =
      subst (λ l. AreTargets known l new) (sym (take_more terms i d within))
      (subst (AreTargets known (take i terms ++ get_or terms i d ∷ [])) (sym pushed) (AreTargets-push (take i terms) old (get_or terms i d) t so_far at))

  pub targets_missing : (terms : List A) (i : ℕ) (d : A) (old new : List ℕ) → i < length terms → AreTargets known (take i terms) old
      → (Contains known (get_or terms i d) → ⊥) → new ≡ old → AreTargets known (take (i + 1) terms) new
  targets_missing terms i d old new within so_far missing same =
      subst (λ l. AreTargets known l new) (sym (take_more terms i d within))
      (subst (AreTargets known (take i terms ++ get_or terms i d ∷ [])) (sym same) (AreTargets-pass (take i terms) old (get_or terms i d) so_far missing))

-- ---- names and roles that were picked

-- picked names, where what holds at an index is what holds of the name there
pub AreThose-picked : (names found : List ℕ) (IsThat : ℕ → Type 0) (P : ℕ → Type 0) → ((k n : ℕ) → StandsAt names k n → IsThat k ↔ P n)
    → ArePicked nat_cmp names IsThat found → AreThose names P found
AreThose-picked names found IsThat P same picked = record {
  ascending = IsStrictlyIncreasing-from_sorted found picked.ascending;
  exact = λ n. (
    λ c. let w = (picked.exact n).0 c in (StandsAt-Contains w.1, (same w.0 n w.1).0 w.2),
    λ w. let at : StandsAt names w.0.0 n = record { within = w.0.1; is = w.0.2 } in
        (picked.exact n).1 (w.0.0, at, (same w.0.0 n at).1 w.1),
  );
}

-- the same of terms of any type
pub exact-picked : {A : Type 0} {R : A → A → Ordering} (items found : List A) (IsThat : ℕ → Type 0) (P : A → Type 0)
    → ((k : ℕ) (x : A) → StandsAt items k x → IsThat k ↔ P x) → ArePicked R items IsThat found
    → (x : A) → Contains found x ↔ (Contains items x × P x)
exact-picked items found IsThat P same picked x = (
  λ c. let w = (picked.exact x).0 c in (StandsAt-Contains w.1, (same w.0 x w.1).0 w.2),
  λ w. let at : StandsAt items w.0.0 x = record { within = w.0.1; is = w.0.2 } in
      (picked.exact x).1 (w.0.0, at, (same w.0.0 x at).1 w.1),
)

Any-same : {A : Type 0} (P Q : A → Type 0) → ((x : A) → P x ↔ Q x) → (xs : List A) → Any P xs ↔ Any Q xs
Any-same P Q same xs = (
  λ h. let w = Any-member P xs h in Any-of Q xs w.0 w.1 ((same w.0).0 w.2),
  λ h. let w = Any-member Q xs h in Any-of P xs w.0 w.1 ((same w.0).1 w.2),
)

Any-one : {A : Type 0} (P : A → Type 0) (x : A) → Any P (x ∷ []) ↔ P x
Any-one P x = (
  λ h. let w = Any-member P (x ∷ []) h in subst P (sym (Contains-one x w.0 w.1)) w.2,
  λ h. Any-of P (x ∷ []) x (Contains-first x []) h,
)

module _ (p : Predicates) (list : List Role) (of_roles of_basics : Digraph) (are : AreGraphsOf p list of_roles of_basics) (axioms : List Axiom)
    (of : IsHierarchyOf (hierarchy_over p of_roles of_basics) axioms) where
  -- a basic concept at a node leads to one of the targets exactly where it is below one of the terms
  pub basic_leads : (terms : List Basic) (targets : List ℕ) → AreTargets (basics p) terms targets → (i : ℕ) (b : Basic) → StandsAt (basics p) i b
      → LeadsToOneOf of_basics targets i ↔ IsBelowOneOf axioms terms b
  basic_leads terms targets nodes i b at =
      then (leads_to_one (Class 0) (basics p) of_basics.edges are.basic_ends (one_of_basics p list of_roles of_basics are) terms targets at nodes)
      (Any-same _ (λ c. ConceptBelow axioms b c) (λ c. ((of.concepts b c).1, (of.concepts b c).0)) terms)

  pub role_leads : (role : Role) (targets : List ℕ) → AreTargets (roles p) (role ∷ []) targets → (i : ℕ) (r : Role) → StandsAt (roles p) i r
      → LeadsToOneOf of_roles targets i ↔ RoleBelow axioms r role
  role_leads role targets nodes i r at =
      then (leads_to_one (named 0) (roles p) of_roles.edges are.role_ends (one_of_roles p list of_roles of_basics are) (role ∷ []) targets at nodes)
      (then (Any-same _ (λ s. RoleBelow axioms r s) (λ s. ((of.roles r s).1, (of.roles r s).0)) (role ∷ [])) (Any-one (λ s. RoleBelow axioms r s) role))

-- ---- the nodes of names

module _ (p : Predicates) where
  -- the k-th class, and "some P" and "some inverse of P" of the k-th property
  pub class_node : (k c : ℕ) → StandsAt p.classes k c → StandsAt (basics p) (0 + k * 1) (Class c)
  class_node k c at = let e : k ≡ 0 + k * 1 = omega arith in subst (λ i. StandsAt (basics p) i (Class c)) e (basic-at_class p at)

  pub plain_node : (k q : ℕ) → StandsAt p.properties k q → StandsAt (roles p) (0 + k * 2) (named q)
  plain_node k q at = let e : 2 * k + 0 ≡ 0 + k * 2 = omega arith in subst (λ i. StandsAt (roles p) i (named q)) e (role-at_property p false at)

  pub inverse_node : (k q : ℕ) → StandsAt p.properties k q → StandsAt (roles p) (1 + k * 2) (inverse_of (named q))
  inverse_node k q at = let e : 2 * k + 1 ≡ 1 + k * 2 = omega arith in subst (λ i. StandsAt (roles p) i (inverse_of (named q))) e (role-at_property p true at)

  pub some_node : (k q : ℕ) → StandsAt p.properties k q → StandsAt (basics p) (length p.classes + k * 2) (SomeOf (named q))
  some_node k q at =
      let e : length p.classes + (0 + k * 2) ≡ length p.classes + k * 2 = omega arith in
      subst (λ i. StandsAt (basics p) i (SomeOf (named q))) e (basic-at_role p (plain_node k q at))

  pub some_inverse_node : (k q : ℕ) → StandsAt p.properties k q → StandsAt (basics p) (length p.classes + 1 + k * 2) (SomeOf (inverse_of (named q)))
  some_inverse_node k q at =
      let e : length p.classes + (1 + k * 2) ≡ length p.classes + 1 + k * 2 = omega arith in
      subst (λ i. StandsAt (basics p) i (SomeOf (inverse_of (named q)))) e (basic-at_role p (inverse_node k q at))
