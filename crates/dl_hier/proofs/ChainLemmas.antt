-- Chains of steps between terms, and chains of edges between their nodes.
use Rattle.std.proofs.Common.{◌≡◌, ℕ, ◌<◌, ◌↔◌, List, map, length, get_or, Contains, refl, sym, ap, subst, ◌∙◌}
use Rattle.std.proofs.lemmas.List.Elements.{All-contains, Contains-get_or}
use Rattle.dl_terms.specs.Chain.{Chain, empty, step}
use Rattle.dl_terms.proofs.BelowLemmas.{Chain-one, Chain-trans}
use Rattle.dl_reach.specs.Chain.{Chain as Walk}
use Rattle.dl_reach.specs.Chain as walk
use Rattle.dl_reach.specs.Digraph.{Leads, EndsBelow}
use Rattle.dl_reach.proofs.Chains.{Chain-refl, Chain-cons}
use Rattle.dl_hier.specs.Hierarchy.{IsStep}
use Rattle.dl_hier.specs.Nodes.{StandsAt, ends_of}
use Rattle.dl_hier.proofs.MemberLemmas.{Contains-map, Contains-map_of, StandsAt-default}

-- ---- chains over other steps

-- a map that takes each step to a chain takes chains to chains
pub Chain-map : {A B : Type 0} {Step : A → A → Type 0} {Step' : B → B → Type 0} (f : A → B) → ((a b : A) → Step a b → Chain Step' (f a) (f b))
    → {a b : A} → Chain Step a b → Chain Step' (f a) (f b)
Chain-map f each empty = empty
Chain-map f each (step s c) = Chain-trans (each _ _ s) (Chain-map f each c)

pub Chain-mono : {A : Type 0} {Step Step' : A → A → Type 0} → ((a b : A) → Step a b → Chain Step' a b) → {a b : A} → Chain Step a b → Chain Step' a b
Chain-mono each empty = empty
Chain-mono each (step s c) = Chain-trans (each _ _ s) (Chain-mono each c)

-- lists with the same members have the same chains
pub Chain-members : {A : Type 0} (steps others : List (A × A)) → ((p : A × A) → Contains steps p → Contains others p) → {a b : A}
    → Chain (IsStep steps) a b → Chain (IsStep others) a b
Chain-members steps others within c = Chain-mono (λ a b s. Chain-one (within (a, b) s)) c

-- ---- terms and their nodes

module _ {A : Type 0} (d : A) (items : List A) (edges : List (ℕ × ℕ)) where
  abbrev steps : List (A × A)
  steps = map (ends_of d items) edges

  to_terms : {i j : ℕ} → Walk (Leads edges) i j → Chain (IsStep steps) (get_or items i d) (get_or items j d)
  to_terms walk.empty = empty
  to_terms (walk.step {a = i} {b = k} s w) = step (Contains-map_of (ends_of d items) edges (i, k) s) (to_terms w)

  module _ (ends : EndsBelow (length items) edges) where
    -- both ends of a step are items
    pub step-known : (a b : A) → IsStep steps a b → Contains items a × Contains items b
    step-known a b s =
        let w = Contains-map (ends_of d items) edges (a, b) s in
        let at = All-contains (λ e. (e.0 < length items) × (e.1 < length items)) edges w.0 ends w.1 in (
          subst (Contains items) (ap (λ p. p.0) w.2) (Contains-get_or items w.0.0 d at.0),
          subst (Contains items) (ap (λ p. p.1) w.2) (Contains-get_or items w.0.1 d at.1),
        )

    -- what is no item is below itself alone
    pub from_unknown : {a b : A} → Chain (IsStep steps) a b → (Contains items a → ⊥) → a ≡ b
    from_unknown empty unknown = refl
    from_unknown (step s c) unknown = absurd (unknown (step-known _ _ s).0)

    pub to_unknown : {a b : A} → Chain (IsStep steps) a b → (Contains items b → ⊥) → a ≡ b
    to_unknown empty unknown = refl
    to_unknown (step s c) unknown = absurd (unknown (subst (Contains items) (to_unknown c unknown) (step-known _ _ s).1))

    module _ (one : (i j : ℕ) → i < length items → j < length items → get_or items i d ≡ get_or items j d → i ≡ j) where
      to_nodes : {a b : A} → Chain (IsStep steps) a b → (i : ℕ) → i < length items → get_or items i d ≡ a
          → (j : ℕ) → j < length items → get_or items j d ≡ b → Walk (Leads edges) i j
      to_nodes empty i i_in e j j_in f = subst (Walk (Leads edges) i) (one i j i_in j_in (e ∙ sym f)) (Chain-refl (Leads edges) i)
      to_nodes {a} (step {b = m} s c) i i_in e j j_in f =
          let w = Contains-map (ends_of d items) edges (a, m) s in
          let at = All-contains (λ p. (p.0 < length items) × (p.1 < length items)) edges w.0 ends w.1 in
          let here : w.0.0 ≡ i = one w.0.0 i at.0 i_in (ap (λ p. p.0) w.2 ∙ sym e) in
          Chain-cons (Leads edges) i w.0.1 j (subst (λ k. Leads edges k w.0.1) here w.1) (to_nodes c w.0.1 at.1 (ap (λ p. p.1) w.2) j j_in f)

      -- chains of steps between two terms are walks between their nodes
      pub walks_are_chains : {i j : ℕ} {a b : A} → StandsAt items i a → StandsAt items j b → Walk (Leads edges) i j ↔ Chain (IsStep steps) a b
      walks_are_chains {i} {j} {a} {b} s t = (
        λ w. subst (λ x. Chain (IsStep steps) x b) (StandsAt-default d s)
            (subst (Chain (IsStep steps) (get_or items i d)) (StandsAt-default d t) (to_terms w)),
        λ c. to_nodes c i s.within (StandsAt-default d s) j t.within (StandsAt-default d t),
      )
