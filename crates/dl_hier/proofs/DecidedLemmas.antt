-- Whether a chain over a list of steps leads from one to another is decided, and so is what is below what by any axioms.
use Rattle.std.proofs.Common.{◌≡◌, ◌⊎◌, inl, inr, List, [], ◌∷◌, refl, sym, ap, subst, ◌∙◌}
use Rattle.std.specs.declared.cmp.Ordering.{Ordering}
use Rattle.std.specs.declared.cmp.Ordering.TheVariants.{Less, Equal, Greater}
use Rattle.std.specs.Ordering.{ordering_reverse}
use Rattle.std.specs.List.{Contains}
use Rattle.dl_terms.specs.Chain.{Chain}
use Rattle.dl_terms.specs.Below.{RoleBelow, ConceptBelow}
use Rattle.dl_terms.specs.NormalForm.{role_inclusions, concept_inclusions}
use Rattle.dl_terms.specs.declared.role.Role.{Role}
use Rattle.dl_terms.specs.declared.role.Basic.{Basic}
use Rattle.dl_terms.specs.declared.axiom.Axiom.{Axiom}
use Rattle.dl_terms.proofs.OrderLemmas.{IsLinear, roles_linear, basics_linear}
use Rattle.dl_terms.proofs.MemberLemmas.{Contains-nil, Contains-first, Contains-later, Contains-cons}
use Rattle.dl_terms.proofs.BelowLemmas.{Chain-one, Chain-trans}
use Rattle.dl_hier.specs.Rows.{role_steps, concept_steps}
use Rattle.dl_hier.specs.Hierarchy.{IsStep}
use Rattle.dl_hier.proofs.SortedLemmas.{not_itself}
use Rattle.dl_hier.proofs.StepLemmas.{role-chains, concept-chains}

abbrev pub Decided : Type 0 → Type 0
Decided P = P ⊎ (P → ⊥)

-- ---- chains

module _ {A : Type 0} {R : A → A → Ordering} (l : IsLinear R) where
  same_decided : (x y : A) → Decided (x ≡ y)
  same_decided x y = by (R x y) refl
    where
      by : (o : Ordering) → R x y ≡ o → Decided (x ≡ y)
      by Less e = inr (λ same. not_itself l.total x y e same)
      by Equal e = inl (l.equal x y e)
      by Greater e = inr (λ same. not_itself l.total y x (l.total.antisymm y x ∙ ap ordering_reverse e) (sym same))

  -- a chain takes the first of the steps, or not
  first_taken : (e : A × A) (steps : List (A × A)) (a b : A) → Chain (IsStep (e ∷ steps)) a b
      → Chain (IsStep steps) a b ⊎ (Chain (IsStep steps) a e.0 × Chain (IsStep steps) e.1 b)
  first_taken e steps a b Chain.empty = inl Chain.empty
  first_taken e steps a b (Chain.step {b = m} s rest) = by (Contains-cons e (a, m) steps s)
      (first_taken e steps m b rest)
    where
      by : (e ≡ (a, m)) ⊎ Contains steps (a, m)
          → Chain (IsStep steps) m b ⊎ (Chain (IsStep steps) m e.0 × Chain (IsStep steps) e.1 b)
          → Chain (IsStep steps) a b ⊎ (Chain (IsStep steps) a e.0 × Chain (IsStep steps) e.1 b)
      by (inl here) (inl old) = inr (
        subst (λ (x : A × A). Chain (IsStep steps) a x.0) (sym here) Chain.empty,
        subst (λ (x : A × A). Chain (IsStep steps) x.1 b) (sym here) old,
      )
      by (inl here) (inr both) = inr (subst (λ (x : A × A). Chain (IsStep steps) a x.0) (sym here) Chain.empty, both.1)
      by (inr there) (inl old) = inl (Chain.step there old)
      by (inr there) (inr both) = inr (Chain.step there both.0, both.1)

  no_step : (a b : A) → Chain (IsStep {A = A} []) a b → a ≡ b
  no_step a b Chain.empty = refl
  no_step a b (Chain.step {b = m} s rest) = absurd (Contains-nil (a, m) s)

  more_steps : (e : A × A) (steps : List (A × A)) (a b : A) → Chain (IsStep steps) a b → Chain (IsStep (e ∷ steps)) a b
  more_steps e steps a b Chain.empty = Chain.empty
  more_steps e steps a b (Chain.step {b = m} s rest) = Chain.step (Contains-later e (a, m) steps s)
      (more_steps e steps m b rest)

  pub chain_decided : (steps : List (A × A)) (a b : A) → Decided (Chain (IsStep steps) a b)
  chain_decided [] a b = by (same_decided a b)
    where
      by : Decided (a ≡ b) → Decided (Chain (IsStep {A = A} []) a b)
      by (inl same) = inl (subst (Chain (IsStep {A = A} []) a) same Chain.empty)
      by (inr other) = inr (λ c. other (no_step a b c))
  chain_decided (e ∷ steps) a b = by (chain_decided steps a b) (chain_decided steps a e.0) (chain_decided steps e.1 b)
    where
      by : Decided (Chain (IsStep steps) a b) → Decided (Chain (IsStep steps) a e.0)
          → Decided (Chain (IsStep steps) e.1 b) → Decided (Chain (IsStep (e ∷ steps)) a b)
      by (inl c) to from = inl (more_steps e steps a b c)
      by (inr none) (inl to) (inl from) = inl
          (Chain-trans (more_steps e steps a e.0 to)
          (Chain-trans (Chain-one (Contains-first e steps)) (more_steps e steps e.1 b from)))
      by (inr none) (inl to) (inr from) = inr (λ c. elim (first_taken e steps a b c)
          [ inl old ↦ none old | inr both ↦ from both.1 ])
      by (inr none) (inr to) from = inr (λ c. elim (first_taken e steps a b c)
          [ inl old ↦ none old | inr both ↦ to both.0 ])

-- ---- what is below what

module _ (axioms : List Axiom) where
  pub role_decided : (r s : Role) → Decided (RoleBelow axioms r s)
  role_decided r s = elim (chain_decided roles_linear (role_steps (role_inclusions axioms)) r s)
      [ inl c ↦ inl ((role-chains axioms).1 c) | inr none ↦ inr (λ b. none ((role-chains axioms).0 b)) ]

  pub concept_decided : (b c : Basic) → Decided (ConceptBelow axioms b c)
  concept_decided b c = elim
      (chain_decided basics_linear (concept_steps (role_steps (role_inclusions axioms)) (concept_inclusions axioms)) b c)
      [ inl d ↦ inl ((concept-chains axioms).1 d) | inr none ↦ inr (λ d. none ((concept-chains axioms).0 d)) ]
