-- Chains of the steps that rows of inclusions give are what is below what, by any axioms with these rows.
use Rattle.std.proofs.Common.{◌≡◌, ◌↔◌, List, [], ◌∷◌, map, Contains, sym, ap, ap₂, subst, ◌∙◌, ⊎_elim}
use Rattle.std.proofs.lemmas.List.Elements.{Contains-append_left, Contains-append_right, Contains-append_cases}
use Rattle.dl_terms.specs.Chain.{Chain}
use Rattle.dl_terms.specs.Roles.{inverse_of}
use Rattle.dl_terms.specs.NormalForm.{role_inclusions, concept_inclusions}
use Rattle.dl_terms.specs.Below.{RoleStep, RoleBelow, ConceptStep, ConceptBelow}
use Rattle.dl_terms.specs.declared.role.Role.{Role}
use Rattle.dl_terms.specs.declared.role.Basic.{Basic}
use Rattle.dl_terms.specs.declared.role.Basic.TheVariants.{SomeOf}
use Rattle.dl_terms.specs.declared.role.Normal.{Normal}
use Rattle.dl_terms.specs.declared.axiom.Axiom.{Axiom}
use Rattle.dl_terms.proofs.BelowLemmas.{Chain-one, inverse_of-inverse_of}
use Rattle.dl_terms.proofs.MemberLemmas.{Contains-first, Contains-later, Contains-two}
use Rattle.dl_hier.specs.Rows.{HasInclusions, role_steps, concept_steps}
use Rattle.dl_hier.specs.Hierarchy.{Hierarchy, IsStep, IsHierarchyOf}
use Rattle.dl_hier.proofs.MemberLemmas.{Contains-map, Contains-map_of, Contains-flat_map, Contains-flat_map_of}
use Rattle.dl_hier.proofs.ChainLemmas.{Chain-map, Chain-mono, Chain-members}

abbrev turned : Role × Role → Role × Role
turned p = (inverse_of p.0, inverse_of p.1)

turned-turned : (p : Role × Role) → turned (turned p) ≡ p
turned-turned p = ap₂ (λ r s. (r, s)) (inverse_of-inverse_of p.0) (inverse_of-inverse_of p.1)

module _ (axioms : List Axiom) where
  rows : List (Role × Role)
  rows = role_inclusions axioms

  step-listed : (r s : Role) → RoleStep axioms r s → Contains (role_steps (role_inclusions axioms)) (r, s)
  step-listed r s (RoleStep.inclusion c) =
      Contains-flat_map_of (λ p. p ∷ turned p ∷ []) (role_inclusions axioms) (r, s) (r, s) c (Contains-first (r, s) (turned (r, s) ∷ []))
  step-listed r s (RoleStep.inverted c) =
      Contains-flat_map_of (λ p. p ∷ turned p ∷ []) (role_inclusions axioms) (turned (r, s)) (r, s) c
      (Contains-later (turned (r, s)) (r, s) (turned (turned (r, s)) ∷ [])
      (subst (λ p. Contains (turned (turned (r, s)) ∷ []) p) (turned-turned (r, s)) (Contains-first (turned (turned (r, s))) [])))

  listed-step : (r s : Role) → Contains (role_steps (role_inclusions axioms)) (r, s) → RoleStep axioms r s
  listed-step r s c =
      let w = Contains-flat_map (λ p. p ∷ turned p ∷ []) (role_inclusions axioms) (r, s) c in
      ⊎_elim (λ (same : w.0 ≡ (r, s)). RoleStep.inclusion (subst (Contains (role_inclusions axioms)) same w.1))
      (λ (other : turned w.0 ≡ (r, s)).
      RoleStep.inverted (subst (Contains (role_inclusions axioms)) (sym (turned-turned w.0) ∙ ap turned other) w.1))
      (Contains-two w.0 (turned w.0) (r, s) w.2)

  pub role-chains : {r s : Role} → RoleBelow axioms r s ↔ Chain (IsStep (role_steps (role_inclusions axioms))) r s
  role-chains {r} {s} = (
    λ c. Chain-mono (λ a b t. Chain-one (step-listed a b t)) c,
    λ c. Chain-mono (λ a b t. Chain-one (listed-step a b t)) c,
  )

  abbrev pub all_steps : List (Basic × Basic)
  all_steps = concept_steps (role_steps (role_inclusions axioms)) (concept_inclusions axioms)

  some : Role × Role → Basic × Basic
  some p = (SomeOf p.0, SomeOf p.1)

  concept-listed : (b c : Basic) → ConceptStep axioms b c → Chain (IsStep all_steps) b c
  concept-listed b c (ConceptStep.inclusion h) =
      Chain-one (Contains-append_left (concept_inclusions axioms) (map (λ p. (SomeOf p.0, SomeOf p.1)) (role_steps (role_inclusions axioms))) (b, c) h)
  concept-listed b c (ConceptStep.some_of h) =
      Chain-map SomeOf (λ r s t. Chain-one (Contains-append_right (concept_inclusions axioms)
      (map (λ p. (SomeOf p.0, SomeOf p.1)) (role_steps (role_inclusions axioms))) (SomeOf r, SomeOf s)
      (Contains-map_of (λ p. (SomeOf p.0, SomeOf p.1)) (role_steps (role_inclusions axioms)) (r, s) (step-listed r s t)))) h

  listed-concept : (b c : Basic) → IsStep all_steps b c → ConceptStep axioms b c
  listed-concept b c h =
      ⊎_elim (λ (row : Contains (concept_inclusions axioms) (b, c)). ConceptStep.inclusion row)
      (λ (other : Contains (map (λ p. (SomeOf p.0, SomeOf p.1)) (role_steps (role_inclusions axioms))) (b, c)).
      let w = Contains-map (λ p. (SomeOf p.0, SomeOf p.1)) (role_steps (role_inclusions axioms)) (b, c) other in
      subst (λ p. ConceptStep axioms p.0 p.1) w.2 (ConceptStep.some_of (Chain-one (listed-step w.0.0 w.0.1 w.1))))
      (Contains-append_cases (concept_inclusions axioms) (map (λ p. (SomeOf p.0, SomeOf p.1)) (role_steps (role_inclusions axioms))) (b, c) h)

  pub concept-chains : {b c : Basic} → ConceptBelow axioms b c ↔ Chain (IsStep all_steps) b c
  concept-chains {b} {c} = (λ h. Chain-mono concept-listed h, λ h. Chain-mono (λ x y t. Chain-one (listed-concept x y t)) h)

-- a hierarchy whose steps are those of the rows is one of all axioms with these rows
pub IsHierarchyOf-rows : (h : Hierarchy) (normal : Normal) → ((p : Role × Role) → Contains h.role_steps p ↔ Contains (role_steps normal.roles) p)
    → ((p : Basic × Basic) → Contains h.concept_steps p ↔ Contains (concept_steps (role_steps normal.roles) normal.concepts) p)
    → (axioms : List Axiom) → HasInclusions axioms normal → IsHierarchyOf h axioms
IsHierarchyOf-rows h normal same_roles same_concepts axioms rows = record {
  roles = λ r s. (
    λ c. Chain-members (role_steps (role_inclusions axioms)) h.role_steps (λ p m. (same_roles p).1 (subst (λ l. Contains (role_steps l) p) (sym rows.roles) m))
        ((role-chains axioms).0 c),
    λ c. (role-chains axioms).1
        (Chain-members h.role_steps (role_steps (role_inclusions axioms)) (λ p m. subst (λ l. Contains (role_steps l) p) rows.roles ((same_roles p).0 m)) c),
  );
  concepts = λ b c. (
    λ k. Chain-members (all_steps axioms) h.concept_steps (λ p m. (same_concepts p).1 (to_rows p m)) ((concept-chains axioms).0 k),
    λ k. (concept-chains axioms).1 (Chain-members h.concept_steps (all_steps axioms) (λ p m. from_rows p ((same_concepts p).0 m)) k),
  );
}
  where
    to_rows : (p : Basic × Basic) → Contains (all_steps axioms) p → Contains (concept_steps (role_steps normal.roles) normal.concepts) p
    to_rows p m = subst (λ l. Contains (concept_steps (role_steps normal.roles) l) p) (sym rows.concepts)
        (subst (λ l. Contains (concept_steps (role_steps l) (concept_inclusions axioms)) p) (sym rows.roles) m)

    from_rows : (p : Basic × Basic) → Contains (concept_steps (role_steps normal.roles) normal.concepts) p → Contains (all_steps axioms) p
    from_rows p m = subst (λ l. Contains (concept_steps (role_steps l) (concept_inclusions axioms)) p) rows.roles
        (subst (λ l. Contains (concept_steps (role_steps normal.roles) l) p) rows.concepts m)
