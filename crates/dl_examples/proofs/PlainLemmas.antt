-- Axioms that have no inclusions: each role and each concept is below itself alone.
use Rattle.std.proofs.Common.{◌≡◌, ℕ, ◌⊎◌, List, [], refl, ap, subst, ◌∙◌, inl, inr, true≢false}
use Rattle.std.specs.List.{Contains}
use Rattle.dl_terms.specs.Roles.{inverse_of, named}
use Rattle.dl_terms.specs.Chain.{empty, step}
use Rattle.dl_terms.specs.Below.{RoleStep, RoleBelow, ConceptStep, ConceptBelow}
use Rattle.dl_terms.specs.NormalForm.{role_inclusions, concept_inclusions}
use Rattle.dl_terms.specs.Structure.{Element, child, Joins, by_fact, by_fact_turned, to_child, from_child}
use Rattle.dl_terms.specs.declared.role.Base.{Base}
use Rattle.dl_terms.specs.declared.role.Base.TheVariants.{Named, Auxiliary}
use Rattle.dl_terms.specs.declared.role.Role.{Role}
use Rattle.dl_terms.specs.declared.role.Basic.{Basic}
use Rattle.dl_terms.specs.declared.role.Basic.TheVariants.{SomeOf}
use Rattle.dl_terms.specs.declared.axiom.Axiom.{Axiom}
use Rattle.dl_terms.specs.declared.axiom.Fact.{Fact}
use Rattle.dl_terms.specs.declared.axiom.Fact.TheVariants.{Link}
use Rattle.dl_terms.proofs.MemberLemmas.{Contains-nil}

-- no inverse of a named role is a named role
pub turned-named : (p q : ℕ) → inverse_of (named p) ≡ named q → ⊥
turned-named p q e = true≢false (ap (λ r. r.inverse) e)

number_of : Base → ℕ
number_of (Named p) = p
number_of (Auxiliary p i c) = p

-- a named role has one number
pub named-injective : (p q : ℕ) → named p ≡ named q → p ≡ q
unfolding number_of
named-injective p q e = ap (λ r. number_of r.base) e

module _ (axioms : List Axiom) (roles : role_inclusions axioms ≡ []) (concepts : concept_inclusions axioms ≡ []) where
  no_step : (r s : Role) → RoleStep axioms r s → ⊥
  no_step r s (RoleStep.inclusion c) = Contains-nil (r, s) (subst (λ l. Contains l (r, s)) roles c)
  no_step r s (RoleStep.inverted c) = Contains-nil (inverse_of r, inverse_of s) (subst (λ l. Contains l (inverse_of r, inverse_of s)) roles c)

  pub RoleBelow-same : (r s : Role) → RoleBelow axioms r s → r ≡ s
  RoleBelow-same r _ empty = refl
  RoleBelow-same r _ (step {b = t} h c) = absurd (no_step r t h)

  concept_step-same : (b c : Basic) → ConceptStep axioms b c → b ≡ c
  concept_step-same b c (ConceptStep.inclusion h) = absurd (Contains-nil (b, c) (subst (λ l. Contains l (b, c)) concepts h))
  concept_step-same _ _ (ConceptStep.some_of {r = r} {s = s} h) = ap SomeOf (RoleBelow-same r s h)

  pub ConceptBelow-same : (b c : Basic) → ConceptBelow axioms b c → b ≡ c
  ConceptBelow-same b _ empty = refl
  ConceptBelow-same b d (step {b = c} h k) = concept_step-same b c h ∙ ConceptBelow-same c d k

  module _ (facts : List Fact) where
    -- a named role joins two individuals by its own facts, or an element and its child
    pub Joins-named : (q : ℕ) (x y : Element) → Joins axioms facts (named q) x y
        → ((x.word ≡ []) × (y.word ≡ []) × Contains facts (Link q x.name y.name)) ⊎ ((y ≡ child x (named q)) ⊎ (x ≡ child y (inverse_of (named q))))
    Joins-named q x y (by_fact {p = p} e f h d) =
        inl (e, f, subst (λ n. Contains facts (Link n x.name y.name)) (named-injective p q (RoleBelow-same (named p) (named q) d)) h)
    Joins-named q x y (by_fact_turned {p = p} e f h d) = absurd (turned-named p q (RoleBelow-same (inverse_of (named p)) (named q) d))
    Joins-named q x y (to_child {r = r} e d) = inr (inl (subst (λ s. y ≡ child x s) (RoleBelow-same r (named q) d) e))
    Joins-named q x y (from_child {r = r} e d) = inr (inr (subst (λ s. x ≡ child y s) (RoleBelow-same r (inverse_of (named q)) d) e))
