-- Chains of steps, and what is below what.
use Rattle.std.proofs.Common.{◌≡◌, Bool, true, false, not, ◌&&◌, ◌||◌, List, refl, sym, ap, ap₂, subst, ◌∙◌, true≢false}
use Rattle.std.specs.List.{Contains, list_all}
use Rattle.dl_terms.specs.Chain.{Chain, empty, step}
use Rattle.dl_terms.specs.Roles.{inverse_of}
use Rattle.dl_terms.specs.NormalForm.{role_inclusions, concept_inclusions}
use Rattle.dl_terms.specs.Below.{RoleStep, RoleBelow, ConceptStep, ConceptBelow}
use Rattle.dl_terms.specs.declared.role.Role.{Role}
use Rattle.dl_terms.specs.declared.role.Basic.{Basic}
use Rattle.dl_terms.specs.declared.role.Basic.TheVariants.{SomeOf}
use Rattle.dl_terms.specs.declared.axiom.Axiom.{Axiom}
use Rattle.dl_terms.proofs.MemberLemmas.{list_all-Contains, both_true}

-- ---- chains

pub Chain-one : {A : Type 0} {Step : A → A → Type 0} {a b : A} → Step a b → Chain Step a b
Chain-one s = step s empty

pub Chain-trans : {A : Type 0} {Step : A → A → Type 0} {a b c : A} → Chain Step a b → Chain Step b c → Chain Step a c
Chain-trans empty d = d
Chain-trans (step s c) d = step s (Chain-trans c d)

-- what each step keeps, a chain keeps
pub Chain-keeps : {A : Type 0} {Step : A → A → Type 0} (P : A → Type 0) → ((a b : A) → Step a b → P a → P b) → {a b : A}
    → Chain Step a b → P a → P b
Chain-keeps P keeps empty p = p
Chain-keeps P keeps (step s c) p = Chain-keeps P keeps c (keeps _ _ s p)

-- ---- role below

not-not : (i : Bool) → not (not i) ≡ i
not-not true = refl
not-not false = refl

pub inverse_of-inverse_of : (r : Role) → inverse_of (inverse_of r) ≡ r
inverse_of-inverse_of r = ap (λ i. record { base = r.base; inverse = i }) (not-not r.inverse)

pub RoleBelow-refl : (axioms : List Axiom) (r : Role) → RoleBelow axioms r r
RoleBelow-refl axioms r = empty

pub RoleBelow-trans : (axioms : List Axiom) {r s t : Role} → RoleBelow axioms r s → RoleBelow axioms s t → RoleBelow axioms r t
RoleBelow-trans axioms c d = Chain-trans c d

RoleStep-inverse : (axioms : List Axiom) (r s : Role) → RoleStep axioms r s → RoleStep axioms (inverse_of r) (inverse_of s)
RoleStep-inverse axioms r s (RoleStep.inclusion c) =
    RoleStep.inverted (subst (Contains (role_inclusions axioms)) (ap₂ (λ x y. (x, y)) (sym (inverse_of-inverse_of r)) (sym (inverse_of-inverse_of s))) c)
RoleStep-inverse axioms r s (RoleStep.inverted c) = RoleStep.inclusion c

-- the inverse of a role below another is below the other's inverse
pub RoleBelow-inverse : (axioms : List Axiom) {r s : Role} → RoleBelow axioms r s → RoleBelow axioms (inverse_of r) (inverse_of s)
RoleBelow-inverse axioms empty = empty
RoleBelow-inverse axioms (step h c) = step (RoleStep-inverse axioms _ _ h) (RoleBelow-inverse axioms c)

pub RoleBelow-turned : (axioms : List Axiom) {r s : Role} → RoleBelow axioms r (inverse_of s) → RoleBelow axioms (inverse_of r) s
RoleBelow-turned axioms {r} {s} c = subst (RoleBelow axioms (inverse_of r)) (inverse_of-inverse_of s) (RoleBelow-inverse axioms c)

-- ---- concept below

pub ConceptBelow-refl : (axioms : List Axiom) (b : Basic) → ConceptBelow axioms b b
ConceptBelow-refl axioms b = empty

pub ConceptBelow-trans : (axioms : List Axiom) {b c d : Basic} → ConceptBelow axioms b c → ConceptBelow axioms c d → ConceptBelow axioms b d
ConceptBelow-trans axioms c d = Chain-trans c d

pub ConceptBelow-SomeOf : (axioms : List Axiom) {r s : Role} → RoleBelow axioms r s → ConceptBelow axioms (SomeOf r) (SomeOf s)
ConceptBelow-SomeOf axioms c = Chain-one (ConceptStep.some_of c)

pub ConceptBelow-inclusion : (axioms : List Axiom) {b c : Basic} → Contains (concept_inclusions axioms) (b, c) → ConceptBelow axioms b c
ConceptBelow-inclusion axioms c = Chain-one (ConceptStep.inclusion c)

-- ---- tests that inclusions keep: what is above something that passes passes too

-- from the first passing, the second passes
abbrev pub keeps : {A : Type 0} → (A → Bool) → A × A → Bool
keeps f p = not (f p.0) || f p.1

abbrev pub keeps_roles : (Role → Bool) → Role × Role → Bool
keeps_roles f p = keeps f p && keeps f (inverse_of p.0, inverse_of p.1)

kept : (s t : Bool) → (not s || t) ≡ true → s ≡ true → t ≡ true
kept true t e h = e
kept false t e h = absurd (true≢false (sym h))

pub RoleBelow-keeps : (axioms : List Axiom) (f : Role → Bool) {r s : Role} → list_all (keeps_roles f) (role_inclusions axioms) ≡ true
    → RoleBelow axioms r s → f r ≡ true → f s ≡ true
RoleBelow-keeps axioms f all c = Chain-keeps (λ r. f r ≡ true) by c
  where
    by : (r s : Role) → RoleStep axioms r s → f r ≡ true → f s ≡ true
    by r s (RoleStep.inclusion c) p =
        let q = both_true (keeps f (r, s)) (keeps f (inverse_of r, inverse_of s)) (list_all-Contains (keeps_roles f) (role_inclusions axioms) (r, s) all c) in
        kept (f r) (f s) q.0 p
    by r s (RoleStep.inverted c) p =
        let q = both_true (keeps f (inverse_of r, inverse_of s)) (keeps f (inverse_of (inverse_of r), inverse_of (inverse_of s))) (list_all-Contains (keeps_roles f) (role_inclusions axioms) (inverse_of r, inverse_of s) all c) in
        ap f (sym (inverse_of-inverse_of s)) ∙ kept (f (inverse_of (inverse_of r))) (f (inverse_of (inverse_of s))) q.1 (ap f (inverse_of-inverse_of r) ∙ p)

pub ConceptBelow-keeps : (axioms : List Axiom) (g : Basic → Bool) {b c : Basic}
    → list_all (keeps_roles (λ r. g (SomeOf r))) (role_inclusions axioms) ≡ true → list_all (keeps g) (concept_inclusions axioms) ≡ true
    → ConceptBelow axioms b c → g b ≡ true → g c ≡ true
ConceptBelow-keeps axioms g roles concepts c = Chain-keeps (λ b. g b ≡ true) by c
  where
    by : (b c : Basic) → ConceptStep axioms b c → g b ≡ true → g c ≡ true
    by b c (ConceptStep.inclusion h) = kept (g b) (g c) (list_all-Contains (keeps g) (concept_inclusions axioms) (b, c) concepts h)
    by b c (ConceptStep.some_of h) = RoleBelow-keeps axioms (λ r. g (SomeOf r)) roles h
