-- Tests of inclusions and of disjointness put together to tests of axioms, and tests of names put together to tests of
-- facts.
use Rattle.std.proofs.Common.{◌≡◌, ℕ, ◌+◌, ◌<◌, ◌≤◌, ◌↔◌, Bool, true, false, List, [], ◌∷◌, length, take, get_or, sym, ap, subst, ◌∙◌, ⊎_elim, true≢false}
use Rattle.std.specs.List.{Contains}
use Rattle.std.proofs.lemmas.List.{take_more, take_all}
use Rattle.std.proofs.lemmas.List.Elements.{Contains-append_cases}
use Rattle.dl_terms.specs.Roles.{inverse_of}
use Rattle.dl_terms.specs.declared.role.Role.{Role}
use Rattle.dl_terms.specs.declared.role.Basic.TheVariants.{SomeOf}
use Rattle.dl_terms.specs.declared.axiom.Part.{Part}
use Rattle.dl_terms.specs.declared.axiom.Axiom.TheVariants.{SubClass, InverseRoles, Domain, Range, Symmetric, Asymmetric}
use Rattle.dl_terms.specs.declared.axiom.Fact.TheVariants.{Is, Link}
use Rattle.dl_terms.proofs.MemberLemmas.{Contains-one}
use Rattle.dl_models.specs.Meaning.{Structure, RoleIsWithin, RoleIsApart, Accepts, FactHolds}
use Rattle.dl_models.specs.Structures.{finite}
use Rattle.dl_models.specs.declared.interp.Interp.{Interp}
use Rattle.dl_models.proofs.RowLemmas.{inverse-links}

-- ---- two tests

pub both-second : {P Q : Type 0} (two : Bool) → P → (two ≡ true) ↔ Q → (two ≡ true) ↔ (P × Q)
both-second two p exact = (λ e. (p, exact.0 e), λ h. exact.1 h.1)

pub both-first : {P Q : Type 0} (one : Bool) → (one ≡ true) ↔ P → one ≡ false → (one ≡ true) ↔ (P × Q)
both-first one exact e = (λ t. absurd (true≢false (sym t ∙ e)), λ h. exact.1 h.0)

pub same-test : {P Q : Type 0} (b : Bool) → P ↔ Q → (b ≡ true) ↔ P → (b ≡ true) ↔ Q
same-test b same exact = (λ e. same.0 (exact.0 e), λ h. exact.1 (same.1 h))

-- ---- axioms

module _ (i : Structure) where
  pub inverses : (r s : Role) → (RoleIsWithin i r (inverse_of s) × RoleIsWithin i (inverse_of s) r) ↔ Accepts i (InverseRoles r s)
  inverses r s = (
    λ h x y e f. (λ k. (inverse-links i s x y).0 (h.0 x y e f k), λ k. h.1 x y e f ((inverse-links i s x y).1 k)),
    λ h. (λ x y e f k. (inverse-links i s x y).1 ((h x y e f).0 k), λ x y e f k. (h x y e f).1 ((inverse-links i s x y).0 k)),
  )

  pub domains : (r : Role) (ps : List Part) → Accepts i (SubClass (SomeOf r) ps) ↔ Accepts i (Domain r ps)
  domains r ps = (λ h x y e f k. h x e (y, f, k), λ h x e k. h x k.0 e k.1 k.2)

  pub ranges : (r : Role) (ps : List Part) → Accepts i (SubClass (SomeOf (inverse_of r)) ps) ↔ Accepts i (Range r ps)
  ranges r ps =
      (λ h x y e f k. h y f (x, e, (inverse-links i r y x).1 k), λ h y f k. h k.0 y k.1 f ((inverse-links i r y k.0).0 k.2))

  pub symmetries : (r : Role) → RoleIsWithin i r (inverse_of r) ↔ Accepts i (Symmetric r)
  symmetries r = (λ h x y e f k. (inverse-links i r x y).0 (h x y e f k), λ h x y e f k. (inverse-links i r x y).1 (h x y e f k))

  pub asymmetries : (r : Role) → RoleIsApart i r (inverse_of r) ↔ Accepts i (Asymmetric r)
  asymmetries r =
      (λ h x y e f k l. h x y e f k ((inverse-links i r x y).1 l), λ h x y e f k l. h x y e f k ((inverse-links i r x y).0 l))

-- ---- names

pub absent-more : (ps : List (ℕ × ℕ)) (i : ℕ) (d : ℕ × ℕ) (key : ℕ) → i < length ps → ((x : ℕ) → ¬ Contains (take i ps) (key, x))
    → ¬ (get_or ps i d).0 ≡ key → (x : ℕ) → ¬ Contains (take (i + 1) ps) (key, x)
absent-more ps i d key lt none other x c =
    ⊎_elim (λ (early : Contains (take i ps) (key, x)). none x early)
    (λ (last : Contains (get_or ps i d ∷ []) (key, x)). other (ap (λ p. p.0) (Contains-one (get_or ps i d) (key, x) last)))
    (Contains-append_cases (take i ps) (get_or ps i d ∷ []) (key, x) (subst (λ l. Contains l (key, x)) (take_more ps i d lt) c))

pub absent-all : (ps : List (ℕ × ℕ)) (i : ℕ) (key : ℕ) → length ps ≤ i → ((x : ℕ) → ¬ Contains (take i ps) (key, x)) → (x : ℕ) → ¬ Contains ps (key, x)
absent-all ps i key long none x c = none x (subst (λ l. Contains l (key, x)) (sym (take_all i ps long)) c)

module _ (model : Interp) where
  pub member-none : (c a : ℕ) → ((x : ℕ) → ¬ Contains model.names (a, x)) → (false ≡ true) ↔ FactHolds (finite model) (Is c a)
  member-none c a none = (λ e. absurd (true≢false (sym e)), λ h. absurd (none h.0 h.1))

  pub member-some : (c a x : ℕ) (b : Bool) → Contains model.names (a, x) → (b ≡ true) ↔ Contains model.classes (c, x)
      → (b ≡ true) ↔ FactHolds (finite model) (Is c a)
  member-some c a x b at exact =
      (λ e. (x, at, exact.0 e), λ h. exact.1 (subst (λ y. Contains model.classes (c, y)) (model.valid.one_element a h.0 x h.1 at) h.2))

  pub joined-from : (p a b : ℕ) → ((x : ℕ) → ¬ Contains model.names (a, x)) → (false ≡ true) ↔ FactHolds (finite model) (Link p a b)
  joined-from p a b none = (λ e. absurd (true≢false (sym e)), λ h. absurd (none h.0 h.2))

  pub joined-to : (p a b : ℕ) → ((x : ℕ) → ¬ Contains model.names (b, x)) → (false ≡ true) ↔ FactHolds (finite model) (Link p a b)
  joined-to p a b none = (λ e. absurd (true≢false (sym e)), λ h. absurd (none h.1 h.3))

  pub joined-some : (p a b x y : ℕ) (t : Bool) → Contains model.names (a, x) → Contains model.names (b, y) → (t ≡ true) ↔ Contains model.links (p, x, y)
      → (t ≡ true) ↔ FactHolds (finite model) (Link p a b)
  joined-some p a b x y t at to exact = (
    λ e. (x, y, at, to, exact.0 e),
    λ h. exact.1
        (subst (λ z. Contains model.links (p, z, y)) (model.valid.one_element a h.0 x h.2 at)
        (subst (λ z. Contains model.links (p, h.0, z)) (model.valid.one_element b h.1 y h.3 to) h.4)),
  )
