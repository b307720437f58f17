-- What an accepted axiom says of the rows of its normal form, in any structure in which an auxiliary role links what its role
-- links to members of its class.
use Rattle.std.proofs.Common.{ℕ, ◌↔◌, Bool, true, false, not, List, [], ◌∷◌}
use Rattle.std.specs.List.{All, Contains, flat_map}
use Rattle.std.proofs.lemmas.List.Elements.{All-nil, All-cons, All-map, All-weaker}
use Rattle.dl_terms.specs.Roles.{inverse_of, auxiliary_base, auxiliary_of}
use Rattle.dl_terms.specs.NormalForm.{Row, role_in, concept_in, never, ring, pairs, part_rows, axiom_rows}
use Rattle.dl_terms.specs.Auxiliaries.{IsNamed, PartHasNoAuxiliary, HasNoAuxiliary}
use Rattle.dl_terms.specs.declared.role.Base.{Base}
use Rattle.dl_terms.specs.declared.role.Base.TheVariants.{Named, Auxiliary}
use Rattle.dl_terms.specs.declared.role.Role.{Role}
use Rattle.dl_terms.specs.declared.role.Basic.{Basic}
use Rattle.dl_terms.specs.declared.role.Basic.TheVariants as basic
use Rattle.dl_terms.specs.declared.role.Negative.{Negative}
use Rattle.dl_terms.specs.declared.role.Negative.TheVariants.{Basics, Roles, NoLoop}
use Rattle.dl_terms.specs.declared.axiom.Part.{Part}
use Rattle.dl_terms.specs.declared.axiom.Part.TheVariants as part
use Rattle.dl_terms.specs.declared.axiom.Axiom.{Axiom}
use Rattle.dl_terms.specs.declared.axiom.Axiom.TheVariants.{SubClass, EquivalentClasses, DisjointClasses, SubRole, EquivalentRoles, DisjointRoles, InverseRoles, Domain, Range, Symmetric, Asymmetric, Irreflexive}
use Rattle.dl_models.specs.Meaning.{Structure, turned, BaseLinks, RoleLinks, IsInBasic, IsInPart, IsWithin, IsApart, RoleIsWithin, RoleIsApart, Accepts}
use Rattle.dl_models.proofs.ListLemmas.{All-flat_map, All-pairs, Contains-ring}

-- ---- inverses and auxiliary roles

turned-not : {A : Type 0} (t : Bool) (R : A → A → Type 0) (x y : A) → turned (not t) R x y ↔ turned t R y x
turned-not true R x y = (λ h. h, λ h. h)
turned-not false R x y = (λ h. h, λ h. h)

module _ (i : Structure) where
  -- an inverse links the ends the other way round
  pub inverse-links : (r : Role) (x y : i.Value) → RoleLinks i (inverse_of r) x y ↔ RoleLinks i r y x
  inverse-links r x y = turned-not r.inverse (BaseLinks i r.base) x y

  base_of_auxiliary : (b : Base) (t : Bool) (c : ℕ) → IsNamed b → (x y : i.Value)
      → BaseLinks i (auxiliary_base b t c) x y ↔ (turned t (BaseLinks i b) x y × i.IsIn c y)
  base_of_auxiliary (Named p) true c h x y = (λ k. k, λ k. k)
  base_of_auxiliary (Named p) false c h x y = (λ k. k, λ k. k)
  base_of_auxiliary (Auxiliary p t' d) t c h x y = absurd h

  -- an auxiliary role links what its role links to members of its class
  pub auxiliary-links : (r : Role) (c : ℕ) → IsNamed r.base → (x y : i.Value) → RoleLinks i (auxiliary_of r c) x y ↔ (RoleLinks i r x y × i.IsIn c y)
  auxiliary-links r c h x y = base_of_auxiliary r.base r.inverse c h x y

  -- ---- rows

  abbrev pub NegativeHolds : Negative → Type 0
  NegativeHolds (Basics b c) = IsApart i b c
  NegativeHolds (Roles r s) = RoleIsApart i r s
  NegativeHolds (NoLoop r) = (x : i.Value) → i.IsElement x → ¬ RoleLinks i r x x

  abbrev pub RowHolds : Row → Type 0
  RowHolds (role_in r s) = RoleIsWithin i r s
  RowHolds (concept_in b c) = IsWithin i b c
  RowHolds (never n) = NegativeHolds n

  one_row : (row : Row) → RowHolds row → All RowHolds (row ∷ [])
  one_row row h = All-cons RowHolds row [] h (All-nil RowHolds)

  two_rows : (one two : Row) → RowHolds one → RowHolds two → All RowHolds (one ∷ two ∷ [])
  two_rows one two h k = All-cons RowHolds one (two ∷ []) h (one_row two k)

  three_rows : (one two three : Row) → RowHolds one → RowHolds two → RowHolds three → All RowHolds (one ∷ two ∷ three ∷ [])
  three_rows one two three h k l = All-cons RowHolds one (two ∷ three ∷ []) h (two_rows two three k l)

  abbrev IsWithinPart : Basic → Part → Type 0
  IsWithinPart b p = (x : i.Value) → i.IsElement x → IsInBasic i b x → IsInPart i x p

  part_holds : (b : Basic) (p : Part) → PartHasNoAuxiliary p → IsWithinPart b p → All RowHolds (part_rows b p)
  part_holds b part.Thing named h = All-nil RowHolds
  part_holds b (part.Class c) named h = one_row (concept_in b (basic.Class c)) h
  part_holds b (part.Any r) named h = one_row (concept_in b (basic.SomeOf r)) h
  part_holds b (part.Fill r c) named h =
      let u = auxiliary_of r c in
      three_rows (concept_in b (basic.SomeOf u)) (role_in u r) (concept_in (basic.SomeOf (inverse_of u)) (basic.Class c))
      (λ x e k. let y = h x e k in (y.0, y.1, (auxiliary-links r c named x y.0).1 (y.2, y.3))) (λ x y e f k. ((auxiliary-links r c named x y).0 k).0)
      (λ y f k. ((auxiliary-links r c named k.0 y).0 k.2).1)
  part_holds b (part.Not d) named h = one_row (never (Basics b d)) h

  parts_hold : (b : Basic) (ps : List Part) → All PartHasNoAuxiliary ps → ((x : i.Value) → i.IsElement x → IsInBasic i b x → All (IsInPart i x) ps)
      → All RowHolds (flat_map (part_rows b) ps)
  parts_hold b ps named h =
      All-flat_map RowHolds (part_rows b) ps (λ k d within. part_holds b _ (named k d within) (λ x e is. h x e is k d within))

  -- the rows of an accepted axiom hold
  pub rows_hold : (a : Axiom) → HasNoAuxiliary a → Accepts i a → All RowHolds (axiom_rows a)
  rows_hold (SubClass b ps) named h = parts_hold b ps named.1 h
  rows_hold (EquivalentClasses bs) named h =
      All-map RowHolds (λ p. concept_in p.0 p.1) (ring bs)
      (All-weaker (λ p. Contains bs p.0 × Contains bs p.1) (λ p. IsWithin i p.0 p.1) (λ p c. h p.0 p.1 c.0 c.1) (ring bs) (Contains-ring bs))
  rows_hold (DisjointClasses bs) named h = All-map RowHolds (λ p. never (Basics p.0 p.1)) (pairs bs) (All-pairs (IsApart i) bs h)
  rows_hold (SubRole r s) named h = one_row (role_in r s) h
  rows_hold (EquivalentRoles rs) named h =
      All-map RowHolds (λ p. role_in p.0 p.1) (ring rs)
      (All-weaker (λ p. Contains rs p.0 × Contains rs p.1) (λ p. RoleIsWithin i p.0 p.1) (λ p c. h p.0 p.1 c.0 c.1) (ring rs) (Contains-ring rs))
  rows_hold (DisjointRoles rs) named h = All-map RowHolds (λ p. never (Roles p.0 p.1)) (pairs rs) (All-pairs (RoleIsApart i) rs h)
  rows_hold (InverseRoles r s) named h =
      two_rows (role_in r (inverse_of s)) (role_in (inverse_of s) r) (λ x y e f k. (inverse-links s x y).1 ((h x y e f).0 k))
      (λ x y e f k. (h x y e f).1 ((inverse-links s x y).0 k))
  rows_hold (Domain r ps) named h = parts_hold (basic.SomeOf r) ps named.1 (λ x e k. h x k.0 e k.1 k.2)
  rows_hold (Range r ps) named h =
      parts_hold (basic.SomeOf (inverse_of r)) ps named.1 (λ y e k. h k.0 y k.1 e ((inverse-links r y k.0).0 k.2))
  rows_hold (Symmetric r) named h = one_row (role_in r (inverse_of r)) (λ x y e f k. (inverse-links r x y).1 (h x y e f k))
  rows_hold (Asymmetric r) named h = one_row (never (Roles r (inverse_of r))) (λ x y e f k l. h x y e f k ((inverse-links r x y).0 l))
  rows_hold (Irreflexive r) named h = one_row (never (NoLoop r)) h
