-- The names of the rows of the normal form are in a signature that has those of the axioms.
use Rattle.std.proofs.Common.{◌≡◌, ℕ, List, [], ◌∷◌, ◌++◌, map, zip, flat_map, filter_map, refl, sym, subst}
use Rattle.std.specs.List.{All}
use Rattle.std.proofs.lemmas.List.Elements.{All-nil, All-cons, All-head, All-tail, All-append, All-push, All-map}
use Rattle.dl_terms.specs.Roles.{inverse_of, auxiliary_base, auxiliary_of}
use Rattle.dl_terms.specs.NormalForm.{Row, role_in, concept_in, never, ring, pairs, part_rows, axiom_rows, rows_of, as_role_in, as_concept_in}
use Rattle.dl_terms.specs.declared.role.Base.{Base}
use Rattle.dl_terms.specs.declared.role.Base.TheVariants.{Named, Auxiliary}
use Rattle.dl_terms.specs.declared.role.Role.{Role}
use Rattle.dl_terms.specs.declared.role.Basic.{Basic}
use Rattle.dl_terms.specs.declared.role.Basic.TheVariants as basic
use Rattle.dl_terms.specs.declared.role.Negative.TheVariants.{Basics, Roles, NoLoop}
use Rattle.dl_terms.specs.declared.role.Normal.{Normal}
use Rattle.dl_terms.specs.declared.axiom.Part.{Part}
use Rattle.dl_terms.specs.declared.axiom.Part.TheVariants as part
use Rattle.dl_terms.specs.declared.axiom.Axiom.{Axiom}
use Rattle.dl_terms.specs.declared.axiom.Axiom.TheVariants.{SubClass, EquivalentClasses, DisjointClasses, SubRole, EquivalentRoles, DisjointRoles, InverseRoles, Domain, Range, Symmetric, Asymmetric, Irreflexive}
use Rattle.dl_terms.specs.declared.axiom.Signature.{Signature}
use Rattle.dl_normal.specs.Indexed.{IsNormalForm}
use Rattle.dl_hier.specs.Rows.{IsNamedIn, IsBasicIn, HasNames}
use Rattle.dl_epoch.specs.Known.{IsRoleIn, IsConceptIn, IsPartIn, IsAxiomIn}

-- ---- lists of pairs

pub All-flat_map : {A B : Type 0} (P : B → Type 0) (Q : A → Type 0) (f : A → List B) → ((x : A) → Q x → All P (f x)) → (xs : List A) → All Q xs
    → All P (flat_map f xs)
All-flat_map P Q f each [] all = All-nil P
All-flat_map P Q f each (x ∷ xs) all =
    All-append P (f x) (flat_map f xs) (each x (All-head Q x xs all)) (All-flat_map P Q f each xs (All-tail Q x xs all))

abbrev Both : {A : Type 0} → (A → Type 0) → A × A → Type 0
Both Q p = Q p.0 × Q p.1

All-zip : {A : Type 0} (Q : A → Type 0) (xs ys : List A) → All Q xs → All Q ys → All (Both Q) (zip xs ys)
All-zip Q [] ys all also = All-nil (Both Q)
All-zip Q (x ∷ xs) [] all also = All-nil (Both Q)
All-zip Q (x ∷ xs) (y ∷ ys) all also =
    All-cons (Both Q) (x, y) (zip xs ys) (All-head Q x xs all, All-head Q y ys also) (All-zip Q xs ys (All-tail Q x xs all) (All-tail Q y ys also))

All-ring : {A : Type 0} (Q : A → Type 0) (xs : List A) → All Q xs → All (Both Q) (ring xs)
All-ring Q [] all = All-nil (Both Q)
All-ring Q (x ∷ xs) all = All-zip Q (x ∷ xs) (xs ++ x ∷ []) all (All-push Q xs x (All-tail Q x xs all) (All-head Q x xs all))

-- ---- rows

module _ (s : Signature) where
  -- the names of inclusions are in the signature; negatives don't matter
  abbrev IsRowIn : Row → Type 0
  IsRowIn (role_in r q) = IsRoleIn s r × IsRoleIn s q
  IsRowIn (concept_in b c) = IsConceptIn s b × IsConceptIn s c
  IsRowIn (never n) = Unit {0}

  one : (row : Row) → IsRowIn row → All IsRowIn (row ∷ [])
  one row h = All-cons IsRowIn row [] h (All-nil IsRowIn)

  -- an auxiliary role needs no name
  auxiliary_in : (b : Base) (r : Role) (c : ℕ) → r.base ≡ b → IsNamedIn s.roles (auxiliary_base b r.inverse c)
  auxiliary_in (Named p) r c e = tt
  auxiliary_in (Auxiliary p i d) r c e = tt

  part_in : (b : Basic) → IsConceptIn s b → (p : Part) → IsPartIn s p → All IsRowIn (part_rows b p)
  part_in b h part.Thing k = All-nil IsRowIn
  part_in b h (part.Class c) k = one (concept_in b (basic.Class c)) (h, k)
  part_in b h (part.Any r) k = one (concept_in b (basic.SomeOf r)) (h, k)
  part_in b h (part.Fill r c) k =
      let f = auxiliary_in r.base r c refl in
      All-cons IsRowIn (concept_in b (basic.SomeOf (auxiliary_of r c)))
      (role_in (auxiliary_of r c) r ∷ concept_in (basic.SomeOf (inverse_of (auxiliary_of r c))) (basic.Class c) ∷ []) (h, f)
      (All-cons IsRowIn (role_in (auxiliary_of r c) r) (concept_in (basic.SomeOf (inverse_of (auxiliary_of r c))) (basic.Class c) ∷ []) (f, k.0)
      (one (concept_in (basic.SomeOf (inverse_of (auxiliary_of r c))) (basic.Class c)) (f, k.1)))
  part_in b h (part.Not d) k = one (never (Basics b d)) tt

  parts_in : (b : Basic) → IsConceptIn s b → (ps : List Part) → All (IsPartIn s) ps → All IsRowIn (flat_map (part_rows b) ps)
  parts_in b h = All-flat_map IsRowIn (IsPartIn s) (part_rows b) (part_in b h)

  nevers : {A : Type 0} (row : A → Row) → ((p : A) → IsRowIn (row p)) → (ps : List A) → All IsRowIn (map row ps)
  nevers row each [] = All-nil IsRowIn
  nevers row each (p ∷ ps) = All-cons IsRowIn (row p) (map row ps) (each p) (nevers row each ps)

  axiom_in : (a : Axiom) → IsAxiomIn s a → All IsRowIn (axiom_rows a)
  axiom_in (SubClass b ps) h = parts_in b h.0 ps h.1
  axiom_in (EquivalentClasses bs) h = All-map IsRowIn (λ p. concept_in p.0 p.1) (ring bs) (All-ring (IsConceptIn s) bs h)
  axiom_in (DisjointClasses bs) h = nevers (λ p. never (Basics p.0 p.1)) (λ p. tt) (pairs bs)
  axiom_in (SubRole r q) h = one (role_in r q) h
  axiom_in (EquivalentRoles rs) h = All-map IsRowIn (λ p. role_in p.0 p.1) (ring rs) (All-ring (IsRoleIn s) rs h)
  axiom_in (DisjointRoles rs) h = nevers (λ p. never (Roles p.0 p.1)) (λ p. tt) (pairs rs)
  axiom_in (InverseRoles r q) h =
      All-cons IsRowIn (role_in r (inverse_of q)) (role_in (inverse_of q) r ∷ []) h (one (role_in (inverse_of q) r) (h.1, h.0))
  axiom_in (Domain r ps) h = parts_in (basic.SomeOf r) h.0 ps h.1
  axiom_in (Range r ps) h = parts_in (basic.SomeOf (inverse_of r)) h.0 ps h.1
  axiom_in (Symmetric r) h = one (role_in r (inverse_of r)) (h, h)
  axiom_in (Asymmetric r) h = one (never (Roles r (inverse_of r))) tt
  axiom_in (Irreflexive r) h = one (never (NoLoop r)) tt

  roles_in : (rows : List Row) → All IsRowIn rows
      → All (λ p. IsNamedIn s.roles p.0.base × IsNamedIn s.roles p.1.base) (filter_map as_role_in rows)
  roles_in [] all = All-nil (λ p. IsNamedIn s.roles p.0.base × IsNamedIn s.roles p.1.base)
  roles_in (role_in r q ∷ rows) all =
      All-cons (λ p. IsNamedIn s.roles p.0.base × IsNamedIn s.roles p.1.base) (r, q) (filter_map as_role_in rows)
      (All-head IsRowIn (role_in r q) rows all) (roles_in rows (All-tail IsRowIn (role_in r q) rows all))
  roles_in (concept_in b c ∷ rows) all = roles_in rows (All-tail IsRowIn (concept_in b c) rows all)
  roles_in (never n ∷ rows) all = roles_in rows (All-tail IsRowIn (never n) rows all)

  concepts_in : (rows : List Row) → All IsRowIn rows
      → All (λ p. IsBasicIn s.classes s.roles p.0 × IsBasicIn s.classes s.roles p.1) (filter_map as_concept_in rows)
  concepts_in [] all = All-nil (λ p. IsBasicIn s.classes s.roles p.0 × IsBasicIn s.classes s.roles p.1)
  concepts_in (role_in r q ∷ rows) all = concepts_in rows (All-tail IsRowIn (role_in r q) rows all)
  concepts_in (concept_in b c ∷ rows) all =
      All-cons (λ p. IsBasicIn s.classes s.roles p.0 × IsBasicIn s.classes s.roles p.1) (b, c) (filter_map as_concept_in rows)
      (All-head IsRowIn (concept_in b c) rows all) (concepts_in rows (All-tail IsRowIn (concept_in b c) rows all))
  concepts_in (never n ∷ rows) all = concepts_in rows (All-tail IsRowIn (never n) rows all)

  pub has_names : (axioms : List Axiom) (normal : Normal) → All (IsAxiomIn s) axioms → IsNormalForm axioms normal → HasNames s normal
  has_names axioms normal all is =
      let rows = All-flat_map IsRowIn (IsAxiomIn s) axiom_rows axiom_in axioms all in record {
        roles = subst (All (λ p. IsNamedIn s.roles p.0.base × IsNamedIn s.roles p.1.base)) (sym is.roles) (roles_in (rows_of axioms) rows);
        concepts = subst (All (λ p. IsBasicIn s.classes s.roles p.0 × IsBasicIn s.classes s.roles p.1)) (sym is.concepts) (concepts_in (rows_of axioms) rows);
      }
