-- A signature that has the predicates of a term has its names.
use Rattle.std.proofs.Common.{ℕ, List, [], ◌∷◌, ◌++◌, flat_map, All, Contains}
use Rattle.std.proofs.lemmas.List.Elements.{All-nil, All-cons, All-head, All-tail}
use Rattle.dl_terms.specs.declared.role.Base.{Base}
use Rattle.dl_terms.specs.declared.role.Base.TheVariants.{Named, Auxiliary}
use Rattle.dl_terms.specs.declared.role.Role.{Role}
use Rattle.dl_terms.specs.declared.role.Basic.{Basic}
use Rattle.dl_terms.specs.declared.role.Basic.TheVariants as basic
use Rattle.dl_terms.specs.declared.axiom.Part.{Part}
use Rattle.dl_terms.specs.declared.axiom.Part.TheVariants as part
use Rattle.dl_terms.specs.declared.axiom.Axiom.{Axiom}
use Rattle.dl_terms.specs.declared.axiom.Axiom.TheVariants.{SubClass, EquivalentClasses, DisjointClasses, SubRole, EquivalentRoles, DisjointRoles, InverseRoles, Domain, Range, Symmetric, Asymmetric, Irreflexive}
use Rattle.dl_terms.specs.declared.axiom.Signature.{Signature}
use Rattle.dl_hier.specs.Rows.{IsNamedIn}
use Rattle.dl_epoch.specs.Known.{IsRoleIn, IsConceptIn, IsPartIn, IsAxiomIn}
use Rattle.dl_epoch.specs.Predicates.{basic_classes, part_classes, axiom_classes, base_properties, role_properties, basic_properties, part_properties, axiom_properties}

-- ---- lists

all_left : {X : Type 0} (P : X → Type 0) (xs ys : List X) → All P (xs ++ ys) → All P xs
all_left P [] ys h = All-nil P
all_left P (x ∷ xs) ys h = All-cons P x xs (All-head P x (xs ++ ys) h) (all_left P xs ys (All-tail P x (xs ++ ys) h))

all_right : {X : Type 0} (P : X → Type 0) (xs ys : List X) → All P (xs ++ ys) → All P ys
all_right P [] ys h = h
all_right P (x ∷ xs) ys h = all_right P xs ys (All-tail P x (xs ++ ys) h)

-- what holds of the items of two lists that each item gives holds of each item by them
pub two_give : {X Y Z : Type 0} (P : Y → Type 0) (R : Z → Type 0) (Q : X → Type 0) (f : X → List Y) (g : X → List Z)
    → ((x : X) → All P (f x) → All R (g x) → Q x) → (xs : List X) → All P (flat_map f xs) → All R (flat_map g xs) → All Q xs
two_give P R Q f g one [] h k = All-nil Q
two_give P R Q f g one (x ∷ xs) h k =
    All-cons Q x xs (one x (all_left P (f x) (flat_map f xs) h) (all_left R (g x) (flat_map g xs) k))
    (two_give P R Q f g one xs (all_right P (f x) (flat_map f xs) h) (all_right R (g x) (flat_map g xs) k))

-- ---- the names of axioms

module _ (s : Signature) where
  abbrev Classes : List ℕ → Type 0
  Classes = All (Contains s.classes)

  abbrev Properties : List ℕ → Type 0
  Properties = All (Contains s.roles)

  base_is_in : (b : Base) → Properties (base_properties b) → IsNamedIn s.roles b
  base_is_in (Named p) k = All-head (Contains s.roles) p [] k
  base_is_in (Auxiliary p i c) k = tt

  role_is_in : (r : Role) → Properties (role_properties r) → IsRoleIn s r
  role_is_in r k = base_is_in r.base k

  basic_is_in : (b : Basic) → Classes (basic_classes b) → Properties (basic_properties b) → IsConceptIn s b
  basic_is_in (basic.Class c) h k = All-head (Contains s.classes) c [] h
  basic_is_in (basic.SomeOf r) h k = role_is_in r k

  part_is_in : (p : Part) → Classes (part_classes p) → Properties (part_properties p) → IsPartIn s p
  part_is_in part.Thing h k = tt
  part_is_in (part.Class c) h k = All-head (Contains s.classes) c [] h
  part_is_in (part.Any r) h k = role_is_in r k
  part_is_in (part.Fill r c) h k = (role_is_in r k, All-head (Contains s.classes) c [] h)
  part_is_in (part.Not b) h k = basic_is_in b h k

  basics_are_in : (bs : List Basic) → Classes (flat_map basic_classes bs) → Properties (flat_map basic_properties bs) → All (IsConceptIn s) bs
  basics_are_in = two_give (Contains s.classes) (Contains s.roles) (IsConceptIn s) basic_classes basic_properties basic_is_in

  parts_are_in : (ps : List Part) → Classes (flat_map part_classes ps) → Properties (flat_map part_properties ps) → All (IsPartIn s) ps
  parts_are_in = two_give (Contains s.classes) (Contains s.roles) (IsPartIn s) part_classes part_properties part_is_in

  roles_are_in : (rs : List Role) → Properties (flat_map role_properties rs) → All (IsRoleIn s) rs
  roles_are_in rs k =
      two_give (Contains s.roles) (Contains s.roles) (IsRoleIn s) role_properties role_properties (λ r h also. role_is_in r h) rs k k

  two_roles : (r q : Role) → Properties (role_properties r ++ role_properties q) → IsRoleIn s r × IsRoleIn s q
  two_roles r q k = (
    role_is_in r (all_left (Contains s.roles) (role_properties r) (role_properties q) k),
    role_is_in q (all_right (Contains s.roles) (role_properties r) (role_properties q) k),
  )

  role_and_parts : (r : Role) (ps : List Part) → Classes (flat_map part_classes ps)
      → Properties (role_properties r ++ flat_map part_properties ps) → IsRoleIn s r × All (IsPartIn s) ps
  role_and_parts r ps h k = (
    role_is_in r (all_left (Contains s.roles) (role_properties r) (flat_map part_properties ps) k),
    parts_are_in ps h (all_right (Contains s.roles) (role_properties r) (flat_map part_properties ps) k),
  )

  pub axiom_is_in : (a : Axiom) → Classes (axiom_classes a) → Properties (axiom_properties a) → IsAxiomIn s a
  axiom_is_in (SubClass b ps) h k = (
    basic_is_in b (all_left (Contains s.classes) (basic_classes b) (flat_map part_classes ps) h)
        (all_left (Contains s.roles) (basic_properties b) (flat_map part_properties ps) k),
    parts_are_in ps (all_right (Contains s.classes) (basic_classes b) (flat_map part_classes ps) h)
        (all_right (Contains s.roles) (basic_properties b) (flat_map part_properties ps) k),
  )
  axiom_is_in (EquivalentClasses bs) h k = basics_are_in bs h k
  axiom_is_in (DisjointClasses bs) h k = basics_are_in bs h k
  axiom_is_in (SubRole r q) h k = two_roles r q k
  axiom_is_in (EquivalentRoles rs) h k = roles_are_in rs k
  axiom_is_in (DisjointRoles rs) h k = roles_are_in rs k
  axiom_is_in (InverseRoles r q) h k = two_roles r q k
  axiom_is_in (Domain r ps) h k = role_and_parts r ps h k
  axiom_is_in (Range r ps) h k = role_and_parts r ps h k
  axiom_is_in (Symmetric r) h k = role_is_in r k
  axiom_is_in (Asymmetric r) h k = role_is_in r k
  axiom_is_in (Irreflexive r) h k = role_is_in r k
