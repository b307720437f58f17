-- The order of axioms: by kind, as the kinds are listed, and then operand by operand from left to right; and that of
-- facts. It is this project's own. Numbers compare as names do by their bytes, since a number is a rank.
use Rattle.std.specs.Prelude.{ℕ, Bool, true, false}
use Rattle.std.specs.declared.cmp.Ordering.{Ordering}
use Rattle.std.specs.Ordering.{nat_cmp, ordering_then}
use Rattle.std.specs.Cmp.Lexicographic.{slice_cmp}
use Rattle.dl_terms.specs.declared.role.Base.{Base}
use Rattle.dl_terms.specs.declared.role.Base.TheVariants.{Named, Auxiliary}
use Rattle.dl_terms.specs.declared.role.Role.{Role}
use Rattle.dl_terms.specs.declared.role.Basic.{Basic}
use Rattle.dl_terms.specs.declared.role.Basic.TheVariants as basic
use Rattle.dl_terms.specs.declared.axiom.Part.{Part}
use Rattle.dl_terms.specs.declared.axiom.Part.TheVariants as part
use Rattle.dl_terms.specs.declared.axiom.Axiom.{Axiom}
use Rattle.dl_terms.specs.declared.axiom.Axiom.TheVariants.{SubClass, EquivalentClasses, DisjointClasses, SubRole, EquivalentRoles, DisjointRoles, InverseRoles, Domain, Range, Symmetric, Asymmetric, Irreflexive}
use Rattle.dl_terms.specs.declared.axiom.Fact.{Fact}
use Rattle.dl_terms.specs.declared.axiom.Fact.TheVariants as fact

-- false is before true: a plain role before the inverse
abbrev pub flag : Bool → ℕ
flag false = 0
flag true = 1

abbrev pub base_cmp : Base → Base → Ordering
base_cmp (Named p) (Named q) = nat_cmp p q
base_cmp (Named p) (Auxiliary q j d) = nat_cmp 0 1
base_cmp (Auxiliary p i c) (Named q) = nat_cmp 1 0
base_cmp (Auxiliary p i c) (Auxiliary q j d) =
    ordering_then (nat_cmp p q) (ordering_then (nat_cmp (flag i) (flag j)) (nat_cmp c d))

abbrev pub role_cmp : Role → Role → Ordering
role_cmp r s = ordering_then (base_cmp r.base s.base) (nat_cmp (flag r.inverse) (flag s.inverse))

abbrev pub basic_cmp : Basic → Basic → Ordering
basic_cmp (basic.Class c) (basic.Class d) = nat_cmp c d
basic_cmp (basic.Class c) (basic.SomeOf s) = nat_cmp 0 1
basic_cmp (basic.SomeOf r) (basic.Class d) = nat_cmp 1 0
basic_cmp (basic.SomeOf r) (basic.SomeOf s) = role_cmp r s

abbrev pub part_kind : Part → ℕ
part_kind part.Thing = 0
part_kind (part.Class c) = 1
part_kind (part.Any r) = 2
part_kind (part.Fill r c) = 3
part_kind (part.Not b) = 4

abbrev pub part_cmp : Part → Part → Ordering
part_cmp (part.Class c) (part.Class d) = nat_cmp c d
part_cmp (part.Any r) (part.Any s) = role_cmp r s
part_cmp (part.Fill r c) (part.Fill s d) = ordering_then (role_cmp r s) (nat_cmp c d)
part_cmp (part.Not b) (part.Not c) = basic_cmp b c
part_cmp p q = nat_cmp (part_kind p) (part_kind q)

abbrev pub axiom_kind : Axiom → ℕ
axiom_kind (SubClass b ps) = 0
axiom_kind (EquivalentClasses bs) = 1
axiom_kind (DisjointClasses bs) = 2
axiom_kind (SubRole r s) = 3
axiom_kind (EquivalentRoles rs) = 4
axiom_kind (DisjointRoles rs) = 5
axiom_kind (InverseRoles r s) = 6
axiom_kind (Domain r ps) = 7
axiom_kind (Range r ps) = 8
axiom_kind (Symmetric r) = 9
axiom_kind (Asymmetric r) = 10
axiom_kind (Irreflexive r) = 11

abbrev pub axiom_cmp : Axiom → Axiom → Ordering
axiom_cmp (SubClass b ps) (SubClass c qs) = ordering_then (basic_cmp b c) (slice_cmp part_cmp ps qs)
axiom_cmp (EquivalentClasses bs) (EquivalentClasses cs) = slice_cmp basic_cmp bs cs
axiom_cmp (DisjointClasses bs) (DisjointClasses cs) = slice_cmp basic_cmp bs cs
axiom_cmp (SubRole r s) (SubRole t u) = ordering_then (role_cmp r t) (role_cmp s u)
axiom_cmp (EquivalentRoles rs) (EquivalentRoles ss) = slice_cmp role_cmp rs ss
axiom_cmp (DisjointRoles rs) (DisjointRoles ss) = slice_cmp role_cmp rs ss
axiom_cmp (InverseRoles r s) (InverseRoles t u) = ordering_then (role_cmp r t) (role_cmp s u)
axiom_cmp (Domain r ps) (Domain s qs) = ordering_then (role_cmp r s) (slice_cmp part_cmp ps qs)
axiom_cmp (Range r ps) (Range s qs) = ordering_then (role_cmp r s) (slice_cmp part_cmp ps qs)
axiom_cmp (Symmetric r) (Symmetric s) = role_cmp r s
axiom_cmp (Asymmetric r) (Asymmetric s) = role_cmp r s
axiom_cmp (Irreflexive r) (Irreflexive s) = role_cmp r s
axiom_cmp a b = nat_cmp (axiom_kind a) (axiom_kind b)

-- class facts before role facts, and then by predicate and names
abbrev pub fact_cmp : Fact → Fact → Ordering
fact_cmp (fact.Is c a) (fact.Is d b) = ordering_then (nat_cmp c d) (nat_cmp a b)
fact_cmp (fact.Is c a) (fact.Link q x y) = nat_cmp 0 1
fact_cmp (fact.Link p a b) (fact.Is d x) = nat_cmp 1 0
fact_cmp (fact.Link p a b) (fact.Link q x y) = ordering_then (nat_cmp p q) (ordering_then (nat_cmp a x) (nat_cmp b y))

-- pairs of names: by the first, and then by the second
abbrev pub pair_cmp : ℕ × ℕ → ℕ × ℕ → Ordering
pair_cmp p q = ordering_then (nat_cmp p.0 q.0) (nat_cmp p.1 q.1)
