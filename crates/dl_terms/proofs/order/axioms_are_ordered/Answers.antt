-- The derived comparison goes by kind, and at one kind by the operands' own comparisons, which are those of the definition.
use Rattle.std.proofs.Common.{◌≡◌, List, refl, ap, ap₂}
use Rattle.std.proofs.Math.Path.{fun_ext}
use Rattle.std.specs.Ordering.{ordering_then, nat_cmp}
use Rattle.std.specs.Cmp.Lexicographic.{slice_cmp}
use Rattle.dl_terms.specs.Order.{role_cmp, basic_cmp, part_cmp, axiom_cmp}
use Rattle.dl_terms.specs.contracts.role.RoleOrd.TheImpl as role_impl
use Rattle.dl_terms.specs.contracts.role.BasicOrd.TheImpl as basic_impl
use Rattle.dl_terms.specs.contracts.axiom.PartOrd.TheImpl as part_impl
use Rattle.dl_terms.specs.contracts.axiom.AxiomOrd.TheImpl as axiom_impl
use Rattle.dl_terms.specs.declared.role.Role.{Role}
use Rattle.dl_terms.specs.declared.role.Basic.{Basic}
use Rattle.dl_terms.specs.declared.role.Basic.TheVariants as basic
use Rattle.dl_terms.specs.declared.axiom.Part.{Part}
use Rattle.dl_terms.specs.declared.axiom.Part.TheVariants as part
use Rattle.dl_terms.specs.declared.axiom.Axiom.{Axiom}
use Rattle.dl_terms.specs.declared.axiom.Axiom.TheVariants.{SubClass, EquivalentClasses, DisjointClasses, SubRole, EquivalentRoles, DisjointRoles, InverseRoles, Domain, Range, Symmetric, Asymmetric, Irreflexive}
use Rattle.dl_terms.proofs.OrderLemmas.{axiom_cmp_total, axiom_cmp-equal}
use Rattle.dl_terms.proofs.DerivedLemmas.{roles}
use Rattle.dl_terms.proofs.order.axioms_are_ordered.Goals as goal

basics : (b c : Basic) → (basic_impl.cmp-value).it b c ≡ basic_cmp b c
basics (basic.SomeOf r) (basic.SomeOf s) = roles r s
basics (basic.Class c) (basic.Class d) = refl
basics b c = refl

parts : (p q : Part) → (part_impl.cmp-value).it p q ≡ part_cmp p q
parts part.Thing part.Thing = refl
parts (part.Class c) (part.Class d) = refl
parts (part.Any r) (part.Any s) = roles r s
parts (part.Fill r c) (part.Fill s d) = ap (λ o. ordering_then o (nat_cmp c d)) (roles r s)
parts (part.Not b) (part.Not c) = basics b c
parts p q = refl

role_lists : (rs ss : List Role) → slice_cmp (role_impl.cmp-value).it rs ss ≡ slice_cmp role_cmp rs ss
role_lists rs ss = ap (λ R. slice_cmp R rs ss) (fun_ext (λ r. fun_ext (λ s. roles r s)))

basic_lists : (bs cs : List Basic) → slice_cmp (basic_impl.cmp-value).it bs cs ≡ slice_cmp basic_cmp bs cs
basic_lists bs cs = ap (λ R. slice_cmp R bs cs) (fun_ext (λ b. fun_ext (λ c. basics b c)))

part_lists : (ps qs : List Part) → slice_cmp (part_impl.cmp-value).it ps qs ≡ slice_cmp part_cmp ps qs
part_lists ps qs = ap (λ R. slice_cmp R ps qs) (fun_ext (λ p. fun_ext (λ q. parts p q)))

derived : (a b : Axiom) → (axiom_impl.cmp-value).it a b ≡ axiom_cmp a b
derived (SubClass b ps) (SubClass c qs) = ap₂ ordering_then (basics b c) (part_lists ps qs)
derived (EquivalentClasses bs) (EquivalentClasses cs) = basic_lists bs cs
derived (DisjointClasses bs) (DisjointClasses cs) = basic_lists bs cs
derived (SubRole r s) (SubRole t u) = ap₂ ordering_then (roles r t) (roles s u)
derived (EquivalentRoles rs) (EquivalentRoles ss) = role_lists rs ss
derived (DisjointRoles rs) (DisjointRoles ss) = role_lists rs ss
derived (InverseRoles r s) (InverseRoles t u) = ap₂ ordering_then (roles r t) (roles s u)
derived (Domain r ps) (Domain s qs) = ap₂ ordering_then (roles r s) (part_lists ps qs)
derived (Range r ps) (Range s qs) = ap₂ ordering_then (roles r s) (part_lists ps qs)
derived (Symmetric r) (Symmetric s) = roles r s
derived (Asymmetric r) (Asymmetric s) = roles r s
derived (Irreflexive r) (Irreflexive s) = roles r s
derived a b = refl

pub returns-clause-derived : goal.returns-clause-derived
returns-clause-derived c = derived

pub returns-clause-total : goal.returns-clause-total
returns-clause-total c = axiom_cmp_total

pub returns-clause-equal : goal.returns-clause-equal
returns-clause-equal c = axiom_cmp-equal
