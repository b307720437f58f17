-- The orders of axioms and facts are total, and what compares equal is the same: each is the order of tuples of parts,
-- of which a tuple tells the term that it is from.
use Rattle.std.proofs.Common.{◌≡◌, ℕ, Bool, true, false, cond, ◌==◌, List, [], ◌∷◌, refl, sym, ap, ap₂, ◌∙◌, subst, true≢false}
use Rattle.std.proofs.Math.Path.{fun_ext}
use Rattle.std.specs.declared.cmp.Ordering.{Ordering}
use Rattle.std.specs.declared.cmp.Ordering.TheVariants.{Less, Equal, Greater}
use Rattle.std.specs.Ordering.{nat_cmp, ordering_then, then_cmp, on, is_lt, is_gt}
use Rattle.std.specs.Cmp.{IsTotalOrder, nat_cmp_total, then_total, on_total, ranked}
use Rattle.std.specs.Cmp.Lexicographic.{slice_cmp, lists_total}
use Rattle.dl_terms.specs.Roles.{named}
use Rattle.dl_terms.specs.Order.{flag, base_cmp, role_cmp, basic_cmp, part_cmp, axiom_kind, axiom_cmp, fact_cmp}
use Rattle.dl_terms.specs.declared.role.Base.{Base}
use Rattle.dl_terms.specs.declared.role.Base.TheVariants.{Named, Auxiliary}
use Rattle.dl_terms.specs.declared.role.Role.{Role}
use Rattle.dl_terms.specs.declared.role.Basic.{Basic}
use Rattle.dl_terms.specs.declared.role.Basic.TheVariants as basic
use Rattle.dl_terms.specs.declared.axiom.Part.{Part}
use Rattle.dl_terms.specs.declared.axiom.Part.TheVariants as part
use Rattle.dl_terms.specs.declared.axiom.Axiom.{Axiom}
use Rattle.dl_terms.specs.declared.axiom.Axiom.TheVariants.{SubClass, EquivalentClasses, DisjointClasses, SubRole, EquivalentRoles, DisjointRoles, InverseRoles, Domain, Range, Symmetric, Asymmetric, Irreflexive}
use Rattle.dl_terms.specs.declared.axiom.Fact.{Fact}
use Rattle.dl_terms.specs.declared.axiom.Fact.TheVariants as fact

-- a total order in which what compares equal is the same
pub record IsLinear {A : Type 0} (cmp : A → A → Ordering) : Type 0 where
  pub total : IsTotalOrder cmp
  pub equal : (a b : A) → cmp a b ≡ Equal → a ≡ b

-- two orders, one after the other
abbrev pub pair_cmp : {A B : Type 0} → (A → A → Ordering) → (B → B → Ordering) → A × B → A × B → Ordering
pair_cmp R S = then_cmp (on (λ p. p.0) R) (on (λ p. p.1) S)

then_equal : (p : Ordering) → ordering_then p Equal ≡ p
then_equal Less = refl
then_equal Equal = refl
then_equal Greater = refl

first_equal : (p q : Ordering) → ordering_then p q ≡ Equal → p ≡ Equal
first_equal Less q e = e
first_equal Equal q e = refl
first_equal Greater q e = e

second_equal : (p q : Ordering) → ordering_then p q ≡ Equal → q ≡ Equal
second_equal Less q e = absurd (true≢false (ap is_lt e))
second_equal Equal q e = e
second_equal Greater q e = absurd (true≢false (ap is_gt e))

pub numbers_linear : IsLinear nat_cmp
numbers_linear = record { total = nat_cmp_total; equal = λ a b e. ranked a b Equal (sym e) }

pub pairs_linear : {A B : Type 0} {R : A → A → Ordering} {S : B → B → Ordering} → IsLinear R → IsLinear S → IsLinear (pair_cmp R S)
pairs_linear {A} {B} {R} {S} l m = record {
  total = then_total (on_total (λ p. p.0) l.total) (on_total (λ p. p.1) m.total);
  equal = λ a b e. ap₂ (λ x y. (x, y)) (l.equal a.0 b.0 (first_equal (R a.0 b.0) (S a.1 b.1) e))
      (m.equal a.1 b.1 (second_equal (R a.0 b.0) (S a.1 b.1) e));
}

lists_equal : {A : Type 0} (R : A → A → Ordering) → ((a b : A) → R a b ≡ Equal → a ≡ b) → (xs ys : List A)
    → slice_cmp R xs ys ≡ Equal → xs ≡ ys
lists_equal R same [] [] e = refl
lists_equal R same [] (y ∷ ys) e = absurd (true≢false (ap is_lt e))
lists_equal R same (x ∷ xs) [] e = absurd (true≢false (ap is_gt e))
lists_equal R same (x ∷ xs) (y ∷ ys) e =
    ap₂ (λ z zs. z ∷ zs) (same x y (first_equal (R x y) (slice_cmp R xs ys) e))
    (lists_equal R same xs ys (second_equal (R x y) (slice_cmp R xs ys) e))

pub lists_linear : {A : Type 0} {R : A → A → Ordering} → IsLinear R → IsLinear (slice_cmp R)
lists_linear {A} {R} l = record { total = lists_total l.total; equal = lists_equal R l.equal }

-- an order is linear where a linear one orders codes of its terms, of which a code tells its term
pub coded_linear : {A B : Type 0} {R : A → A → Ordering} {S : B → B → Ordering} (code : A → B) (term : B → A) → IsLinear S
    → ((a : A) → term (code a) ≡ a) → ((a b : A) → R a b ≡ S (code a) (code b)) → IsLinear R
coded_linear {A} {B} {R} {S} code term l back agrees = record {
  total = subst IsTotalOrder (fun_ext (λ a. fun_ext (λ b. sym (agrees a b)))) (on_total code l.total);
  equal = λ a b e. sym (back a) ∙ ap term (l.equal (code a) (code b) (sym (agrees a b) ∙ e)) ∙ back b;
}

-- ---- roles

abbrev base_code : Base → ℕ × (ℕ × (ℕ × ℕ))
base_code (Named p) = (0, (p, (0, 0)))
base_code (Auxiliary p i c) = (1, (p, (flag i, c)))

abbrev base_of : ℕ × (ℕ × (ℕ × ℕ)) → Base
base_of t = cond (t.0 == 0) (Named t.1.0) (Auxiliary t.1.0 (t.1.1.0 == 1) t.1.1.1)

base_back : (b : Base) → base_of (base_code b) ≡ b
base_back (Named p) = refl
base_back (Auxiliary p true c) = refl
base_back (Auxiliary p false c) = refl

base_agrees : (a b : Base) → base_cmp a b ≡ pair_cmp nat_cmp (pair_cmp nat_cmp (pair_cmp nat_cmp nat_cmp)) (base_code a) (base_code b)
base_agrees (Named p) (Named q) = sym (then_equal (nat_cmp p q))
base_agrees (Named p) (Auxiliary q j d) = refl
base_agrees (Auxiliary p i c) (Named q) = refl
base_agrees (Auxiliary p i c) (Auxiliary q j d) = refl

pub bases_linear : IsLinear base_cmp
bases_linear =
    coded_linear base_code base_of (pairs_linear numbers_linear (pairs_linear numbers_linear (pairs_linear numbers_linear numbers_linear)))
    base_back base_agrees

flag_back : (i : Bool) → (flag i == 1) ≡ i
flag_back true = refl
flag_back false = refl

pub roles_linear : IsLinear role_cmp
roles_linear =
    coded_linear (λ r. (r.base, flag r.inverse)) (λ t. record { base = t.0; inverse = t.1 == 1 })
    (pairs_linear bases_linear numbers_linear) (λ r. ap (λ i. record { base = r.base; inverse = i }) (flag_back r.inverse)) (λ r s. refl)

-- ---- basic concepts

abbrev basic_code : Basic → ℕ × (ℕ × Role)
basic_code (basic.Class c) = (0, (c, named 0))
basic_code (basic.SomeOf r) = (1, (0, r))

abbrev basic_of : ℕ × (ℕ × Role) → Basic
basic_of t = cond (t.0 == 0) (basic.Class t.1.0) (basic.SomeOf t.1.1)

basic_back : (b : Basic) → basic_of (basic_code b) ≡ b
basic_back (basic.Class c) = refl
basic_back (basic.SomeOf r) = refl

basic_agrees : (a b : Basic) → basic_cmp a b ≡ pair_cmp nat_cmp (pair_cmp nat_cmp role_cmp) (basic_code a) (basic_code b)
basic_agrees (basic.Class c) (basic.Class d) = sym (then_equal (nat_cmp c d))
basic_agrees (basic.Class c) (basic.SomeOf s) = refl
basic_agrees (basic.SomeOf r) (basic.Class d) = refl
basic_agrees (basic.SomeOf r) (basic.SomeOf s) = refl

pub basics_linear : IsLinear basic_cmp
basics_linear = coded_linear basic_code basic_of (pairs_linear numbers_linear (pairs_linear numbers_linear roles_linear)) basic_back basic_agrees

-- ---- parts

abbrev part_code : Part → ℕ × (Role × (ℕ × Basic))
part_code part.Thing = (0, (named 0, (0, basic.Class 0)))
part_code (part.Class c) = (1, (named 0, (c, basic.Class 0)))
part_code (part.Any r) = (2, (r, (0, basic.Class 0)))
part_code (part.Fill r c) = (3, (r, (c, basic.Class 0)))
part_code (part.Not b) = (4, (named 0, (0, b)))

abbrev part_of : ℕ × (Role × (ℕ × Basic)) → Part
part_of t =
    cond (t.0 == 0) part.Thing
    (cond (t.0 == 1) (part.Class t.1.1.0) (cond (t.0 == 2) (part.Any t.1.0) (cond (t.0 == 3) (part.Fill t.1.0 t.1.1.0) (part.Not t.1.1.1))))

part_back : (p : Part) → part_of (part_code p) ≡ p
part_back part.Thing = refl
part_back (part.Class c) = refl
part_back (part.Any r) = refl
part_back (part.Fill r c) = refl
part_back (part.Not b) = refl

part_agrees : (a b : Part) → part_cmp a b ≡ pair_cmp nat_cmp (pair_cmp role_cmp (pair_cmp nat_cmp basic_cmp)) (part_code a) (part_code b)
part_agrees part.Thing part.Thing = refl
part_agrees (part.Class c) (part.Class d) = sym (then_equal (nat_cmp c d))
part_agrees (part.Any r) (part.Any s) = sym (then_equal (role_cmp r s))
part_agrees (part.Fill r c) (part.Fill s d) = ap (ordering_then (role_cmp r s)) (sym (then_equal (nat_cmp c d)))
part_agrees (part.Not b) (part.Not c) = refl
part_agrees a b = refl

pub parts_linear : IsLinear part_cmp
parts_linear =
    coded_linear part_code part_of (pairs_linear numbers_linear (pairs_linear roles_linear (pairs_linear numbers_linear basics_linear)))
    part_back part_agrees

-- ---- axioms: a kind, roles, basic concepts and parts

abbrev axiom_roles : Axiom → List Role
axiom_roles (SubClass b ps) = []
axiom_roles (EquivalentClasses bs) = []
axiom_roles (DisjointClasses bs) = []
axiom_roles (SubRole r s) = r ∷ s ∷ []
axiom_roles (EquivalentRoles rs) = rs
axiom_roles (DisjointRoles rs) = rs
axiom_roles (InverseRoles r s) = r ∷ s ∷ []
axiom_roles (Domain r ps) = r ∷ []
axiom_roles (Range r ps) = r ∷ []
axiom_roles (Symmetric r) = r ∷ []
axiom_roles (Asymmetric r) = r ∷ []
axiom_roles (Irreflexive r) = r ∷ []

abbrev axiom_basics : Axiom → List Basic
axiom_basics (SubClass b ps) = b ∷ []
axiom_basics (EquivalentClasses bs) = bs
axiom_basics (DisjointClasses bs) = bs
axiom_basics a = []

abbrev axiom_parts : Axiom → List Part
axiom_parts (SubClass b ps) = ps
axiom_parts (Domain r ps) = ps
axiom_parts (Range r ps) = ps
axiom_parts a = []

abbrev Code : Type 0
Code = ℕ × (List Role × (List Basic × List Part))

abbrev axiom_code : Axiom → Code
axiom_code a = (axiom_kind a, (axiom_roles a, (axiom_basics a, axiom_parts a)))

abbrev first_role : List Role → Role
first_role [] = named 0
first_role (r ∷ rs) = r

abbrev second_role : List Role → Role
second_role [] = named 0
second_role (r ∷ rs) = first_role rs

abbrev first_basic : List Basic → Basic
first_basic [] = basic.Class 0
first_basic (b ∷ bs) = b

abbrev axiom_of : Code → Axiom
axiom_of t =
    let rs = t.1.0 in
    let bs = t.1.1.0 in
    let ps = t.1.1.1 in
    let r = first_role rs in
    let s = second_role rs in
    cond (t.0 == 0) (SubClass (first_basic bs) ps)
    (cond (t.0 == 1) (EquivalentClasses bs)
    (cond (t.0 == 2) (DisjointClasses bs)
    (cond (t.0 == 3) (SubRole r s)
    (cond (t.0 == 4) (EquivalentRoles rs)
    (cond (t.0 == 5) (DisjointRoles rs)
    (cond (t.0 == 6) (InverseRoles r s)
    (cond (t.0 == 7) (Domain r ps)
    (cond (t.0 == 8) (Range r ps) (cond (t.0 == 9) (Symmetric r) (cond (t.0 == 10) (Asymmetric r) (Irreflexive r)))))))))))

axiom_back : (a : Axiom) → axiom_of (axiom_code a) ≡ a
axiom_back (SubClass b ps) = refl
axiom_back (EquivalentClasses bs) = refl
axiom_back (DisjointClasses bs) = refl
axiom_back (SubRole r s) = refl
axiom_back (EquivalentRoles rs) = refl
axiom_back (DisjointRoles rs) = refl
axiom_back (InverseRoles r s) = refl
axiom_back (Domain r ps) = refl
axiom_back (Range r ps) = refl
axiom_back (Symmetric r) = refl
axiom_back (Asymmetric r) = refl
axiom_back (Irreflexive r) = refl

abbrev code_cmp : Code → Code → Ordering
code_cmp = pair_cmp nat_cmp (pair_cmp (slice_cmp role_cmp) (pair_cmp (slice_cmp basic_cmp) (slice_cmp part_cmp)))

axiom_agrees : (a b : Axiom) → axiom_cmp a b ≡ code_cmp (axiom_code a) (axiom_code b)
axiom_agrees (SubClass b ps) (SubClass c qs) = ap (λ o. ordering_then o (slice_cmp part_cmp ps qs)) (sym (then_equal (basic_cmp b c)))
axiom_agrees (EquivalentClasses bs) (EquivalentClasses cs) = sym (then_equal (slice_cmp basic_cmp bs cs))
axiom_agrees (DisjointClasses bs) (DisjointClasses cs) = sym (then_equal (slice_cmp basic_cmp bs cs))
axiom_agrees (SubRole r s) (SubRole t u) =
    ap (ordering_then (role_cmp r t)) (sym (then_equal (role_cmp s u)))
    ∙ sym (then_equal (ordering_then (role_cmp r t) (ordering_then (role_cmp s u) Equal)))
axiom_agrees (EquivalentRoles rs) (EquivalentRoles ss) = sym (then_equal (slice_cmp role_cmp rs ss))
axiom_agrees (DisjointRoles rs) (DisjointRoles ss) = sym (then_equal (slice_cmp role_cmp rs ss))
axiom_agrees (InverseRoles r s) (InverseRoles t u) =
    ap (ordering_then (role_cmp r t)) (sym (then_equal (role_cmp s u)))
    ∙ sym (then_equal (ordering_then (role_cmp r t) (ordering_then (role_cmp s u) Equal)))
axiom_agrees (Domain r ps) (Domain s qs) = ap (λ o. ordering_then o (slice_cmp part_cmp ps qs)) (sym (then_equal (role_cmp r s)))
axiom_agrees (Range r ps) (Range s qs) = ap (λ o. ordering_then o (slice_cmp part_cmp ps qs)) (sym (then_equal (role_cmp r s)))
axiom_agrees (Symmetric r) (Symmetric s) = sym (then_equal (role_cmp r s)) ∙ sym (then_equal (ordering_then (role_cmp r s) Equal))
axiom_agrees (Asymmetric r) (Asymmetric s) = sym (then_equal (role_cmp r s)) ∙ sym (then_equal (ordering_then (role_cmp r s) Equal))
axiom_agrees (Irreflexive r) (Irreflexive s) = sym (then_equal (role_cmp r s)) ∙ sym (then_equal (ordering_then (role_cmp r s) Equal))
axiom_agrees a b = refl

pub axioms_linear : IsLinear axiom_cmp
axioms_linear =
    coded_linear axiom_code axiom_of
    (pairs_linear numbers_linear (pairs_linear (lists_linear roles_linear) (pairs_linear (lists_linear basics_linear) (lists_linear parts_linear))))
    axiom_back axiom_agrees

pub axiom_cmp_total : IsTotalOrder axiom_cmp
axiom_cmp_total = axioms_linear.total

pub axiom_cmp-equal : (a b : Axiom) → axiom_cmp a b ≡ Equal → a ≡ b
axiom_cmp-equal = axioms_linear.equal

-- ---- facts

abbrev fact_code : Fact → ℕ × (ℕ × (ℕ × ℕ))
fact_code (fact.Is c a) = (0, (c, (a, 0)))
fact_code (fact.Link p a b) = (1, (p, (a, b)))

abbrev fact_of : ℕ × (ℕ × (ℕ × ℕ)) → Fact
fact_of t = cond (t.0 == 0) (fact.Is t.1.0 t.1.1.0) (fact.Link t.1.0 t.1.1.0 t.1.1.1)

fact_back : (f : Fact) → fact_of (fact_code f) ≡ f
fact_back (fact.Is c a) = refl
fact_back (fact.Link p a b) = refl

fact_agrees : (a b : Fact) → fact_cmp a b ≡ pair_cmp nat_cmp (pair_cmp nat_cmp (pair_cmp nat_cmp nat_cmp)) (fact_code a) (fact_code b)
fact_agrees (fact.Is c a) (fact.Is d b) = ap (ordering_then (nat_cmp c d)) (sym (then_equal (nat_cmp a b)))
fact_agrees (fact.Is c a) (fact.Link q x y) = refl
fact_agrees (fact.Link p a b) (fact.Is d x) = refl
fact_agrees (fact.Link p a b) (fact.Link q x y) = refl

pub facts_linear : IsLinear fact_cmp
facts_linear =
    coded_linear fact_code fact_of (pairs_linear numbers_linear (pairs_linear numbers_linear (pairs_linear numbers_linear numbers_linear)))
    fact_back fact_agrees

pub fact_cmp_total : IsTotalOrder fact_cmp
fact_cmp_total = facts_linear.total

pub fact_cmp-equal : (a b : Fact) → fact_cmp a b ≡ Equal → a ≡ b
fact_cmp-equal = facts_linear.equal
