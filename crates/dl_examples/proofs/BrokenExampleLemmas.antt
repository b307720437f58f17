-- The worked examples of broken axioms.
use Rattle.std.proofs.Common.{◌≡◌, ℕ, ◌⊎◌, Bool, true, ◌&&◌, List, [], ◌∷◌, ◌++◌, map, is_some, Some, None, refl, sym, ap, subst, inl, inr, true≢false, lit<}
use Rattle.std.specs.List.{Contains, list_all, flat_map, filter_map}
use Rattle.std.specs.declared.option.Option.{Option}
use Rattle.std.specs.List.Sorted.{IsStrictlySortedBy}
use Rattle.std.proofs.lemmas.List.Elements.{All-from_recursion, All-nil}
use Rattle.dl_terms.specs.Roles.{inverse_of, named, auxiliary_of}
use Rattle.dl_terms.specs.Chain.{empty}
use Rattle.dl_terms.specs.Below.{RoleStep, ConceptBelow}
use Rattle.dl_terms.specs.NormalForm.{negatives, axiom_negatives, axiom_rows, as_negative}
use Rattle.dl_terms.specs.Structure.{HoldsAtName, by_class, individual, child, HoldsAt, at_name, at_end, by_fact}
use Rattle.dl_terms.specs.Broken.{IsMet, IsFirstBroken, NothingIsBroken}
use Rattle.dl_terms.specs.Order.{axiom_cmp}
use Rattle.dl_terms.specs.Sets.{IsSetOf}
use Rattle.dl_examples.specs.Examples.{class_a, class_c, class_d, property_p, name_a, a_is_an_a, a_auxiliary_in_c_and_d, c_and_d_are_disjoint, p_is_asymmetric, p_is_irreflexive, an_a_is_a_d, a_is_disjoint_from_itself}
use Rattle.dl_terms.specs.declared.role.Role.{Role}
use Rattle.dl_terms.specs.declared.role.Basic.TheVariants as basic
use Rattle.dl_terms.specs.declared.role.Negative.{Negative}
use Rattle.dl_terms.specs.declared.role.Negative.TheVariants.{Basics, Roles}
use Rattle.dl_terms.specs.declared.axiom.Axiom.{Axiom}
use Rattle.dl_terms.specs.declared.axiom.Fact.{Fact}
use Rattle.dl_terms.specs.declared.axiom.Fact.TheVariants as fact
use Rattle.dl_terms.specs.declared.query.Term.TheVariants.{Var}
use Rattle.dl_terms.specs.declared.query.Atom.TheVariants as atom
use Rattle.dl_terms.proofs.MemberLemmas.{Contains-one, Contains-two, Contains-middle, list_all-Contains, both_true}
use Rattle.dl_terms.proofs.BelowLemmas.{Chain-one, ConceptBelow-keeps, ConceptBelow-inclusion, ConceptBelow-SomeOf, ConceptBelow-trans, ConceptBelow-refl}
use Rattle.dl_terms.proofs.StructureLemmas.{individual-child}
use Rattle.dl_terms.proofs.AnswerLemmas.{IsSetOf-unique}
use Rattle.dl_terms.proofs.OrderLemmas.{axioms_linear}
use Rattle.dl_terms.proofs.MatchLemmas.{IsMet-by_index, HoldsAtName-class, HoldsAt-no_fact, is_one_of}

-- where the first negative of all is met, its axiom is the first broken one
pub IsFirstBroken-head : (axioms : List Axiom) (facts : List Fact) (nothing : Option ℕ) (broken : Option Axiom) (n : Negative)
    (after : List (Option Axiom × Negative)) → negatives axioms nothing ≡ (broken, n) ∷ after → IsMet axioms facts n
    → IsFirstBroken axioms facts nothing broken
IsFirstBroken-head axioms facts nothing broken n after e met =
    record { before = []; negative = n; after = after; is_there = e; met = met; first = All-nil (λ m. ¬ IsMet axioms facts m.1) }

-- ---- C and D meet at an unnamed element alone

abbrev filling : List Axiom
filling = a_auxiliary_in_c_and_d

abbrev p : Role
p = named property_p

-- the auxiliary role of P and C
abbrev u : Role
u = auxiliary_of p class_c

abbrev a_is : List Fact
a_is = a_is_an_a ∷ []

in_c : ConceptBelow filling (basic.SomeOf (inverse_of u)) (basic.Class class_c)
in_c = ConceptBelow-inclusion filling (1, lit< tt, refl)

in_d : ConceptBelow filling (basic.SomeOf (inverse_of u)) (basic.Class class_d)
in_d =
    ConceptBelow-trans filling (ConceptBelow-SomeOf filling {s = inverse_of p} (Chain-one (RoleStep.inverted (0, lit< tt, refl))))
    (ConceptBelow-inclusion filling (2, lit< tt, refl))

filled : HoldsAtName filling a_is (basic.SomeOf u) name_a
filled = by_class (0, lit< tt, refl) (ConceptBelow-inclusion filling (0, lit< tt, refl))

pub broken_at_an_unnamed : IsFirstBroken filling a_is None (Some c_and_d_are_disjoint)
broken_at_an_unnamed =
    IsFirstBroken-head filling a_is None (Some c_and_d_are_disjoint) (Basics (basic.Class class_c) (basic.Class class_d)) [] refl
    (IsMet-by_index filling a_is (Basics (basic.Class class_c) (basic.Class class_d)) (child (individual name_a) u ∷ []) refl ((filled, tt), tt)
    (at_end (individual name_a) u refl in_c, (at_end (individual name_a) u refl in_d, tt)))

class_of : Fact → ℕ
class_of (fact.Is c a) = c
class_of (fact.Link r a b) = r

pub no_name_in_both : (n : ℕ) → HoldsAt filling a_is (basic.Class class_c) (individual n) → HoldsAt filling a_is (basic.Class class_d) (individual n) → ⊥
unfolding class_of
no_name_in_both n (at_end y r e d) k = individual-child n y r e
no_name_in_both n (at_name e h) k = by (HoldsAtName-class filling a_is refl (basic.Class class_c) n h)
  where
    by : (c : ℕ) × Contains a_is (fact.Is c n) × ConceptBelow filling (basic.Class c) (basic.Class class_c) → ⊥
    by h =
        let class : class_a ≡ h.0 = ap class_of (Contains-one a_is_an_a (fact.Is h.0 n) h.1) in
        let d = subst (λ c. ConceptBelow filling (basic.Class c) (basic.Class class_c)) (sym class) h.2 in
        true≢false (sym (ConceptBelow-keeps filling (is_one_of (basic.Class class_a ∷ basic.SomeOf u ∷ basic.SomeOf p ∷ [])) refl refl d refl))

pub nothing_without_the_fact : NothingIsBroken filling [] None
nothing_without_the_fact = All-from_recursion (λ n. ¬ IsMet filling [] n.1) (negatives filling None) (none, tt)
  where
    none : IsMet filling [] (Basics (basic.Class class_c) (basic.Class class_d)) → ⊥
    none h =
        HoldsAt-no_fact filling (basic.Class class_c) (h.0 0) (h.1.elements 0 (lit< tt))
        (h.1.atoms (atom.Is class_c (Var 0)) (0, lit< tt, refl))

-- ---- the order of axioms decides

abbrev both : List Axiom
both = p_is_asymmetric ∷ p_is_irreflexive ∷ []

abbrev loop : List Fact
loop = fact.Link property_p name_a name_a ∷ []

pub asymmetry_first : IsFirstBroken both loop None (Some p_is_asymmetric)
asymmetry_first =
    IsFirstBroken-head both loop None (Some p_is_asymmetric) (Roles p (inverse_of p)) (negatives (p_is_irreflexive ∷ []) None) refl
    (IsMet-by_index both loop (Roles p (inverse_of p)) (individual name_a ∷ individual name_a ∷ []) refl (tt, (tt, tt))
    (by_fact refl refl (0, lit< tt, refl) empty, (by_fact refl refl (0, lit< tt, refl) empty, tt)))

both_ascend : IsStrictlySortedBy axiom_cmp both
unfolding IsStrictlySortedBy
both_ascend = ((refl, tt), (tt, tt))

turned_members : (x : Axiom) → Contains (p_is_irreflexive ∷ p_is_asymmetric ∷ []) x → Contains both x
turned_members x c = by (Contains-two p_is_irreflexive p_is_asymmetric x c)
  where
    by : (p_is_irreflexive ≡ x) ⊎ (p_is_asymmetric ≡ x) → Contains both x
    by (inl e) = subst (Contains both) e (1, lit< tt, refl)
    by (inr e) = subst (Contains both) e (0, lit< tt, refl)

members_turned : (x : Axiom) → Contains both x → Contains (p_is_irreflexive ∷ p_is_asymmetric ∷ []) x
members_turned x c = by (Contains-two p_is_asymmetric p_is_irreflexive x c)
  where
    by : (p_is_asymmetric ≡ x) ⊎ (p_is_irreflexive ≡ x) → Contains (p_is_irreflexive ∷ p_is_asymmetric ∷ []) x
    by (inl e) = subst (Contains (p_is_irreflexive ∷ p_is_asymmetric ∷ [])) e (1, lit< tt, refl)
    by (inr e) = subst (Contains (p_is_irreflexive ∷ p_is_asymmetric ∷ [])) e (0, lit< tt, refl)

pub asymmetry_first_of_set : (axioms : List Axiom) → IsSetOf axiom_cmp axioms (p_is_irreflexive ∷ p_is_asymmetric ∷ [])
    → IsFirstBroken axioms loop None (Some p_is_asymmetric)
asymmetry_first_of_set axioms set =
    subst (λ xs. IsFirstBroken xs loop None (Some p_is_asymmetric))
    (IsSetOf-unique axioms_linear both axioms (p_is_irreflexive ∷ p_is_asymmetric ∷ [])
    (record { ascending = both_ascend; members = λ x. (members_turned x, turned_members x) }) set) asymmetry_first

-- ---- owl:Nothing

pub nothing_is_broken : IsFirstBroken (an_a_is_a_d ∷ []) a_is (Some class_d) None
nothing_is_broken =
    IsFirstBroken-head (an_a_is_a_d ∷ []) a_is (Some class_d) None (Basics (basic.Class class_d) (basic.Class class_d)) [] refl
    (IsMet-by_index (an_a_is_a_d ∷ []) a_is (Basics (basic.Class class_d) (basic.Class class_d)) (individual name_a ∷ []) refl (tt, tt)
    (held, (held, tt)))
  where
    held : HoldsAt (an_a_is_a_d ∷ []) a_is (basic.Class class_d) (individual name_a)
    held = at_name refl (by_class (0, lit< tt, refl) (ConceptBelow-inclusion (an_a_is_a_d ∷ []) (0, lit< tt, refl)))

abbrev has_axiom : Option Axiom × Negative → Bool
has_axiom n = is_some n.0

list_all-append : {A : Type 0} (test : A → Bool) (xs ys : List A) → list_all test xs ≡ true → list_all test ys ≡ true → list_all test (xs ++ ys) ≡ true
list_all-append test [] ys h k = k
list_all-append test (x ∷ xs) ys h k =
    let b = both_true (test x) (list_all test xs) h in
    (λ i. b.0 i && list_all-append test xs ys b.1 k i)

list_all-beside : (a : Axiom) (ns : List Negative) → list_all has_axiom (map (λ n. (Some a, n)) ns) ≡ true
list_all-beside a [] = refl
list_all-beside a (n ∷ ns) = list_all-beside a ns

list_all-negatives : (axioms : List Axiom) → list_all has_axiom (flat_map axiom_negatives axioms) ≡ true
list_all-negatives [] = refl
list_all-negatives (a ∷ axioms) =
    list_all-append has_axiom (axiom_negatives a) (flat_map axiom_negatives axioms) (list_all-beside a (filter_map as_negative (axiom_rows a)))
    (list_all-negatives axioms)

-- where owl:Nothing is no name, only axioms are broken
pub nothing_is_no_name : (axioms : List Axiom) (facts : List Fact) → IsFirstBroken axioms facts None None → ⊥
nothing_is_no_name axioms facts b =
    let all = list_all-append has_axiom (flat_map axiom_negatives axioms) [] (list_all-negatives axioms) refl in
    let c = subst (λ ns. Contains ns (None, b.negative)) (sym b.is_there) (Contains-middle b.before b.after (None, b.negative)) in
    true≢false (sym (list_all-Contains has_axiom (negatives axioms None) (None, b.negative) all c))

-- ---- operands by position

pub disjoint_from_itself : IsFirstBroken (a_is_disjoint_from_itself ∷ []) a_is None (Some a_is_disjoint_from_itself)
disjoint_from_itself =
    IsFirstBroken-head (a_is_disjoint_from_itself ∷ []) a_is None (Some a_is_disjoint_from_itself) (Basics (basic.Class class_a) (basic.Class class_a))
    [] refl
    (IsMet-by_index (a_is_disjoint_from_itself ∷ []) a_is (Basics (basic.Class class_a) (basic.Class class_a)) (individual name_a ∷ []) refl (tt, tt)
    (held, (held, tt)))
  where
    held : HoldsAt (a_is_disjoint_from_itself ∷ []) a_is (basic.Class class_a) (individual name_a)
    held = at_name refl (by_class (0, lit< tt, refl) (ConceptBelow-refl (a_is_disjoint_from_itself ∷ []) (basic.Class class_a)))
