-- The worked examples.
use Rattle.std.proofs.Common.{◌≡◌, ℕ, suc, zero, ◌⊎◌, List, [], ◌∷◌, length, replicate, refl, sym, ap, ap₂, subst, ◌∙◌, inl, inr, true≢false, lit<, arith}
use Rattle.std.proofs.lemmas.List.{length-replicate}
use Rattle.std.specs.List.{Contains}
use Rattle.std.specs.List.Sorted.{IsStrictlySortedBy}
use Rattle.dl_terms.specs.Roles.{inverse_of, named}
use Rattle.dl_terms.specs.Chain.{empty}
use Rattle.dl_terms.specs.Below.{RoleBelow, RoleStep, ConceptBelow}
use Rattle.dl_terms.specs.NormalForm.{concept_inclusions}
use Rattle.dl_terms.specs.Structure.{HoldsAtName, by_class, by_target, Element, individual, child, Follows, IsElement, Joins, by_fact, by_fact_turned, to_child, from_child}
use Rattle.dl_terms.specs.Answers.{IsCertain, AreCertain, AscendStrictly}
use Rattle.dl_examples.specs.Examples.{class_a, property_p, property_s, name_a, name_b, name_c, link, a_is_an_a, a_has_a_p, a_p_has_an_s, a_p_has_a_p, p_is_a_turned_s, has_a_p, is_p, share_a_p, has_a_p_with_an_s, some_loop, seven_in_a_row, is_s}
use Rattle.dl_terms.specs.declared.role.Role.{Role}
use Rattle.dl_terms.specs.declared.role.Basic.TheVariants as basic
use Rattle.dl_terms.specs.declared.axiom.Axiom.{Axiom}
use Rattle.dl_terms.specs.declared.axiom.Fact.{Fact}
use Rattle.dl_terms.specs.declared.axiom.Fact.TheVariants as fact
use Rattle.dl_terms.proofs.MemberLemmas.{Contains-one, Contains-two}
use Rattle.dl_terms.proofs.BelowLemmas.{Chain-one, RoleBelow-keeps, ConceptBelow-inclusion}
use Rattle.dl_terms.proofs.StructureLemmas.{child-word, individual-child, child-itself, child-injective}
use Rattle.dl_terms.proofs.MatchLemmas.{head_two, IsCertain-by_index, HoldsAtName-class, Joins-child, Joins-individuals, is_role_of}

abbrev p : Role
p = named property_p

abbrev s : Role
s = named property_s

-- a is in A, and A is below "some P"
has_p : (axioms : List Axiom) (facts : List Fact) (a : ℕ) → Contains (concept_inclusions axioms) (basic.Class class_a, basic.SomeOf p)
    → Contains facts (fact.Is class_a a) → HoldsAtName axioms facts (basic.SomeOf p) a
has_p axioms facts a c f = by_class f (ConceptBelow-inclusion axioms c)

-- ---- an unnamed neighbour

pub unnamed_neighbour : IsCertain (a_has_a_p ∷ []) (a_is_an_a ∷ []) has_a_p (name_a ∷ [])
unnamed_neighbour =
    IsCertain-by_index (a_has_a_p ∷ []) (a_is_an_a ∷ []) has_a_p (name_a ∷ []) (individual name_a ∷ child (individual name_a) p ∷ []) refl
    (tt, ((has_p (a_has_a_p ∷ []) (a_is_an_a ∷ []) name_a (0, lit< tt, refl) (0, lit< tt, refl), tt), tt)) (to_child refl empty, tt) refl

pub no_named_neighbour : (tuple : List ℕ) → IsCertain (a_has_a_p ∷ []) (a_is_an_a ∷ []) is_p tuple → ⊥
no_named_neighbour tuple c =
    let h = head_two (c.elements 0) (c.elements 1) tuple c.is_head in
    Joins-individuals (a_has_a_p ∷ []) (a_is_an_a ∷ []) refl p (c.elements 0) (c.elements 1) h.0 h.1 h.3 h.4
    (c.is_match.atoms (link property_p 0 1) (0, lit< tt, refl))

-- ---- neighbours that are not shared

abbrev both : List Fact
both = fact.Is class_a name_a ∷ fact.Is class_a name_c ∷ []

shared_by : (a : ℕ) → Contains both (fact.Is class_a a) → IsCertain (a_has_a_p ∷ []) both share_a_p (a ∷ a ∷ [])
shared_by a f =
    IsCertain-by_index (a_has_a_p ∷ []) both share_a_p (a ∷ a ∷ []) (individual a ∷ individual a ∷ child (individual a) p ∷ []) refl
    (tt, (tt, ((has_p (a_has_a_p ∷ []) both a (0, lit< tt, refl) f, tt), tt))) (to_child refl empty, (to_child refl empty, tt)) refl

who_of : Fact → ℕ
who_of (fact.Is c a) = a
who_of (fact.Link r a b) = a

one_of_both : (c a : ℕ) → Contains both (fact.Is c a) → (a ≡ name_a) ⊎ (a ≡ name_c)
unfolding who_of
one_of_both c a f = by (Contains-two (fact.Is class_a name_a) (fact.Is class_a name_c) (fact.Is c a) f)
  where
    by : (fact.Is class_a name_a ≡ fact.Is c a) ⊎ (fact.Is class_a name_c ≡ fact.Is c a) → (a ≡ name_a) ⊎ (a ≡ name_c)
    by (inl e) = inl (sym (ap who_of e))
    by (inr e) = inr (sym (ap who_of e))

-- what has a neighbour of its own is one of the two
neighbour_of : (x : Element) (a : ℕ) (r : Role) → x ≡ individual a → IsElement (a_has_a_p ∷ []) both (child x r) → (a ≡ name_a) ⊎ (a ≡ name_c)
neighbour_of x a r e h =
    let d = subst (λ z. IsElement (a_has_a_p ∷ []) both (child z r)) e h in
    let f = HoldsAtName-class (a_has_a_p ∷ []) both refl (basic.SomeOf r) a d.0 in
    one_of_both f.0 a f.1

shared_parent : (x z y : Element) (a b : ℕ) → x ≡ individual a → z ≡ individual b → IsElement (a_has_a_p ∷ []) both y
    → Joins (a_has_a_p ∷ []) both p x y → Joins (a_has_a_p ∷ []) both p z y → (a ≡ b) × ((a ≡ name_a) ⊎ (a ≡ name_c))
shared_parent x z y a b e f element j k = by (Joins-child (a_has_a_p ∷ []) both refl p x y j) (Joins-child (a_has_a_p ∷ []) both refl p z y k)
  where
    by : ((r : Role) × (y ≡ child x r) × RoleBelow (a_has_a_p ∷ []) r p) ⊎ ((r : Role) × (x ≡ child y r) × RoleBelow (a_has_a_p ∷ []) r (inverse_of p))
        → ((r : Role) × (y ≡ child z r) × RoleBelow (a_has_a_p ∷ []) r p) ⊎ ((r : Role) × (z ≡ child y r) × RoleBelow (a_has_a_p ∷ []) r (inverse_of p))
        → (a ≡ b) × ((a ≡ name_a) ⊎ (a ≡ name_c))
    by (inl h) (inl i) = (
      ap (λ w. w.name) (sym e ∙ (child-injective x z h.0 i.0 (sym h.1 ∙ i.1)).0 ∙ f),
      neighbour_of x a h.0 e (subst (IsElement (a_has_a_p ∷ []) both) h.1 element),
    )
    by (inr h) i = absurd (individual-child a y h.0 (sym e ∙ h.1))
    by (inl h) (inr i) = absurd (individual-child b y i.0 (sym f ∙ i.1))

abbrev pairs_of_both : List (List ℕ)
pairs_of_both = (name_a ∷ name_a ∷ []) ∷ (name_c ∷ name_c ∷ []) ∷ []

only_with_itself : (tuple : List ℕ) → IsCertain (a_has_a_p ∷ []) both share_a_p tuple → Contains pairs_of_both tuple
only_with_itself tuple c = by found.0 found.1
  where
    h : (x : ℕ) × (y : ℕ) × (tuple ≡ x ∷ y ∷ []) × (c.elements 0 ≡ individual x) × (c.elements 1 ≡ individual y)
    h = head_two (c.elements 0) (c.elements 1) tuple c.is_head

    found : (h.0 ≡ h.1) × ((h.0 ≡ name_a) ⊎ (h.0 ≡ name_c))
    found =
        shared_parent (c.elements 0) (c.elements 1) (c.elements 2) h.0 h.1 h.3 h.4 (c.is_match.elements 2 (omega arith))
        (c.is_match.atoms (link property_p 0 2) (0, lit< tt, refl))
        (c.is_match.atoms (link property_p 1 2) (1, lit< tt, refl))

    pair : (n : ℕ) → h.0 ≡ h.1 → h.0 ≡ n → n ∷ n ∷ [] ≡ tuple
    pair n same e = ap₂ (λ x y. x ∷ y ∷ []) (sym e) (sym e ∙ same) ∙ sym h.2

    by : h.0 ≡ h.1 → (h.0 ≡ name_a) ⊎ (h.0 ≡ name_c) → Contains pairs_of_both tuple
    by same (inl e) = subst (Contains pairs_of_both) (pair name_a same e) (0, lit< tt, refl)
    by same (inr e) = subst (Contains pairs_of_both) (pair name_c same e) (1, lit< tt, refl)

with_itself : (tuple : List ℕ) → Contains pairs_of_both tuple → IsCertain (a_has_a_p ∷ []) both share_a_p tuple
with_itself tuple c = by (Contains-two (name_a ∷ name_a ∷ []) (name_c ∷ name_c ∷ []) tuple c)
  where
    by : (name_a ∷ name_a ∷ [] ≡ tuple) ⊎ (name_c ∷ name_c ∷ [] ≡ tuple) → IsCertain (a_has_a_p ∷ []) both share_a_p tuple
    by (inl e) = subst (IsCertain (a_has_a_p ∷ []) both share_a_p) e (shared_by name_a (0, lit< tt, refl))
    by (inr e) = subst (IsCertain (a_has_a_p ∷ []) both share_a_p) e (shared_by name_c (1, lit< tt, refl))

ascending_pairs : AscendStrictly pairs_of_both
unfolding IsStrictlySortedBy
ascending_pairs = ((refl, tt), (tt, tt))

pub not_shared : AreCertain (a_has_a_p ∷ []) both share_a_p pairs_of_both
not_shared = record { ascending = ascending_pairs; exact = λ tuple. (with_itself tuple, only_with_itself tuple) }

first_number : List ℕ → ℕ
first_number [] = 0
first_number (x ∷ xs) = x

second_number : List ℕ → ℕ
second_number [] = 0
second_number (x ∷ xs) = first_number xs

pub none_for_two : IsCertain (a_has_a_p ∷ []) both share_a_p (name_a ∷ name_c ∷ []) → ⊥
unfolding first_number second_number
none_for_two c = by (Contains-two (name_a ∷ name_a ∷ []) (name_c ∷ name_c ∷ []) (name_a ∷ name_c ∷ []) (only_with_itself (name_a ∷ name_c ∷ []) c))
  where
    by : (name_a ∷ name_a ∷ [] ≡ name_a ∷ name_c ∷ []) ⊎ (name_c ∷ name_c ∷ [] ≡ name_a ∷ name_c ∷ []) → ⊥
    by (inl e) = let d = ap second_number e in omega (arith, d)
    by (inr e) = let d = ap first_number e in omega (arith, d)

-- ---- a neighbour of an unnamed neighbour

abbrev along : List Axiom
along = a_has_a_p ∷ a_p_has_an_s ∷ []

pub unnamed_neighbours : IsCertain along (a_is_an_a ∷ []) has_a_p_with_an_s (name_a ∷ [])
unnamed_neighbours =
    let first = has_p along (a_is_an_a ∷ []) name_a (0, lit< tt, refl) (0, lit< tt, refl) in
    let next : ConceptBelow along (basic.SomeOf (inverse_of p)) (basic.SomeOf s) = ConceptBelow-inclusion along (1, lit< tt, refl) in
    IsCertain-by_index along (a_is_an_a ∷ []) has_a_p_with_an_s (name_a ∷ [])
    (individual name_a ∷ child (individual name_a) p ∷ child (child (individual name_a) p) s ∷ []) refl
    (tt, ((first, tt), ((first, (next, tt)), tt))) (to_child refl empty, (to_child refl empty, tt)) refl

-- ---- no loop

pub no_loop : (tuple : List ℕ) → IsCertain (a_has_a_p ∷ []) (a_is_an_a ∷ []) some_loop tuple → ⊥
no_loop tuple c = by (Joins-child (a_has_a_p ∷ []) (a_is_an_a ∷ []) refl p (c.elements 0) (c.elements 0) (c.is_match.atoms (link property_p 0 0) (0, lit< tt, refl)))
  where
    by : ((r : Role) × (c.elements 0 ≡ child (c.elements 0) r) × RoleBelow (a_has_a_p ∷ []) r p)
        ⊎ ((r : Role) × (c.elements 0 ≡ child (c.elements 0) r) × RoleBelow (a_has_a_p ∷ []) r (inverse_of p)) → ⊥
    by (inl h) = child-itself (c.elements 0) h.0 h.1
    by (inr h) = child-itself (c.elements 0) h.0 h.1

-- ---- words of any length

abbrev endless : List Axiom
endless = a_p_has_a_p ∷ []

abbrev a_b : List Fact
a_b = fact.Link property_p name_a name_b ∷ []

-- b, and a word of P alone
abbrev far : ℕ → Element
far n = record { name = name_b; word = replicate n p }

again : ConceptBelow endless (basic.SomeOf (inverse_of p)) (basic.SomeOf p)
again = ConceptBelow-inclusion endless (0, lit< tt, refl)

follows_again : (n : ℕ) → Follows endless p (replicate n p)
follows_again zero = tt
follows_again (suc n) = (again, follows_again n)

far_element : (n : ℕ) → IsElement endless a_b (far n)
far_element zero = tt
far_element (suc n) = (by_target (0, lit< tt, refl) again, follows_again n)

pub words_of_any_length : (n : ℕ) → (x : Element) × IsElement endless a_b x × (length x.word ≡ n)
words_of_any_length n = (far n, far_element n, length-replicate n p)

pub seven_atoms : IsCertain endless a_b seven_in_a_row []
seven_atoms =
    IsCertain-by_index endless a_b seven_in_a_row [] (far 0 ∷ far 1 ∷ far 2 ∷ far 3 ∷ far 4 ∷ far 5 ∷ far 6 ∷ far 7 ∷ []) refl
    (far_element 0, (far_element 1, (far_element 2, (far_element 3, (far_element 4, (far_element 5, (far_element 6, (far_element 7, tt))))))))
    (to_child refl empty, (to_child refl empty, (to_child refl empty, (to_child refl empty, (to_child refl empty, (to_child refl empty, (to_child refl empty, tt)))))))
    refl

-- ---- a role below an inverse

abbrev turning : List Axiom
turning = p_is_a_turned_s ∷ []

turned_below : RoleBelow turning (inverse_of p) s
turned_below = Chain-one (RoleStep.inverted (0, lit< tt, refl))

-- what is above P, and above its inverse
not_below : RoleBelow turning p s → ⊥
not_below c = true≢false (sym (RoleBelow-keeps turning (is_role_of (p ∷ inverse_of s ∷ [])) refl c refl))

link_ends : Fact → List ℕ
link_ends (fact.Is c a) = []
link_ends (fact.Link r a b) = r ∷ a ∷ b ∷ []

the_link : (r a b : ℕ) → Contains a_b (fact.Link r a b) → property_p ∷ name_a ∷ name_b ∷ [] ≡ r ∷ a ∷ b ∷ []
unfolding link_ends
the_link r a b c = ap link_ends (Contains-one (fact.Link property_p name_a name_b) (fact.Link r a b) c)

first_number_of : List ℕ → ℕ
first_number_of [] = 0
first_number_of (x ∷ xs) = x

rest_of : List ℕ → List ℕ
rest_of [] = []
rest_of (x ∷ xs) = xs

turned_ends : (x y : Element) → x.word ≡ [] → Joins turning a_b s x y → y.word ≡ [] → name_b ∷ name_a ∷ [] ≡ x.name ∷ y.name ∷ []
unfolding first_number_of rest_of
turned_ends x y e (by_fact {p = r} e' f c d) g =
    let l = the_link r x.name y.name c in
    absurd (not_below (subst (λ n. RoleBelow turning (named n) s) (sym (ap first_number_of l)) d))
turned_ends x y e (by_fact_turned {p = r} e' f c d) g =
    let l = ap rest_of (the_link r y.name x.name c) in
    ap₂ (λ u v. u ∷ v ∷ []) (ap (λ z. first_number_of (rest_of z)) l) (ap first_number_of l)
turned_ends x y e (to_child {r = r} f d) g = absurd (child-word x r (sym (ap (λ z. z.word) f) ∙ g))
turned_ends x y e (from_child {r = r} f d) g = absurd (child-word y r (sym (ap (λ z. z.word) f) ∙ e))

only_turned : (tuple : List ℕ) → IsCertain turning a_b is_s tuple → name_b ∷ name_a ∷ [] ≡ tuple
only_turned tuple c =
    let h = head_two (c.elements 0) (c.elements 1) tuple c.is_head in
    turned_ends (c.elements 0) (c.elements 1) (ap (λ z. z.word) h.3) (c.is_match.atoms (link property_s 0 1) (0, lit< tt, refl)) (ap (λ z. z.word) h.4)
    ∙ ap₂ (λ u v. u ∷ v ∷ []) (ap (λ z. z.name) h.3) (ap (λ z. z.name) h.4) ∙ sym h.2

turned_certain : IsCertain turning a_b is_s (name_b ∷ name_a ∷ [])
turned_certain =
    IsCertain-by_index turning a_b is_s (name_b ∷ name_a ∷ []) (individual name_b ∷ individual name_a ∷ []) refl (tt, (tt, tt))
    (by_fact_turned refl refl (0, lit< tt, refl) turned_below, tt) refl

one_ascends : AscendStrictly ((name_b ∷ name_a ∷ []) ∷ [])
unfolding IsStrictlySortedBy
one_ascends = (tt, tt)

pub turned : AreCertain turning a_b is_s ((name_b ∷ name_a ∷ []) ∷ [])
turned = record {
  ascending = one_ascends;
  exact = λ tuple. (
    λ c. subst (IsCertain turning a_b is_s) (Contains-one (name_b ∷ name_a ∷ []) tuple c) turned_certain,
    λ c. subst (Contains ((name_b ∷ name_a ∷ []) ∷ [])) (only_turned tuple c) (0, lit< tt, refl),
  );
}
