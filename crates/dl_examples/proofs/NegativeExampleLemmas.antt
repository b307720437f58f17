-- The worked examples of the queries of negatives.
use Rattle.std.proofs.Common.{◌≡◌, ℕ, ◌⊎◌, List, [], ◌∷◌, ◌++◌, length, length-append, Some, None, refl, sym, ap, subst, ◌∙◌, inl, inr, lit<, arith}
use Rattle.std.specs.List.{Contains}
use Rattle.std.proofs.lemmas.List.Elements.{All-from_recursion}
use Rattle.dl_terms.specs.Roles.{inverse_of, named}
use Rattle.dl_terms.specs.Chain.{empty}
use Rattle.dl_terms.specs.NormalForm.{negatives}
use Rattle.dl_terms.specs.Below.{ConceptBelow}
use Rattle.dl_terms.specs.Structure.{HoldsAtName, by_class, by_source, by_target, Element, individual, child, IsElement, HoldsAt, at_name, at_end, Joins, by_fact}
use Rattle.dl_terms.specs.Broken.{IsMet, IsFirstBroken, NothingIsBroken}
use Rattle.dl_terms.specs.declared.role.Role.{Role}
use Rattle.dl_terms.specs.declared.role.Basic.{Basic}
use Rattle.dl_terms.specs.declared.role.Basic.TheVariants as basic
use Rattle.dl_terms.specs.declared.role.Negative.TheVariants.{Basics, Roles, NoLoop}
use Rattle.dl_terms.specs.declared.axiom.Axiom.{Axiom}
use Rattle.dl_terms.specs.declared.axiom.Fact.{Fact}
use Rattle.dl_terms.specs.declared.axiom.Fact.TheVariants as fact
use Rattle.dl_terms.specs.declared.query.Term.TheVariants.{Var}
use Rattle.dl_terms.specs.declared.query.Atom.TheVariants as atom
use Rattle.dl_terms.proofs.MemberLemmas.{Contains-one, Contains-two}
use Rattle.dl_terms.proofs.StructureLemmas.{child-word, child-itself, child-injective}
use Rattle.dl_terms.proofs.MatchLemmas.{IsMet-by_index}
use Rattle.dl_examples.specs.Examples.{class_a, property_p, property_s, name_a, name_b, name_c, link, a_is_an_a, b_is_an_a, p_from_a_to_a, p_from_a_to_b, s_from_a_to_b, s_from_a_to_c, s_from_b_to_a, no_p_beside_an_s, a_p_is_no_a, an_a_is_no_p, p_is_no_turned_s, p_is_irreflexive}
use Rattle.dl_examples.proofs.PlainLemmas.{turned-named, ConceptBelow-same, Joins-named}
use Rattle.dl_examples.proofs.BrokenExampleLemmas.{IsFirstBroken-head}

abbrev p : Role
p = named property_p

abbrev s : Role
s = named property_s

-- ---- two neighbours

pub two_neighbours : IsFirstBroken (no_p_beside_an_s ∷ []) (p_from_a_to_b ∷ s_from_a_to_c ∷ []) None (Some no_p_beside_an_s)
two_neighbours =
    IsFirstBroken-head (no_p_beside_an_s ∷ []) (p_from_a_to_b ∷ s_from_a_to_c ∷ []) None (Some no_p_beside_an_s)
    (Basics (basic.SomeOf p) (basic.SomeOf s)) [] refl
    (IsMet-by_index (no_p_beside_an_s ∷ []) (p_from_a_to_b ∷ s_from_a_to_c ∷ []) (Basics (basic.SomeOf p) (basic.SomeOf s))
    (individual name_a ∷ individual name_b ∷ individual name_c ∷ []) refl (tt, (tt, (tt, tt)))
    (by_fact refl refl (0, lit< tt, refl) empty, (by_fact refl refl (1, lit< tt, refl) empty, tt)))

-- ---- a neighbour by an inverse

abbrev b_has_both : List Fact
b_has_both = p_from_a_to_b ∷ b_is_an_a ∷ []

-- a fact of the class itself
held : (axioms : List Axiom) (facts : List Fact) (a : ℕ) → Contains facts (fact.Is class_a a) → HoldsAt axioms facts (basic.Class class_a) (individual a)
held axioms facts a c = at_name refl (by_class c empty)

pub some_first : IsFirstBroken (a_p_is_no_a ∷ []) b_has_both None (Some a_p_is_no_a)
some_first =
    IsFirstBroken-head (a_p_is_no_a ∷ []) b_has_both None (Some a_p_is_no_a) (Basics (basic.SomeOf (inverse_of p)) (basic.Class class_a)) [] refl
    (IsMet-by_index (a_p_is_no_a ∷ []) b_has_both (Basics (basic.SomeOf (inverse_of p)) (basic.Class class_a))
    (individual name_b ∷ individual name_a ∷ []) refl (tt, (tt, tt))
    (by_fact refl refl (0, lit< tt, refl) empty, (held (a_p_is_no_a ∷ []) b_has_both name_b (1, lit< tt, refl), tt)))

pub some_second : IsFirstBroken (an_a_is_no_p ∷ []) b_has_both None (Some an_a_is_no_p)
some_second =
    IsFirstBroken-head (an_a_is_no_p ∷ []) b_has_both None (Some an_a_is_no_p) (Basics (basic.Class class_a) (basic.SomeOf (inverse_of p))) [] refl
    (IsMet-by_index (an_a_is_no_p ∷ []) b_has_both (Basics (basic.Class class_a) (basic.SomeOf (inverse_of p)))
    (individual name_b ∷ individual name_a ∷ []) refl (tt, (tt, tt))
    (held (an_a_is_no_p ∷ []) b_has_both name_b (1, lit< tt, refl), (by_fact refl refl (0, lit< tt, refl) empty, tt)))

-- ---- the other end

abbrev apart : List Axiom
apart = a_p_is_no_a ∷ []

abbrev a_has_both : List Fact
a_has_both = p_from_a_to_b ∷ a_is_an_a ∷ []

-- what a class fact and a role fact have: a list of their numbers, of which the first tells the kind
numbers_of : Fact → List ℕ
numbers_of (fact.Is c a) = 0 ∷ c ∷ a ∷ []
numbers_of (fact.Link r a b) = 1 ∷ r ∷ a ∷ b ∷ []

first : List ℕ → ℕ
first [] = 0
first (x ∷ xs) = x

rest : List ℕ → List ℕ
rest [] = []
rest (x ∷ xs) = xs

same_kind : (f g : Fact) → f ≡ g → first (numbers_of f) ≡ first (numbers_of g)
same_kind f g e = ap (λ h. first (numbers_of h)) e

-- the one role fact
the_link : (r a b : ℕ) → Contains a_has_both (fact.Link r a b) → (name_a ≡ a) × (name_b ≡ b)
unfolding numbers_of first rest same_kind
the_link r a b c = by (Contains-two p_from_a_to_b a_is_an_a (fact.Link r a b) c)
  where
    by : (p_from_a_to_b ≡ fact.Link r a b) ⊎ (a_is_an_a ≡ fact.Link r a b) → (name_a ≡ a) × (name_b ≡ b)
    by (inl e) = (ap (λ h. first (rest (rest (numbers_of h)))) e, ap (λ h. first (rest (rest (rest (numbers_of h))))) e)
    by (inr e) = let k = same_kind a_is_an_a (fact.Link r a b) e in absurd (omega (arith, k))

-- the one class fact
the_class : (c a : ℕ) → Contains a_has_both (fact.Is c a) → name_a ≡ a
unfolding numbers_of first rest same_kind
the_class c a h = by (Contains-two p_from_a_to_b a_is_an_a (fact.Is c a) h)
  where
    by : (p_from_a_to_b ≡ fact.Is c a) ⊎ (a_is_an_a ≡ fact.Is c a) → name_a ≡ a
    by (inl e) = let k = same_kind p_from_a_to_b (fact.Is c a) e in absurd (omega (arith, k))
    by (inr e) = ap (λ h. first (rest (rest (numbers_of h)))) e

some_is_no_class : (r : Role) (c : ℕ) → ConceptBelow apart (basic.SomeOf r) (basic.Class c) → ⊥
some_is_no_class r c d = let e = ConceptBelow-same apart refl refl (basic.SomeOf r) (basic.Class c) d in cc

class_is_no_some : (c : ℕ) (r : Role) → ConceptBelow apart (basic.Class c) (basic.SomeOf r) → ⊥
class_is_no_some c r d = let e = ConceptBelow-same apart refl refl (basic.Class c) (basic.SomeOf r) d in cc

role_of : Basic → Role
role_of (basic.Class c) = p
role_of (basic.SomeOf r) = r

some-injective : (r t : Role) → ConceptBelow apart (basic.SomeOf r) (basic.SomeOf t) → r ≡ t
unfolding role_of
some-injective r t d = ap role_of (ConceptBelow-same apart refl refl (basic.SomeOf r) (basic.SomeOf t) d)

-- only a is an A
only_a : (x : Element) → HoldsAt apart a_has_both (basic.Class class_a) x → (x.word ≡ []) × (name_a ≡ x.name)
only_a x (at_name e (by_class {c = c} h d)) = (e, the_class c x.name h)
only_a x (at_name e (by_source {p = q} h d)) = absurd (some_is_no_class (named q) class_a d)
only_a x (at_name e (by_target {p = q} h d)) = absurd (some_is_no_class (inverse_of (named q)) class_a d)
only_a x (at_end y r e d) = absurd (some_is_no_class (inverse_of r) class_a d)

-- no P leads to a
not_at_a : (a : ℕ) → name_a ≡ a → HoldsAtName apart a_has_both (basic.SomeOf (inverse_of p)) a → ⊥
not_at_a a e (by_class {c = c} h d) = class_is_no_some c (inverse_of p) d
not_at_a a e (by_source {p = q} h d) = turned-named property_p q (sym (some-injective (named q) (inverse_of p) d))
not_at_a a e (by_target {p = q} {o = o} h d) = let l = the_link q o a h in omega (arith, e, l.1)

not_to_a : (x y : Element) → x.word ≡ [] → name_a ≡ x.name → IsElement apart a_has_both y → Joins apart a_has_both p y x → ⊥
not_to_a x y none here element j = by (Joins-named apart refl refl a_has_both property_p y x j)
  where
    by : ((y.word ≡ []) × (x.word ≡ []) × Contains a_has_both (fact.Link property_p y.name x.name)) ⊎ ((x ≡ child y p) ⊎ (y ≡ child x (inverse_of p))) → ⊥
    by (inl h) = let l = the_link property_p y.name x.name h.2 in omega (arith, here, l.1)
    by (inr (inl e)) = child-word y p (sym (ap (λ z. z.word) e) ∙ none)
    by (inr (inr e)) =
        let k = subst (λ w. IsElement apart a_has_both (record { name = x.name; word = w ++ inverse_of p ∷ [] })) none (subst (IsElement apart a_has_both) e element) in
        not_at_a x.name here k.0

pub some_at_the_other_end : NothingIsBroken apart a_has_both None
some_at_the_other_end = All-from_recursion (λ n. ¬ IsMet apart a_has_both n.1) (negatives apart None) (none, tt)
  where
    none : IsMet apart a_has_both (Basics (basic.SomeOf (inverse_of p)) (basic.Class class_a)) → ⊥
    none h =
        let at = only_a (h.0 0) (h.1.atoms (atom.Is class_a (Var 0)) (1, lit< tt, refl)) in
        not_to_a (h.0 0) (h.0 1) at.0 at.1 (h.1.elements 1 (lit< tt)) (h.1.atoms (link property_p 1 0) (0, lit< tt, refl))

-- ---- two roles, one turned

abbrev no_turned : List Axiom
no_turned = p_is_no_turned_s ∷ []

pub turned_roles : IsFirstBroken no_turned (p_from_a_to_b ∷ s_from_b_to_a ∷ []) None (Some p_is_no_turned_s)
turned_roles =
    IsFirstBroken-head no_turned (p_from_a_to_b ∷ s_from_b_to_a ∷ []) None (Some p_is_no_turned_s) (Roles p (inverse_of s)) [] refl
    (IsMet-by_index no_turned (p_from_a_to_b ∷ s_from_b_to_a ∷ []) (Roles p (inverse_of s)) (individual name_a ∷ individual name_b ∷ []) refl
    (tt, (tt, tt)) (by_fact refl refl (0, lit< tt, refl) empty, (by_fact refl refl (1, lit< tt, refl) empty, tt)))

abbrev alike : List Fact
alike = p_from_a_to_b ∷ s_from_a_to_b ∷ []

-- each of the two facts leads from a to b
from_a_to_b : (r a b : ℕ) → Contains alike (fact.Link r a b) → (name_a ≡ a) × (name_b ≡ b)
unfolding numbers_of first rest
from_a_to_b r a b c = by (Contains-two p_from_a_to_b s_from_a_to_b (fact.Link r a b) c)
  where
    by : (p_from_a_to_b ≡ fact.Link r a b) ⊎ (s_from_a_to_b ≡ fact.Link r a b) → (name_a ≡ a) × (name_b ≡ b)
    by (inl e) = (ap (λ h. first (rest (rest (numbers_of h)))) e, ap (λ h. first (rest (rest (rest (numbers_of h))))) e)
    by (inr e) = (ap (λ h. first (rest (rest (numbers_of h)))) e, ap (λ h. first (rest (rest (rest (numbers_of h))))) e)

-- no element is a child of its child
child-child : (x y : Element) (r t : Role) → x ≡ child y r → y ≡ child x t → ⊥
child-child x y r t e f =
    let one = ap (λ z. length z.word) e in
    let two = ap (λ z. length z.word) f in
    omega (arith, one, two, length-append y.word (r ∷ []), length-append x.word (t ∷ []))

-- how a named role joins two elements over these facts
abbrev JoinedBy : ℕ → Element → Element → Type 0
JoinedBy q x y =
    ((x.word ≡ []) × (y.word ≡ []) × Contains alike (fact.Link q x.name y.name)) ⊎ ((y ≡ child x (named q)) ⊎ (x ≡ child y (inverse_of (named q))))

no_joint : (x y : Element) → JoinedBy property_p x y → JoinedBy property_s y x → ⊥
no_joint x y (inl h) (inl k) =
    let l = from_a_to_b property_p x.name y.name h.2 in
    let m = from_a_to_b property_s y.name x.name k.2 in
    omega (arith, l.0, m.1)
no_joint x y (inl h) (inr (inl f)) = child-word y s (sym (ap (λ z. z.word) f) ∙ h.0)
no_joint x y (inl h) (inr (inr f)) = child-word x (inverse_of s) (sym (ap (λ z. z.word) f) ∙ h.1)
no_joint x y (inr (inl e)) (inl k) = child-word x p (sym (ap (λ z. z.word) e) ∙ k.0)
no_joint x y (inr (inl e)) (inr (inl f)) = child-child y x p s e f
no_joint x y (inr (inl e)) (inr (inr f)) = turned-named property_s property_p (sym (child-injective x x p (inverse_of s) (sym e ∙ f)).1)
no_joint x y (inr (inr e)) (inl k) = child-word y (inverse_of p) (sym (ap (λ z. z.word) e) ∙ k.1)
no_joint x y (inr (inr e)) (inr (inl f)) = turned-named property_p property_s (child-injective y y (inverse_of p) s (sym e ∙ f)).1
no_joint x y (inr (inr e)) (inr (inr f)) = child-child x y (inverse_of p) (inverse_of s) e f

pub roles_of_one_direction : NothingIsBroken no_turned alike None
roles_of_one_direction = All-from_recursion (λ n. ¬ IsMet no_turned alike n.1) (negatives no_turned None) (none, tt)
  where
    none : IsMet no_turned alike (Roles p (inverse_of s)) → ⊥
    none h =
        no_joint (h.0 0) (h.0 1)
        (Joins-named no_turned refl refl alike property_p (h.0 0) (h.0 1) (h.1.atoms (link property_p 0 1) (0, lit< tt, refl)))
        (Joins-named no_turned refl refl alike property_s (h.0 1) (h.0 0) (h.1.atoms (link property_s 1 0) (1, lit< tt, refl)))

-- ---- loops

abbrev no_loops : List Axiom
no_loops = p_is_irreflexive ∷ []

pub a_loop : IsFirstBroken no_loops (p_from_a_to_a ∷ []) None (Some p_is_irreflexive)
a_loop =
    IsFirstBroken-head no_loops (p_from_a_to_a ∷ []) None (Some p_is_irreflexive) (NoLoop p) [] refl
    (IsMet-by_index no_loops (p_from_a_to_a ∷ []) (NoLoop p) (individual name_a ∷ []) refl (tt, tt) (by_fact refl refl (0, lit< tt, refl) empty, tt))

no_loop_at : (x : Element)
    → ((x.word ≡ []) × (x.word ≡ []) × Contains (p_from_a_to_b ∷ []) (fact.Link property_p x.name x.name)) ⊎ ((x ≡ child x p) ⊎ (x ≡ child x (inverse_of p))) → ⊥
unfolding numbers_of first rest
no_loop_at x (inl h) =
    let e = Contains-one p_from_a_to_b (fact.Link property_p x.name x.name) h.2 in
    let from : name_a ≡ x.name = ap (λ g. first (rest (rest (numbers_of g)))) e in
    let to : name_b ≡ x.name = ap (λ g. first (rest (rest (rest (numbers_of g))))) e in
    omega arith
no_loop_at x (inr (inl e)) = child-itself x p e
no_loop_at x (inr (inr e)) = child-itself x (inverse_of p) e

pub two_ends : NothingIsBroken no_loops (p_from_a_to_b ∷ []) None
two_ends = All-from_recursion (λ n. ¬ IsMet no_loops (p_from_a_to_b ∷ []) n.1) (negatives no_loops None) (none, tt)
  where
    none : IsMet no_loops (p_from_a_to_b ∷ []) (NoLoop p) → ⊥
    none h =
        no_loop_at (h.0 0)
        (Joins-named no_loops refl refl (p_from_a_to_b ∷ []) property_p (h.0 0) (h.0 0) (h.1.atoms (link property_p 0 0) (0, lit< tt, refl)))
