-- Depth-first numbers of small orders, by computation: a test tells which class is below which.
use Rattle.std.proofs.Common.{◌≡◌, ℕ, zero, suc, inl, inr, Bool, true, false, ◌||◌, cond, ◌==◌, filter, List, [], ◌∷◌, refl, sym, ap, subst, lit<, arith}
use Rattle.std.specs.List.{Contains, list_all, list_any}
use Rattle.std.specs.List.Sorted.{IsStrictlyIncreasing}
use Rattle.std.proofs.lemmas.Bool.{eq-eqb, eqb-true}
use Rattle.dl_terms.specs.Chain.{empty}
use Rattle.dl_terms.specs.NormalForm.{role_inclusions, concept_inclusions}
use Rattle.dl_terms.specs.declared.role.Basic.{Basic}
use Rattle.dl_terms.specs.declared.role.Basic.TheVariants as basic
use Rattle.dl_terms.specs.declared.axiom.Axiom.{Axiom}
use Rattle.dl_terms.proofs.BelowLemmas.{keeps, keeps_roles, ConceptBelow-keeps, ConceptBelow-inclusion, ConceptBelow-trans}
use Rattle.dl_terms.proofs.MemberLemmas.{Contains-nil, Contains-one, Contains-two}
use Rattle.dl_numbers.specs.DepthFirst.{AreExactly, AreEquivalent, IsChild, AreDepthFirst, IsDepthFirst, none, tree}
use Rattle.dl_numbers.proofs.TestLemmas.{Tells, tells_member, is_equivalent, is_child, members_are, children_are, roots_are}
use Rattle.dl_examples.specs.Numbers.{a, b, c, d, with_two_parents, with_a_cycle, ClassBelow}

-- ---- which class is below which

-- the class itself, or one of those above it
abbrev is_below : (ℕ → List ℕ) → ℕ → ℕ → Bool
is_below above x y = (x == y) || list_any (λ z. z == y) (above x)

abbrev passes : (ℕ → Bool) → Basic → Bool
passes t (basic.Class x) = t x
passes t (basic.SomeOf r) = false

module _ (axioms : List Axiom) (above : ℕ → List ℕ) (no_roles : role_inclusions axioms ≡ [])
    (kept_above : (x : ℕ) → list_all (keeps (passes (is_below above x))) (concept_inclusions axioms) ≡ true)
    (reached : (x y : ℕ) → Contains (above x) y → ClassBelow axioms x y) where
  itself : (x : ℕ) → is_below above x x ≡ true
  itself x = ap (λ s. s || list_any (λ z. z == x) (above x)) (eq-eqb x x refl)

  chain : (x y : ℕ) → is_below above x y ≡ true → ClassBelow axioms x y
  chain x y e = by (x == y) refl e
    where
      by : (s : Bool) → (x == y) ≡ s → (s || list_any (λ z. z == y) (above x)) ≡ true → ClassBelow axioms x y
      by true same f = subst (ClassBelow axioms x) (eqb-true x y same) empty
      by false other f = reached x y ((tells_member (above x) y).1 f)

  tells_below : (x y : ℕ) → Tells (is_below above x y) (ClassBelow axioms x y)
  tells_below x y = (
    λ h. ConceptBelow-keeps axioms (passes (is_below above x)) (ap (list_all (keeps_roles (λ r. passes (is_below above x) (basic.SomeOf r)))) no_roles) (kept_above x) h (itself x),
    chain x y,
  )

-- ---- two parents

abbrev above_one : ℕ → List ℕ
above_one x = cond (x == a) (b ∷ c ∷ []) (cond (x == d) (b ∷ []) [])

kept_one : (x : ℕ) → list_all (keeps (passes (is_below above_one x))) (concept_inclusions with_two_parents) ≡ true
kept_one x = by (x == a) (x == d) refl refl
  where
    by : (s t : Bool) → (x == a) ≡ s → (x == d) ≡ t → list_all (keeps (passes (is_below above_one x))) (concept_inclusions with_two_parents) ≡ true
    by true t e f = rw (eqb-true x a e) refl
    by false true e f = rw (eqb-true x d f) refl
    by false false e f = rw (e, f) refl

reached_one : (x y : ℕ) → Contains (above_one x) y → ClassBelow with_two_parents x y
reached_one x y h = by (x == a) (x == d) refl refl h
  where
    by : (s t : Bool) → (x == a) ≡ s → (x == d) ≡ t → Contains (cond s (b ∷ c ∷ []) (cond t (b ∷ []) [])) y → ClassBelow with_two_parents x y
    by true t e f g = subst (λ z. ClassBelow with_two_parents z y) (sym (eqb-true x a e)) (elim (Contains-two b c y g) [
      | inl same ↦ subst (ClassBelow with_two_parents a) same (ConceptBelow-inclusion with_two_parents (0, lit< tt, refl))
      | inr same ↦ subst (ClassBelow with_two_parents a) same (ConceptBelow-inclusion with_two_parents (1, lit< tt, refl))
    ])
    by false true e f g = subst (λ z. ClassBelow with_two_parents z y) (sym (eqb-true x d f))
        (subst (ClassBelow with_two_parents d) (Contains-one b y g) (ConceptBelow-inclusion with_two_parents (2, lit< tt, refl)))
    by false false e f g = absurd (Contains-nil y g)

abbrev four : List ℕ
four = a ∷ b ∷ c ∷ d ∷ []

four-up : IsStrictlyIncreasing four
four-up zero h = lit< tt
four-up (suc zero) h = lit< tt
four-up (suc (suc zero)) h = lit< tt
four-up (suc (suc (suc k))) h = absurd (omega arith)

tells_one : (x y : ℕ) → Tells (is_below above_one x y) (ClassBelow with_two_parents x y)
tells_one = tells_below with_two_parents above_one refl kept_one reached_one

pub two_parents : IsDepthFirst four (ClassBelow with_two_parents) (b ∷ a ∷ d ∷ c ∷ [])
two_parents = record {
  roots = b ∷ c ∷ [];
  are = roots_are four four-up (ClassBelow with_two_parents) (is_below above_one) tells_one;
  order =
      tree b (c ∷ []) (b ∷ []) (a ∷ d ∷ []) (a ∷ d ∷ []) (c ∷ []) (members b) (children b)
      (leaf a (d ∷ []) (d ∷ []) (members a) (children a) (leaf d [] [] (members d) (children d) none))
      (leaf c [] [] (members c) (children c) none);
}
  where
    members : (x : ℕ) → AreExactly four (AreEquivalent four (ClassBelow with_two_parents) x) (filter (is_equivalent four four-up (ClassBelow with_two_parents) (is_below above_one) tells_one x) four)
    members = members_are four four-up (ClassBelow with_two_parents) (is_below above_one) tells_one

    children : (x : ℕ) → AreExactly four (IsChild four (ClassBelow with_two_parents) x) (filter (is_child four four-up (ClassBelow with_two_parents) (is_below above_one) tells_one x) four)
    children = children_are four four-up (ClassBelow with_two_parents) (is_below above_one) tells_one

    -- a class of one name, without children
    leaf : (x : ℕ) (classes others : List ℕ) → AreExactly four (AreEquivalent four (ClassBelow with_two_parents) x) (x ∷ [])
        → AreExactly four (IsChild four (ClassBelow with_two_parents) x) [] → AreDepthFirst four (ClassBelow with_two_parents) classes others
        → AreDepthFirst four (ClassBelow with_two_parents) (x ∷ classes) (x ∷ others)
    leaf x classes others m k rest = tree x classes (x ∷ []) [] [] others m k none rest

-- ---- a cycle

abbrev above_two : ℕ → List ℕ
above_two x = cond (x == a) (c ∷ []) (cond (x == c) (a ∷ []) (cond (x == b) (a ∷ c ∷ []) []))

kept_two : (x : ℕ) → list_all (keeps (passes (is_below above_two x))) (concept_inclusions with_a_cycle) ≡ true
kept_two x = by (x == a) (x == c) (x == b) refl refl refl
  where
    by : (s t u : Bool) → (x == a) ≡ s → (x == c) ≡ t → (x == b) ≡ u → list_all (keeps (passes (is_below above_two x))) (concept_inclusions with_a_cycle) ≡ true
    by true t u e f g = rw (eqb-true x a e) refl
    by false true u e f g = rw (eqb-true x c f) refl
    by false false true e f g = rw (eqb-true x b g) refl
    by false false false e f g = rw (e, f, g) refl

reached_two : (x y : ℕ) → Contains (above_two x) y → ClassBelow with_a_cycle x y
reached_two x y h = by (x == a) (x == c) (x == b) refl refl refl h
  where
    up : ClassBelow with_a_cycle b a
    up = ConceptBelow-inclusion with_a_cycle (0, lit< tt, refl)

    across : ClassBelow with_a_cycle a c
    across = ConceptBelow-inclusion with_a_cycle (1, lit< tt, refl)

    back : ClassBelow with_a_cycle c a
    back = ConceptBelow-inclusion with_a_cycle (2, lit< tt, refl)

    by : (s t u : Bool) → (x == a) ≡ s → (x == c) ≡ t → (x == b) ≡ u → Contains (cond s (c ∷ []) (cond t (a ∷ []) (cond u (a ∷ c ∷ []) []))) y
        → ClassBelow with_a_cycle x y
    by true t u e f g i = subst (λ z. ClassBelow with_a_cycle z y) (sym (eqb-true x a e)) (subst (ClassBelow with_a_cycle a) (Contains-one c y i) across)
    by false true u e f g i = subst (λ z. ClassBelow with_a_cycle z y) (sym (eqb-true x c f)) (subst (ClassBelow with_a_cycle c) (Contains-one a y i) back)
    by false false true e f g i = subst (λ z. ClassBelow with_a_cycle z y) (sym (eqb-true x b g)) (elim (Contains-two a c y i) [
      | inl same ↦ subst (ClassBelow with_a_cycle b) same up
      | inr same ↦ subst (ClassBelow with_a_cycle b) same (ConceptBelow-trans with_a_cycle up across)
    ])
    by false false false e f g i = absurd (Contains-nil y i)

abbrev three : List ℕ
three = a ∷ b ∷ c ∷ []

three-up : IsStrictlyIncreasing three
three-up zero h = lit< tt
three-up (suc zero) h = lit< tt
three-up (suc (suc k)) h = absurd (omega arith)

tells_two : (x y : ℕ) → Tells (is_below above_two x y) (ClassBelow with_a_cycle x y)
tells_two = tells_below with_a_cycle above_two refl kept_two reached_two

pub a_cycle : IsDepthFirst three (ClassBelow with_a_cycle) (a ∷ c ∷ b ∷ [])
a_cycle = record {
  roots = a ∷ [];
  are = roots_are three three-up (ClassBelow with_a_cycle) (is_below above_two) tells_two;
  order =
      tree a [] (a ∷ c ∷ []) (b ∷ []) (b ∷ []) []
      (members_are three three-up (ClassBelow with_a_cycle) (is_below above_two) tells_two a)
      (children_are three three-up (ClassBelow with_a_cycle) (is_below above_two) tells_two a)
      (tree b [] (b ∷ []) [] [] []
      (members_are three three-up (ClassBelow with_a_cycle) (is_below above_two) tells_two b)
      (children_are three three-up (ClassBelow with_a_cycle) (is_below above_two) tells_two b) none none)
      none;
}
