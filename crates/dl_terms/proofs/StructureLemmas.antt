-- Laws of the canonical structure: what holds at an element, and what joins it to another.
use Rattle.std.proofs.Common.{◌≡◌, ℕ, List, [], ◌∷◌, ◌++◌, ◌⊎◌, ◌↔◌, length, length-append, refl, sym, ap, subst, inl, inr, arith}
use Rattle.std.proofs.lemmas.List.{same_from_push}
use Rattle.dl_terms.specs.Roles.{inverse_of}
use Rattle.dl_terms.specs.Below.{ConceptBelow}
use Rattle.dl_terms.specs.Chain.{empty}
use Rattle.dl_terms.specs.Structure.{HoldsAtName, by_class, by_source, by_target, Element, individual, child, Follows, IsWordAt, IsElement, HoldsAt, at_name, at_end, Joins, by_fact, by_fact_turned, to_child, from_child}
use Rattle.dl_terms.specs.declared.role.Role.{Role}
use Rattle.dl_terms.specs.declared.role.Basic.{Basic}
use Rattle.dl_terms.specs.declared.role.Basic.TheVariants.{SomeOf}
use Rattle.dl_terms.specs.declared.axiom.Axiom.{Axiom}
use Rattle.dl_terms.specs.declared.axiom.Fact.{Fact}
use Rattle.dl_terms.proofs.BelowLemmas.{ConceptBelow-trans, ConceptBelow-SomeOf, RoleBelow-turned}

-- ---- words and children

pub child-word : (x : Element) (r : Role) → x.word ++ r ∷ [] ≡ [] → ⊥
child-word x r e = let l = ap length e in omega (arith, l, length-append x.word (r ∷ []))

-- no individual is a child
pub individual-child : (a : ℕ) (x : Element) (r : Role) → individual a ≡ child x r → ⊥
individual-child a x r e = child-word x r (sym (ap (λ z. z.word) e))

-- no element is its own child
pub child-itself : (x : Element) (r : Role) → x ≡ child x r → ⊥
child-itself x r e = let l = ap (λ z. length z.word) e in omega (arith, l, length-append x.word (r ∷ []))

-- a child has one parent, and one role leads to it
pub child-injective : (x y : Element) (r s : Role) → child x r ≡ child y s → (x ≡ y) × (r ≡ s)
child-injective x y r s e =
    let words = same_from_push x.word y.word r s (ap (λ z. z.word) e) in
    (λ i. record { name = (e i).name; word = words.0 i }, words.1)

snoc_cases : (word : List Role) → (word ≡ []) ⊎ ((w : List Role) × (t : Role) × (word ≡ w ++ t ∷ []))
snoc_cases [] = inl refl
snoc_cases (r ∷ word) = by (snoc_cases word)
  where
    by : (word ≡ []) ⊎ ((w : List Role) × (t : Role) × (word ≡ w ++ t ∷ [])) → (r ∷ word ≡ []) ⊎ ((w : List Role) × (t : Role) × (r ∷ word ≡ w ++ t ∷ []))
    by (inl e) = inr ([], r, ap (λ z. r ∷ z) e)
    by (inr h) = inr (r ∷ h.0, h.1, ap (λ z. r ∷ z) h.2)

-- an element has the empty word, or is a child
pub individual_or_child : (x : Element) → (x.word ≡ []) ⊎ ((y : Element) × (t : Role) × (x ≡ child y t))
individual_or_child x = by (snoc_cases x.word)
  where
    by : (x.word ≡ []) ⊎ ((w : List Role) × (t : Role) × (x.word ≡ w ++ t ∷ [])) → (x.word ≡ []) ⊎ ((y : Element) × (t : Role) × (x ≡ child y t))
    by (inl e) = inl e
    by (inr h) = inr (record { name = x.name; word = h.0 }, h.1, λ i. record { name = x.name; word = h.2 i })

module _ (axioms : List Axiom) (facts : List Fact) where
  -- ---- what is above what holds, holds

  pub HoldsAtName-below : (b c : Basic) (a : ℕ) → ConceptBelow axioms b c → HoldsAtName axioms facts b a → HoldsAtName axioms facts c a
  HoldsAtName-below b c a up (by_class h d) = by_class h (ConceptBelow-trans axioms d up)
  HoldsAtName-below b c a up (by_source h d) = by_source h (ConceptBelow-trans axioms d up)
  HoldsAtName-below b c a up (by_target h d) = by_target h (ConceptBelow-trans axioms d up)

  pub HoldsAt-below : (b c : Basic) (x : Element) → ConceptBelow axioms b c → HoldsAt axioms facts b x → HoldsAt axioms facts c x
  HoldsAt-below b c x up (at_name e h) = at_name e (HoldsAtName-below b c x.name up h)
  HoldsAt-below b c x up (at_end y r e d) = at_end y r e (ConceptBelow-trans axioms d up)

  -- ---- a child is an element exactly where "some r" holds at its parent

  Follows-grow : (u : Role) (w : List Role) (t r : Role) → Follows axioms u (w ++ t ∷ []) → ConceptBelow axioms (SomeOf (inverse_of t)) (SomeOf r)
      → Follows axioms u ((w ++ t ∷ []) ++ r ∷ [])
  Follows-grow u [] t r h c = (h.0, (c, tt))
  Follows-grow u (v ∷ w) t r h c = (h.0, Follows-grow v w t r h.1 c)

  Follows-last : (u : Role) (w : List Role) (t r : Role) → Follows axioms u ((w ++ t ∷ []) ++ r ∷ [])
      → ConceptBelow axioms (SomeOf (inverse_of t)) (SomeOf r)
  Follows-last u [] t r h = h.1.0
  Follows-last u (v ∷ w) t r h = Follows-last v w t r h.1

  word_grow : (a : ℕ) (w : List Role) (t r : Role) → IsWordAt axioms facts a (w ++ t ∷ []) → ConceptBelow axioms (SomeOf (inverse_of t)) (SomeOf r)
      → IsWordAt axioms facts a ((w ++ t ∷ []) ++ r ∷ [])
  word_grow a [] t r h c = (h.0, (c, tt))
  word_grow a (v ∷ w) t r h c = (h.0, Follows-grow v w t r h.1 c)

  word_last : (a : ℕ) (w : List Role) (t r : Role) → IsWordAt axioms facts a ((w ++ t ∷ []) ++ r ∷ [])
      → ConceptBelow axioms (SomeOf (inverse_of t)) (SomeOf r)
  word_last a [] t r h = h.1.0
  word_last a (v ∷ w) t r h = Follows-last v w t r h.1

  pub IsElement-child : (x : Element) (r : Role) → IsElement axioms facts x → HoldsAt axioms facts (SomeOf r) x → IsElement axioms facts (child x r)
  IsElement-child x r h (at_name e d) = subst (λ w. IsWordAt axioms facts x.name (w ++ r ∷ [])) (sym e) (d, tt)
  IsElement-child x r h (at_end y t e c) =
      subst (λ z. IsElement axioms facts (child z r)) (sym e) (word_grow y.name y.word t r (subst (IsElement axioms facts) e h) c)

  pub HoldsAt-child : (x : Element) (r : Role) → IsElement axioms facts (child x r) → HoldsAt axioms facts (SomeOf r) x
  HoldsAt-child x r h = by (individual_or_child x)
    where
      by : (x.word ≡ []) ⊎ ((y : Element) × (t : Role) × (x ≡ child y t)) → HoldsAt axioms facts (SomeOf r) x
      by (inl e) = let d = subst (λ w. IsWordAt axioms facts x.name (w ++ r ∷ [])) e h in at_name e d.0
      by (inr p) = at_end p.0 p.1 p.2 (word_last p.0.name p.0.word p.1 r (subst (λ z. IsElement axioms facts (child z r)) p.2 h))

  -- "some r" holds at an element exactly where r joins it to some element
  pub HoldsAt-Joins : (r : Role) (x : Element) → IsElement axioms facts x
      → HoldsAt axioms facts (SomeOf r) x ↔ ((y : Element) × IsElement axioms facts y × Joins axioms facts r x y)
  HoldsAt-Joins r x element = (λ h. (child x r, IsElement-child x r element h, to_child refl empty), λ p. by p.0 p.1 p.2)
    where
      by : (y : Element) → IsElement axioms facts y → Joins axioms facts r x y → HoldsAt axioms facts (SomeOf r) x
      by y h (by_fact e f c d) = at_name e (by_source c (ConceptBelow-SomeOf axioms d))
      by y h (by_fact_turned e f c d) = at_name e (by_target c (ConceptBelow-SomeOf axioms d))
      by y h (to_child {r = t} e d) =
          HoldsAt-below (SomeOf t) (SomeOf r) x (ConceptBelow-SomeOf axioms d) (HoldsAt-child x t (subst (IsElement axioms facts) e h))
      by y h (from_child {r = t} e d) = at_end y t e (ConceptBelow-SomeOf axioms (RoleBelow-turned axioms d))
