-- Parts of an interpretation that fit, and names that ascend.
use Rattle.std.proofs.Common.{◌≡◌, ℕ, zero, suc, ◌+◌, ◌-◌, ◌<◌, ◌≤◌, ◌↔◌, Bool, true, false, List, length, get_or, refl, sym, ap, subst, ◌∙◌, true≢false, arith, nat_lt, ltb-true, ltb-false}
use Rattle.std.specs.List.{AllPairs, Contains}
use Rattle.std.proofs.lemmas.List.Elements.{All-contains}
use Rattle.dl_models.specs.Finite.{IsInterpretation}
use Rattle.dl_models.specs.Parts.{AreParts}
use Rattle.dl_models.proofs.OperandLemmas.{any_default}

abbrev first_at : List (ℕ × ℕ) → ℕ → ℕ
first_at ps k = (get_or ps k (0, 0)).0

-- ---- each below the next

rises : (ps : List (ℕ × ℕ)) (end : ℕ) → ((k : ℕ) → k + 1 < end → first_at ps k < first_at ps (k + 1)) → (i n : ℕ) → i + n + 1 < end
    → first_at ps i < first_at ps (i + n + 1)
rises ps end next i zero lt =
    let same : i + 1 ≡ i + 0 + 1 = omega arith in
    subst (λ k. first_at ps i < first_at ps k) same (next i (omega (arith, lt)))
rises ps end next i (suc n) lt =
    let before = rises ps end next i n (omega (arith, lt)) in
    let last = next (i + n + 1) (omega (arith, lt)) in
    let same : i + n + 1 + 1 ≡ i + suc n + 1 = omega arith in
    subst (λ k. first_at ps i < first_at ps k) same (omega (arith, before, last))

pub ascend-true : (ps : List (ℕ × ℕ)) (i : ℕ) → length ps ≤ i → ((k : ℕ) → k + 1 < i → first_at ps k < first_at ps (k + 1))
    → (true ≡ true) ↔ AllPairs (λ p q. p.0 < q.0) ps
ascend-true ps end long next = (by, λ h. refl)
  where
    by : true ≡ true → AllPairs (λ p q. p.0 < q.0) ps
    by t i j d lt within =
        let at : i + (j - i - 1) + 1 ≡ j = omega (arith, lt) in
        let fits : i + (j - i - 1) + 1 < end = omega (arith, at, within, long) in
        let up = subst (λ k. first_at ps i < first_at ps k) at (rises ps end next i (j - i - 1) fits) in
        let one : first_at ps i ≡ (get_or ps i d).0 = ap (λ p. p.0) (any_default ps i (0, 0) d (omega (arith, lt, within))) in
        let two : first_at ps j ≡ (get_or ps j d).0 = ap (λ p. p.0) (any_default ps j (0, 0) d within) in
        subst (λ x. x < (get_or ps j d).0) one (subst (λ y. first_at ps i < y) two up)

pub ascend-false : (ps : List (ℕ × ℕ)) (i : ℕ) → 1 ≤ i → i < length ps → first_at ps i ≤ first_at ps (i - 1)
    → (false ≡ true) ↔ AllPairs (λ p q. p.0 < q.0) ps
ascend-false ps i least lt falls =
    (λ t. absurd (true≢false (sym t)), λ h. let up = h (i - 1) i (0, 0) (omega (arith, least)) lt in absurd (omega (arith, up, falls)))

pub ascend-more : (ps : List (ℕ × ℕ)) (i : ℕ) → ((k : ℕ) → k + 1 < i → first_at ps k < first_at ps (k + 1)) → first_at ps (i - 1) < first_at ps i
    → 1 ≤ i → (k : ℕ) → k + 1 < i + 1 → first_at ps k < first_at ps (k + 1)
ascend-more ps i next last least k lt = by (nat_lt (k + 1) i) refl
  where
    by : (b : Bool) → nat_lt (k + 1) i ≡ b → first_at ps k < first_at ps (k + 1)
    by true e = next k (ltb-true (k + 1) i e)
    by false e =
        let long = ltb-false (k + 1) i e in
        let one : i - 1 ≡ k = omega (arith, long, lt, least) in
        let two : i ≡ k + 1 = omega (arith, long, lt, least) in
        subst (λ a. first_at ps a < first_at ps (k + 1)) one (subst (λ b. first_at ps (i - 1) < first_at ps b) two last)

-- ---- parts

module _ (size : ℕ) (names classes : List (ℕ × ℕ)) (links : List (ℕ × ℕ × ℕ)) where
  pub parts-not : ¬ AreParts size names classes links → (false ≡ true) ↔ AreParts size names classes links
  parts-not never = (λ t. absurd (true≢false (sym t)), λ h. absurd (never h))

  -- one name has one element
  once : AllPairs (λ p q. p.0 < q.0) names → (a x y : ℕ) → Contains names (a, x) → Contains names (a, y) → x ≡ y
  once up a x y c d = by (nat_lt c.0 d.0) refl (nat_lt d.0 c.0) refl
    where
      shown : (z : ℕ) (e : Contains names (a, z)) → get_or names e.0 (0, 0) ≡ (a, z)
      shown z e = any_default names e.0 (0, 0) (a, z) e.1 ∙ e.2

      by : (b : Bool) → nat_lt c.0 d.0 ≡ b → (e : Bool) → nat_lt d.0 c.0 ≡ e → x ≡ y
      by true f e g =
          let lt = up c.0 d.0 (0, 0) (ltb-true c.0 d.0 f) d.1 in
          let one = ap (λ p. p.0) (shown x c) in
          let two = ap (λ p. p.0) (shown y d) in
          absurd (omega (arith, lt, one, two))
      by false f true g =
          let lt = up d.0 c.0 (0, 0) (ltb-true d.0 c.0 g) c.1 in
          let one = ap (λ p. p.0) (shown x c) in
          let two = ap (λ p. p.0) (shown y d) in
          absurd (omega (arith, lt, one, two))
      by false f false g =
          let same : c.0 ≡ d.0 = omega (arith, ltb-false c.0 d.0 f, ltb-false d.0 c.0 g) in
          ap (λ p. p.1) (sym (shown x c) ∙ ap (λ k. get_or names k (0, 0)) same ∙ shown y d)

  pub parts-fit : AreParts size names classes links → IsInterpretation size names classes links
  parts-fit h = record {
    some_element = h.some_element;
    one_element = once h.ascending;
    of_names = λ a x c. All-contains (λ p. p.1 < size) names (a, x) h.of_names c;
    of_classes = λ a x c. All-contains (λ p. p.1 < size) classes (a, x) h.of_classes c;
    of_links = λ p x y c. All-contains (λ l. (l.1 < size) × (l.2 < size)) links (p, x, y) h.of_links c;
  }
