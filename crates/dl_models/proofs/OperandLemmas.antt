-- Operands of one axiom: each with the first, and each with every later one.
use Rattle.std.proofs.Common.{◌≡◌, ℕ, zero, suc, ◌+◌, ◌-◌, ◌<◌, ◌≤◌, ◌↔◌, true, false, List, [], ◌∷◌, length, get_or, take, drop, refl, sym, ap, subst, ◌∙◌, ⊎_elim, true≢false, arith, length-drop, get_or-drop}
use Rattle.std.specs.List.{All, AllPairs, Contains}
use Rattle.std.proofs.lemmas.List.{take_all}
use Rattle.std.proofs.lemmas.List.Elements.{All-contains}
use Rattle.dl_terms.proofs.MemberLemmas.{Contains-first, Contains-later, Contains-cons}
use Rattle.dl_models.proofs.LoopLemmas.{below_or_at}

-- ---- each the same as the first

module _ {A : Type 0} (W : A → A → Type 0) (itself : (a : A) → W a a) (join : (a b c : A) → W a b → W b c → W a c) where
  abbrev pub Same : A → A → Type 0
  Same a b = W a b × W b a

  first-same : (first : A) (rest : List A) → All (Same first) rest → (a : A) → Contains (first ∷ rest) a → Same first a
  first-same first rest all a c =
      ⊎_elim (λ (e : first ≡ a). subst (Same first) e (itself first, itself first)) (λ (later : Contains rest a). All-contains (Same first) rest a all later)
      (Contains-cons first a rest c)

  pub same-true : (xs : List A) (first : A) (rest : List A) (i : ℕ) → xs ≡ first ∷ rest → length rest ≤ i → All (Same first) (take i rest)
      → (true ≡ true) ↔ ((a b : A) → Contains xs a → Contains xs b → W a b)
  same-true xs first rest i e long all =
      let each = first-same first rest (subst (All (Same first)) (take_all i rest long) all) in
      (λ t a b c d. join a first b (each a (subst (λ l. Contains l a) e c)).1 (each b (subst (λ l. Contains l b) e d)).0, λ h. refl)

  pub same-false : (xs : List A) (first : A) (rest : List A) (i : ℕ) (x : A) → xs ≡ first ∷ rest → i < length rest → x ≡ get_or rest i x → ¬ Same first x
      → (false ≡ true) ↔ ((a b : A) → Contains xs a → Contains xs b → W a b)
  same-false xs first rest i x e lt at failed =
      let one : Contains xs first = subst (λ l. Contains l first) (sym e) (Contains-first first rest) in
      let two : Contains xs x = subst (λ l. Contains l x) (sym e) (Contains-later first x rest (i, lt, sym at)) in
      (λ t. absurd (true≢false (sym t)), λ h. absurd (failed (h first x one two, h x first two one)))

-- ---- each apart from every later one

pub any_default : {A : Type 0} (xs : List A) (i : ℕ) (d e : A) → i < length xs → get_or xs i d ≡ get_or xs i e
any_default [] i d e lt = absurd (omega (arith, lt))
any_default (x ∷ xs) zero d e lt = refl
any_default (x ∷ xs) (suc i) d e lt = any_default xs i d e (omega (arith, lt))

module _ {A : Type 0} (R : A → A → Type 0) where
  later-rest : (xs : List A) (i : ℕ) → take (length xs - (i + 1)) (drop (i + 1) xs) ≡ drop (i + 1) xs
  later-rest xs i = take_all (length xs - (i + 1)) (drop (i + 1) xs) (omega (arith, length-drop (i + 1) xs))

  pub apart-more : (xs : List A) (i : ℕ) (x : A) → i < length xs → x ≡ get_or xs i x
      → ((j : ℕ) (d : A) → j < i → All (R (get_or xs j d)) (drop (j + 1) xs)) → All (R x) (take (length xs - (i + 1)) (drop (i + 1) xs))
      → (j : ℕ) (d : A) → j < i + 1 → All (R (get_or xs j d)) (drop (j + 1) xs)
  apart-more xs i x lt at each last j d lj =
      ⊎_elim (λ (early : j < i). each j d early)
      (λ (same : i ≡ j).
      subst (λ j. All (R (get_or xs j d)) (drop (j + 1) xs)) same
      (subst (λ y. All (R y) (drop (i + 1) xs)) (at ∙ any_default xs i x d lt) (subst (All (R x)) (later-rest xs i) last))) (below_or_at j i lj)

  each-later : (xs : List A) → AllPairs R xs → (j : ℕ) (d : A) → j < length xs → All (R (get_or xs j d)) (drop (j + 1) xs)
  each-later xs all j d lj k e lk =
      let long : j + 1 + k < length xs = omega (arith, lk, length-drop (j + 1) xs) in
      let up : j < j + 1 + k = omega arith in
      subst (R (get_or xs j d)) (sym (get_or-drop (j + 1) xs k e))
      (subst (λ x. R x (get_or xs (j + 1 + k) e)) (any_default xs j e d lj) (all j (j + 1 + k) e up long))

  pub apart-true : (xs : List A) (i : ℕ) → length xs ≤ i → ((j : ℕ) (d : A) → j < i → All (R (get_or xs j d)) (drop (j + 1) xs))
      → (true ≡ true) ↔ AllPairs R xs
  apart-true xs i long each = (by, λ h. refl)
    where
      by : true ≡ true → AllPairs R xs
      by t j k d lt within =
          let lj : j < i = omega (arith, lt, within, long) in
          let lk : k - (j + 1) < length (drop (j + 1) xs) = omega (arith, lt, within, length-drop (j + 1) xs) in
          let at : j + 1 + (k - (j + 1)) ≡ k = omega (arith, lt) in
          subst (R (get_or xs j d)) (get_or-drop (j + 1) xs (k - (j + 1)) d ∙ ap (λ n. get_or xs n d) at) (each j d lj (k - (j + 1)) d lk)

  pub apart-false : (xs : List A) (i : ℕ) (x : A) → i < length xs → x ≡ get_or xs i x → ¬ All (R x) (take (length xs - (i + 1)) (drop (i + 1) xs))
      → (false ≡ true) ↔ AllPairs R xs
  apart-false xs i x lt at failed = (
    λ t. absurd (true≢false (sym t)),
    λ h. absurd (failed (subst (All (R x)) (sym (later-rest xs i)) (subst (λ y. All (R y) (drop (i + 1) xs)) (sym at) (each-later xs h i x lt)))),
  )
