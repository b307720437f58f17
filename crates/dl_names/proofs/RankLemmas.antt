-- A list whose first items are changed, one after the other.
use Rattle.std.proofs.Common.{◌≡◌, ℕ, zero, suc, ◌<◌, List, [], ◌∷◌, ◌++◌, length, map, take, drop, set, get_or, subst, sym, ap, ◌∙◌, refl, arith}
use Rattle.std.specs.List.{All, flat_map}
use Rattle.std.proofs.lemmas.List.{take-append-le, take_all}
use Rattle.std.proofs.lemmas.List.Elements.{All-nil, All-cons, All-head, All-tail}

module _ {A : Type 0} (f : A → A) where
  pub get_or-changed : (xs : List A) (i : ℕ) (d : A) → get_or (map f (take i xs) ++ drop i xs) i d ≡ get_or xs i d
  get_or-changed [] zero d = refl
  get_or-changed [] (suc i) d = refl
  get_or-changed (x ∷ xs) zero d = refl
  get_or-changed (x ∷ xs) (suc i) d = get_or-changed xs i d

  pub set-changed : (xs : List A) (i : ℕ) (d : A) → i < length xs
      → set (map f (take i xs) ++ drop i xs) i (f (get_or xs i d)) ≡ map f (take (suc i) xs) ++ drop (suc i) xs
  set-changed [] i d h = absurd (omega arith)
  set-changed (x ∷ xs) zero d h = refl
  set-changed (x ∷ xs) (suc i) d h = ap (λ rest. f x ∷ rest) (set-changed xs i d (omega arith))

  -- a list that is written over as a whole
  pub written_whole : (xs ys : List A) (n : ℕ) → n ≡ length xs → length ys ≡ length xs → take n (ys ++ drop (length ys) xs) ≡ ys
  written_whole xs ys n is as_long =
      take-append-le n ys (drop (length ys) xs) (omega arith) ∙ take_all n ys (omega arith)

-- ---- names of lists and of their items

abbrev pub AreBelow : ℕ → List ℕ → Type 0
AreBelow count = All (λ n. n < count)

module _ (count : ℕ) where
  pub below_left : (xs ys : List ℕ) → AreBelow count (xs ++ ys) → AreBelow count xs
  below_left [] ys h = All-nil (λ n. n < count)
  below_left (x ∷ xs) ys h =
      All-cons (λ n. n < count) x xs (All-head (λ n. n < count) x (xs ++ ys) h)
      (below_left xs ys (All-tail (λ n. n < count) x (xs ++ ys) h))

  pub below_right : (xs ys : List ℕ) → AreBelow count (xs ++ ys) → AreBelow count ys
  below_right [] ys h = h
  below_right (x ∷ xs) ys h = below_right xs ys (All-tail (λ n. n < count) x (xs ++ ys) h)

module _ {X : Type 0} (f : X → List ℕ) (count : ℕ) where
  below_each : (xs : List X) → AreBelow count (flat_map f xs) → All (λ x. AreBelow count (f x)) xs
  below_each [] h = All-nil (λ x. AreBelow count (f x))
  below_each (x ∷ xs) h =
      All-cons (λ x. AreBelow count (f x)) x xs (below_left count (f x) (flat_map f xs) h)
      (below_each xs (below_right count (f x) (flat_map f xs) h))

  -- of items that are shown as a list
  pub items_below : (numbers : List ℕ) (xs shown : List X) → numbers ≡ flat_map f xs → shown ≡ xs → AreBelow count numbers
      → All (λ x. AreBelow count (f x)) shown
  items_below numbers xs shown names is h =
      subst (All (λ x. AreBelow count (f x))) (sym is) (below_each xs (subst (AreBelow count) names h))
