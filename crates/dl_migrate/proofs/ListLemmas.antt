-- Lists of which the first items that pass a test are changed, dropped or taken: their counts, lengths and order.
use Rattle.std.proofs.Common.{◌≡◌, ℕ, zero, suc, ◌+◌, ◌-◌, Bool, true, false, cond, List, [], ◌∷◌, ◌++◌, map, filter, take, drop, length, min, slice_get, Some, None, Option, refl, sym, ap, ap₂, subst, ◌∙◌, arith}
use Rattle.std.specs.List.{All, AllByRecursion}
use Rattle.std.proofs.lemmas.List.{length-take}
use Rattle.std.proofs.lemmas.List.Elements.{All-head, All-tail}
use Rattle.dl_row.specs.Lists.{count, InOrder}
use Rattle.dl_migrate.specs.Lists.{change_first, drop_first, first_that}

module _ {A : Type 0} where
  pub take-nil : (n : ℕ) → take {A = A} n [] ≡ []
  take-nil zero = refl
  take-nil (suc n) = refl

  -- of a list with a first item, so many are those of that item alone, and one less of the rest
  pub take_one : (m : ℕ) (y : A) (ys : List A) → take m (y ∷ ys) ≡ take m (y ∷ []) ++ take (m - 1) ys
  take_one zero y ys = refl
  take_one (suc m) y ys = ap (λ zs. y ∷ zs) (ap (λ k. take k ys) (omega arith) ∙ ap (λ zs. zs ++ take (suc m - 1) ys) (sym (take-nil m)))

  pub length-take_one : (m : ℕ) (y : A) → length (take m (y ∷ [])) ≡ min m 1
  length-take_one m y = length-take m (y ∷ [])

  -- what begins at an item that is read
  pub drop_read : (xs : List A) (i : ℕ) (x : A) → slice_get xs i ≡ Some x → drop i xs ≡ x ∷ drop (suc i) xs
  drop_read [] i x e = absurd (none_some e)
    where
      none_some : None ≡ Some x → ⊥
      none_some e = subst by e tt
        where
          by : Option A → Type 0
          by None = Unit {0}
          by (Some y) = ⊥
  drop_read (y ∷ xs) zero x e = ap (λ z. z ∷ xs) (ap by e)
    where
      by : Option A → A
      by None = y
      by (Some z) = z
  drop_read (y ∷ xs) (suc i) x e = drop_read xs i x e

module _ {A : Type 0} (P : A → Type 0) where
  pub each-take : (n : ℕ) (xs : List A) → AllByRecursion P xs → AllByRecursion P (take n xs)
  each-take zero xs all = tt
  each-take (suc n) [] all = tt
  each-take (suc n) (x ∷ xs) all = (all.0, each-take n xs all.1)

module _ {A : Type 0} (p : A → Bool) where
  -- what is dropped and what is left are the whole
  pub count_parts : (q : A → Bool) (n : ℕ) (xs : List A) → count q (drop_first n p xs) + count q (first_that n p xs) ≡ count q xs
  count_parts q n [] = let e = ap (count q) (take-nil n) in omega (arith, e)
  count_parts q zero (x ∷ xs) = omega arith
  count_parts q (suc n) (x ∷ xs) = by (p x) (count_parts q n xs) (count_parts q (suc n) xs)
    where
      by : (b : Bool) → count q (drop_first n p xs) + count q (take n (filter p xs)) ≡ count q xs
          → count q (drop_first (suc n) p xs) + count q (take (suc n) (filter p xs)) ≡ count q xs
          → count q (cond b (drop_first n p xs) (x ∷ drop_first (suc n) p xs)) + count q (take (suc n) (cond b (x ∷ filter p xs) (filter p xs)))
          ≡ cond (q x) 1 0 + count q xs
      by true less more = omega (arith, less)
      by false less more = omega (arith, more)

  pub length_parts : (n : ℕ) (xs : List A) → length (drop_first n p xs) + length (first_that n p xs) ≡ length xs
  length_parts n [] = let e = ap (length {A = A}) (take-nil n) in omega (arith, e)
  length_parts zero (x ∷ xs) = omega arith
  length_parts (suc n) (x ∷ xs) = by (p x) (length_parts n xs) (length_parts (suc n) xs)
    where
      by : (b : Bool) → length (drop_first n p xs) + length (take n (filter p xs)) ≡ length xs
          → length (drop_first (suc n) p xs) + length (take (suc n) (filter p xs)) ≡ length xs
          → length (cond b (drop_first n p xs) (x ∷ drop_first (suc n) p xs)) + length (take (suc n) (cond b (x ∷ filter p xs) (filter p xs)))
          ≡ suc (length xs)
      by true less more = omega (arith, less)
      by false less more = omega (arith, more)

  length-filter_count : (xs : List A) → length (filter p xs) ≡ count p xs
  length-filter_count [] = refl
  length-filter_count (x ∷ xs) = by (p x) (length-filter_count xs)
    where
      by : (b : Bool) → length (filter p xs) ≡ count p xs → length (cond b (x ∷ filter p xs) (filter p xs)) ≡ cond b 1 0 + count p xs
      by true ih = omega (arith, ih)
      by false ih = omega (arith, ih)

  pub length-first_that : (n : ℕ) (xs : List A) → length (first_that n p xs) ≡ min n (count p xs)
  length-first_that n xs = length-take n (filter p xs) ∙ ap (min n) (length-filter_count xs)

  -- items that are dropped aren't among those that another test keeps
  pub filter-drop_first : (q : A → Bool) → ((x : A) → p x ≡ true → q x ≡ false) → (n : ℕ) (xs : List A)
      → filter q (drop_first n p xs) ≡ filter q xs
  filter-drop_first q none n [] = refl
  filter-drop_first q none zero (x ∷ xs) = refl
  filter-drop_first q none (suc n) (x ∷ xs) = by (p x) refl (filter-drop_first q none n xs) (filter-drop_first q none (suc n) xs)
    where
      by : (b : Bool) → p x ≡ b → filter q (drop_first n p xs) ≡ filter q xs → filter q (drop_first (suc n) p xs) ≡ filter q xs
          → filter q (cond b (drop_first n p xs) (x ∷ drop_first (suc n) p xs)) ≡ cond (q x) (x ∷ filter q xs) (filter q xs)
      by true e less more = less ∙ sym (ap (λ b. cond b (x ∷ filter q xs) (filter q xs)) (none x e))
      by false e less more = ap₂ (λ a b. cond (q x) a b) (ap (λ ys. x ∷ ys) more) more

  module _ (P : A → Type 0) where
    each-filter : (xs : List A) → AllByRecursion P xs → AllByRecursion P (filter p xs)
    each-filter [] all = all
    each-filter (x ∷ xs) all = by (p x) (each-filter xs all.1)
      where
        by : (b : Bool) → AllByRecursion P (filter p xs) → AllByRecursion P (cond b (x ∷ filter p xs) (filter p xs))
        by true ih = (all.0, ih)
        by false ih = ih

  module _ (R : A → A → Type 0) where
    InOrder-filter : (xs : List A) → InOrder R xs → InOrder R (filter p xs)
    InOrder-filter [] all = all
    InOrder-filter (x ∷ xs) all = by (p x) (InOrder-filter xs all.1)
      where
        by : (b : Bool) → InOrder R (filter p xs) → InOrder R (cond b (x ∷ filter p xs) (filter p xs))
        by true ih = (each-filter (R x) xs all.0, ih)
        by false ih = ih

    InOrder-take : (n : ℕ) (xs : List A) → InOrder R xs → InOrder R (take n xs)
    InOrder-take zero xs all = tt
    InOrder-take (suc n) [] all = tt
    InOrder-take (suc n) (x ∷ xs) all = (each-take (R x) n xs all.0, InOrder-take n xs all.1)

    -- the first that pass stand in the same order
    pub InOrder-first_that : (n : ℕ) (xs : List A) → InOrder R xs → InOrder R (first_that n p xs)
    InOrder-first_that n xs all = InOrder-take n (filter p xs) (InOrder-filter xs all)

-- what counts from an item on that is read
pub count-drop : {A : Type 0} (p : A → Bool) (xs : List A) (i : ℕ) (x : A) → slice_get xs i ≡ Some x
    → count p (drop i xs) ≡ cond (p x) 1 0 + count p (drop (i + 1) xs)
count-drop p xs i x read = ap (count p) (drop_read xs i x read) ∙ ap (λ k. cond (p x) 1 0 + count p (drop k xs)) next
  where
    next : suc i ≡ i + 1
    next = omega arith

-- changes of the first items: what is left, and the others changed
pub count_changed : {A : Type 0} (p q : A → Bool) (f : A → A) (n : ℕ) (xs : List A)
    → count q (change_first n p f xs) ≡ count q (drop_first n p xs) + count q (map f (first_that n p xs))
count_changed p q f n [] = let e = ap (λ ys. count q (map f ys)) (take-nil n) in omega (arith, e)
count_changed p q f zero (x ∷ xs) = omega arith
count_changed {A} p q f (suc n) (x ∷ xs) = by (p x) (count_changed p q f n xs) (count_changed p q f (suc n) xs)
  where
    by : (b : Bool) → count q (change_first n p f xs) ≡ count q (drop_first n p xs) + count q (map f (take n (filter p xs)))
        → count q (change_first (suc n) p f xs) ≡ count q (drop_first (suc n) p xs) + count q (map f (take (suc n) (filter p xs)))
        → count q (cond b (f x ∷ change_first n p f xs) (x ∷ change_first (suc n) p f xs))
        ≡ count q (cond b (drop_first n p xs) (x ∷ drop_first (suc n) p xs)) + count q (map f (take (suc n) (cond b (x ∷ filter p xs) (filter p xs))))
    by true less more = omega (arith, less)
    by false less more = omega (arith, more)

-- they keep a count where each keeps the test
pub count-change_first : {A : Type 0} (p q : A → Bool) (f : A → A) (n : ℕ) (xs : List A) → All (λ x. q (f x) ≡ q x) xs
    → count q (change_first n p f xs) ≡ count q xs
count-change_first p q f n [] all = refl
count-change_first p q f zero (x ∷ xs) all = refl
count-change_first {A} p q f (suc n) (x ∷ xs) all =
    by (p x) (All-head (λ y. q (f y) ≡ q y) x xs all) (count-change_first p q f n xs (All-tail (λ y. q (f y) ≡ q y) x xs all))
    (count-change_first p q f (suc n) xs (All-tail (λ y. q (f y) ≡ q y) x xs all))
  where
    by : (b : Bool) → q (f x) ≡ q x → count q (change_first n p f xs) ≡ count q xs → count q (change_first (suc n) p f xs) ≡ count q xs
        → count q (cond b (f x ∷ change_first n p f xs) (x ∷ change_first (suc n) p f xs)) ≡ cond (q x) 1 0 + count q xs
    by true e less more = ap₂ (λ b m. cond b 1 0 + m) e less
    by false e less more = ap (λ m. cond (q x) 1 0 + m) more

-- a test that gives one answer at all items
pub count-fixed : {A : Type 0} (q : A → Bool) (b : Bool) (xs : List A) → All (λ x. q x ≡ b) xs → count q xs ≡ cond b (length xs) 0
count-fixed q b [] all = by b
  where
    by : (b : Bool) → ◌≡◌ {A = ℕ} 0 (cond b 0 0)
    by true = refl
    by false = refl
count-fixed {A} q b (x ∷ xs) all =
    ap₂ (λ c n. cond c 1 0 + n) (All-head (λ y. q y ≡ b) x xs all) (count-fixed q b xs (All-tail (λ y. q y ≡ b) x xs all)) ∙ by b
  where
    by : (b : Bool) → cond b 1 0 + cond b (length xs) 0 ≡ cond b (suc (length xs)) 0
    by true = omega arith
    by false = omega arith
