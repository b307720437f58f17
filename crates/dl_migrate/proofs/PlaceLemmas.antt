-- The places of the first items that pass a test: they ascend, are within the list, and without them it is what is left.
use Rattle.std.proofs.Common.{◌≡◌, ℕ, zero, suc, ◌+◌, ◌<◌, ◌≤◌, Bool, true, false, ◌||◌, cond, ◌==◌, List, [], ◌∷◌, take, length, min, refl, ap, ap₂, ◌∙◌, arith}
use Rattle.std.specs.List.{All, AllByRecursion, list_any}
use Rattle.std.specs.List.Sorted.{IsStrictlyIncreasing, IsStrictlySortedBy}
use Rattle.std.specs.declared.cmp.Ordering.TheVariants.{Less}
use Rattle.std.specs.Ordering.{nat_cmp}
use Rattle.std.proofs.lemmas.Bool.{ne_eqb, eq-eqb}
use Rattle.std.proofs.lemmas.Bool.Decides.{nat_tests}
use Rattle.std.proofs.lemmas.List.{length-take}
use Rattle.std.proofs.lemmas.List.Elements.{All-from_recursion, All-take}
use Rattle.std.proofs.lemmas.Map.Keys.{IsStrictlyIncreasing-from_sorted}
use Rattle.dl_row.specs.Lists.{count, left_from, left_of}
use Rattle.dl_row.proofs.OrderedLemmas.{each-weaker}
use Rattle.dl_migrate.specs.Lists.{drop_first}
use Rattle.dl_migrate.specs.Picking.{places_from}
use Rattle.dl_migrate.proofs.ListLemmas.{each-take}

module _ {A : Type 0} (p : A → Bool) where
  -- the places from a place on, and before a bound
  places_from_on : (i j : ℕ) (xs : List A) → i ≤ j → AllByRecursion (λ k. i ≤ k) (places_from j p xs)
  places_from_on i j [] h = tt
  places_from_on i j (x ∷ xs) h = by (p x) (places_from_on i (suc j) xs (omega (arith, h)))
    where
      by : (b : Bool) → AllByRecursion (λ k. i ≤ k) (places_from (suc j) p xs)
          → AllByRecursion (λ k. i ≤ k) (cond b (j ∷ places_from (suc j) p xs) (places_from (suc j) p xs))
      by true ih = (h, ih)
      by false ih = ih

  places_below : (i bound : ℕ) (xs : List A) → i + length xs ≤ bound → AllByRecursion (λ k. k < bound) (places_from i p xs)
  places_below i bound [] h = tt
  places_below i bound (x ∷ xs) h = by (p x) (places_below (suc i) bound xs (omega (arith, h)))
    where
      by : (b : Bool) → AllByRecursion (λ k. k < bound) (places_from (suc i) p xs)
          → AllByRecursion (λ k. k < bound) (cond b (i ∷ places_from (suc i) p xs) (places_from (suc i) p xs))
      by true ih = (omega (arith, h), ih)
      by false ih = ih

  pub places_within : (n : ℕ) (xs : List A) → All (λ k. k < length xs) (take n (places_from 0 p xs))
  places_within n xs =
      All-take (λ k. k < length xs) n (places_from 0 p xs)
      (All-from_recursion (λ k. k < length xs) (places_from 0 p xs) (places_below 0 (length xs) xs (omega arith)))

  less_is : (i k : ℕ) → suc i ≤ k → nat_cmp i k ≡ Less
  less_is i k h = grind (arith, nat_tests)

  places_sorted : (n i : ℕ) (xs : List A) → IsStrictlySortedBy nat_cmp (take n (places_from i p xs))
  unfolding IsStrictlySortedBy
  places_sorted zero i xs = tt
  places_sorted (suc n) i [] = tt
  places_sorted (suc n) i (x ∷ xs) = by (p x) (places_sorted n (suc i) xs) (places_sorted (suc n) (suc i) xs)
    where
      by : (b : Bool) → IsStrictlySortedBy nat_cmp (take n (places_from (suc i) p xs)) → IsStrictlySortedBy nat_cmp (take (suc n) (places_from (suc i) p xs))
          → IsStrictlySortedBy nat_cmp (take (suc n) (cond b (i ∷ places_from (suc i) p xs) (places_from (suc i) p xs)))
      by true less more = (
        each-take (λ k. nat_cmp i k ≡ Less) n (places_from (suc i) p xs)
            (each-weaker (λ k. suc i ≤ k) (λ k. nat_cmp i k ≡ Less) (places_from (suc i) p xs) (λ k h. less_is i k h) (places_from_on (suc i) (suc i) xs (omega arith))),
        less,
      )
      by false less more = more

  pub places_rise : (n : ℕ) (xs : List A) → IsStrictlyIncreasing (take n (places_from 0 p xs))
  places_rise n xs = IsStrictlyIncreasing-from_sorted (take n (places_from 0 p xs)) (places_sorted n 0 xs)

  length-places_from : (i : ℕ) (xs : List A) → length (places_from i p xs) ≡ count p xs
  length-places_from i [] = refl
  length-places_from i (x ∷ xs) = by (p x) (length-places_from (suc i) xs)
    where
      by : (b : Bool) → length (places_from (suc i) p xs) ≡ count p xs
          → length (cond b (i ∷ places_from (suc i) p xs) (places_from (suc i) p xs)) ≡ cond b 1 0 + count p xs
      by true ih = omega (arith, ih)
      by false ih = omega (arith, ih)

  pub length-places : (n : ℕ) (xs : List A) → length (take n (places_from 0 p xs)) ≡ min n (count p xs)
  length-places n xs = length-take n (places_from 0 p xs) ∙ ap (min n) (length-places_from 0 xs)

  -- ---- what is left

  left-none : (i : ℕ) (xs : List A) → left_from i [] xs ≡ xs
  left-none i [] = refl
  left-none i (x ∷ xs) = ap (λ ys. x ∷ ys) (left-none (suc i) xs)

  -- a place before the list is no place of it
  left-past : (i j : ℕ) (places : List ℕ) (xs : List A) → i < j → left_from j (i ∷ places) xs ≡ left_from j places xs
  left-past i j places [] h = refl
  left-past i j places (x ∷ xs) h =
      ap₂ (λ b ys. cond (b || list_any (λ k. k == j) places) ys (x ∷ ys)) (ne_eqb i j (λ e. omega (arith, h, e))) (left-past i (suc j) places xs (omega (arith, h)))

  none_here : (i : ℕ) (places : List ℕ) → AllByRecursion (λ k. suc i ≤ k) places → list_any (λ k. k == i) places ≡ false
  none_here i [] all = refl
  none_here i (k ∷ places) all = ap (λ b. b || list_any (λ k. k == i) places) (ne_eqb k i (λ e. (let h = all.0 in omega (arith, h, e)))) ∙ none_here i places all.1

  left_first : (n i : ℕ) (xs : List A) → left_from i (take n (places_from i p xs)) xs ≡ drop_first n p xs
  left_first n i [] = refl
  left_first zero i (x ∷ xs) = left-none i (x ∷ xs)
  left_first (suc n) i (x ∷ xs) = by (p x) (left_first n (suc i) xs) (left_first (suc n) (suc i) xs)
    where
      by : (b : Bool) → left_from (suc i) (take n (places_from (suc i) p xs)) xs ≡ drop_first n p xs
          → left_from (suc i) (take (suc n) (places_from (suc i) p xs)) xs ≡ drop_first (suc n) p xs
          → left_from i (take (suc n) (cond b (i ∷ places_from (suc i) p xs) (places_from (suc i) p xs))) (x ∷ xs)
          ≡ cond b (drop_first n p xs) (x ∷ drop_first (suc n) p xs)
      by true less more =
          let rest = take n (places_from (suc i) p xs) in
          ap (λ b. cond (b || list_any (λ k. k == i) rest) (left_from (suc i) (i ∷ rest) xs) (x ∷ left_from (suc i) (i ∷ rest) xs)) (eq-eqb i i refl)
          ∙ left-past i (suc i) rest xs (omega arith) ∙ less
      by false less more =
          let rest = take (suc n) (places_from (suc i) p xs) in
          ap (λ b. cond b (left_from (suc i) rest xs) (x ∷ left_from (suc i) rest xs))
          (none_here i rest (each-take (λ k. suc i ≤ k) (suc n) (places_from (suc i) p xs) (places_from_on (suc i) (suc i) xs (omega arith))))
          ∙ ap (λ ys. x ∷ ys) more

  -- without the places of the first that pass, the list is what is left
  pub left_is : (n : ℕ) (xs : List A) → left_of (take n (places_from 0 p xs)) xs ≡ drop_first n p xs
  left_is n xs = left_first n 0 xs
