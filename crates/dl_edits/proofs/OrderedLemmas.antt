-- Lists in order, and what holds of each item of a list that was put in order, changed or cut.
use Rattle.std.proofs.Common.{ℕ, ◌<◌, Bool, true, false, cond, List, [], ◌∷◌, ◌++◌, filter, All, arith}
use Rattle.std.specs.List.{AllByRecursion}
use Rattle.std.specs.declared.cmp.Ordering.{Ordering}
use Rattle.std.specs.Ordering.{is_gt}
use Rattle.std.proofs.lemmas.List.Elements.{All-head, All-tail, All-cons}
use Rattle.dl_row.specs.Lists.{put, ordered, InOrder}

-- ---- each item

module _ {A : Type 0} (P : A → Type 0) where
  pub All-put : (cmp : A → A → Ordering) (x : A) (xs : List A) → P x → All P xs → All P (put cmp x xs)
  All-put cmp x [] p all = All-cons P x [] p all
  All-put cmp x (y ∷ ys) p all = by (is_gt (cmp x y)) (All-put cmp x ys p (All-tail P y ys all))
    where
      by : (b : Bool) → All P (put cmp x ys) → All P (cond b (y ∷ put cmp x ys) (x ∷ y ∷ ys))
      by true ih = All-cons P y (put cmp x ys) (All-head P y ys all) ih
      by false ih = All-cons P x (y ∷ ys) p all

  pub All-ordered : (cmp : A → A → Ordering) (xs : List A) → All P xs → All P (ordered cmp xs)
  All-ordered cmp [] all = all
  All-ordered cmp (x ∷ xs) all = All-put cmp x (ordered cmp xs) (All-head P x xs all) (All-ordered cmp xs (All-tail P x xs all))

  pub each-filter : (q : A → Bool) (xs : List A) → AllByRecursion P xs → AllByRecursion P (filter q xs)
  each-filter q [] all = all
  each-filter q (x ∷ xs) all = by (q x) (each-filter q xs all.1)
    where
      by : (b : Bool) → AllByRecursion P (filter q xs) → AllByRecursion P (cond b (x ∷ filter q xs) (filter q xs))
      by true ih = (all.0, ih)
      by false ih = ih

  pub each-push : (xs : List A) (y : A) → AllByRecursion P xs → P y → AllByRecursion P (xs ++ y ∷ [])
  each-push [] y all p = (p, tt)
  each-push (x ∷ xs) y all p = (all.0, each-push xs y all.1 p)

  pub each-last : (xs : List A) (y : A) → AllByRecursion P (xs ++ y ∷ []) → P y
  each-last [] y all = all.0
  each-last (x ∷ xs) y all = each-last xs y all.1

-- ---- order

module _ {A : Type 0} (R : A → A → Type 0) where
  pub InOrder-filter : (q : A → Bool) (xs : List A) → InOrder R xs → InOrder R (filter q xs)
  InOrder-filter q [] all = all
  InOrder-filter q (x ∷ xs) all = by (q x) (InOrder-filter q xs all.1)
    where
      by : (b : Bool) → InOrder R (filter q xs) → InOrder R (cond b (x ∷ filter q xs) (filter q xs))
      by true ih = (each-filter (R x) q xs all.0, ih)
      by false ih = ih

  pub InOrder-push : (xs : List A) (y : A) → InOrder R xs → AllByRecursion (λ x. R x y) xs → InOrder R (xs ++ y ∷ [])
  InOrder-push [] y order all = (tt, tt)
  InOrder-push (x ∷ xs) y order all = (each-push (R x) xs y order.0 all.0, InOrder-push xs y order.1 all.1)

-- in a list whose numbers rise, all but the last are below the last
pub below_last : {A : Type 0} (f : A → ℕ) (xs : List A) (y : A) (n : ℕ) → InOrder (λ d e. f d < f e) (xs ++ y ∷ []) → f y < n
    → AllByRecursion (λ x. f x < n) (xs ++ y ∷ [])
below_last f [] y n order h = (h, tt)
below_last f (x ∷ xs) y n order h =
    let l = each-last (λ z. f x < f z) xs y order.0 in
    (omega (arith, l, h), below_last f xs y n order.1 h)
