-- Lists in order: what holds of each item, lists put in order, and that counts determine a list in order.
use Rattle.std.proofs.Common.{◌≡◌, ℕ, zero, suc, ◌+◌, ◌≤◌, ◌<◌, ◌⊎◌, Bool, true, false, cond, ◌==◌, List, [], ◌∷◌, ◌++◌, length, get_or, drop, Contains, refl, sym, ap, ap₂, subst, ◌∙◌, inl, inr, true≢false, arith}
use Rattle.std.specs.List.{AllByRecursion, list_any}
use Rattle.std.specs.List.Sorted.{IsPermutation, IsSorted}
use Rattle.std.specs.declared.cmp.Ordering.{Ordering}
use Rattle.std.specs.declared.cmp.Ordering.TheVariants.{Less, Equal, Greater}
use Rattle.std.specs.Ordering.{is_eq, is_lt, is_gt, ordering_reverse}
use Rattle.std.specs.Cmp.{IsTotalOrder, upto}
use Rattle.std.proofs.lemmas.List.Elements.{All-from_recursion}
use Rattle.dl_terms.proofs.OrderLemmas.{IsLinear}
use Rattle.dl_terms.proofs.MemberLemmas.{Contains-cons, All-Contains}
use Rattle.dl_row.specs.Lists.{count, put, ordered, left_from, InOrder, Ascends}
use Rattle.dl_row.proofs.CountLemmas.{count-append, count-middle, count-ordered, count-permutation, same_itself, same_is, count_there}

-- ---- each item

module _ {A : Type 0} (P : A → Type 0) where
  pub each-append : (xs ys : List A) → AllByRecursion P xs → AllByRecursion P ys → AllByRecursion P (xs ++ ys)
  each-append [] ys a b = b
  each-append (x ∷ xs) ys a b = (a.0, each-append xs ys a.1 b)

  each-put : (cmp : A → A → Ordering) (x : A) (xs : List A) → P x → AllByRecursion P xs → AllByRecursion P (put cmp x xs)
  each-put cmp x [] p all = (p, tt)
  each-put cmp x (y ∷ ys) p all = by (is_gt (cmp x y)) (each-put cmp x ys p all.1)
    where
      by : (b : Bool) → AllByRecursion P (put cmp x ys) → AllByRecursion P (cond b (y ∷ put cmp x ys) (x ∷ y ∷ ys))
      by true ih = (all.0, ih)
      by false ih = (p, all)

  pub each-ordered : (cmp : A → A → Ordering) (xs : List A) → AllByRecursion P xs → AllByRecursion P (ordered cmp xs)
  each-ordered cmp [] all = tt
  each-ordered cmp (x ∷ xs) all = each-put cmp x (ordered cmp xs) all.0 (each-ordered cmp xs all.1)

  pub each-left_from : (i : ℕ) (places : List ℕ) (xs : List A) → AllByRecursion P xs → AllByRecursion P (left_from i places xs)
  each-left_from i places [] all = tt
  each-left_from i places (x ∷ xs) all = by (list_any (λ p. p == i) places) (each-left_from (suc i) places xs all.1)
    where
      by : (b : Bool) → AllByRecursion P (left_from (suc i) places xs)
          → AllByRecursion P (cond b (left_from (suc i) places xs) (x ∷ left_from (suc i) places xs))
      by true ih = ih
      by false ih = (all.0, ih)

  -- at an index
  pub each_at : (xs : List A) (k : ℕ) (d : A) → AllByRecursion P xs → k < length xs → P (get_or xs k d)
  each_at [] k d all h = absurd (omega arith)
  each_at (x ∷ xs) zero d all h = all.0
  each_at (x ∷ xs) (suc k) d all h = each_at xs k d all.1 (omega arith)

pub each-weaker : {A : Type 0} (P Q : A → Type 0) (xs : List A) → ((x : A) → P x → Q x) → AllByRecursion P xs → AllByRecursion Q xs
each-weaker P Q [] h all = tt
each-weaker P Q (x ∷ xs) h all = (h x all.0, each-weaker P Q xs h all.1)

-- ---- order

module _ {A : Type 0} (R : A → A → Type 0) where
  pub InOrder-drop : (n : ℕ) (xs : List A) → InOrder R xs → InOrder R (drop n xs)
  InOrder-drop zero xs all = all
  InOrder-drop (suc n) [] all = tt
  InOrder-drop (suc n) (x ∷ xs) all = InOrder-drop n xs all.1

  pub InOrder-left_from : (i : ℕ) (places : List ℕ) (xs : List A) → InOrder R xs → InOrder R (left_from i places xs)
  InOrder-left_from i places [] all = tt
  InOrder-left_from i places (x ∷ xs) all = by (list_any (λ p. p == i) places) (InOrder-left_from (suc i) places xs all.1)
    where
      by : (b : Bool) → InOrder R (left_from (suc i) places xs)
          → InOrder R (cond b (left_from (suc i) places xs) (x ∷ left_from (suc i) places xs))
      by true ih = ih
      by false ih = (each-left_from (R x) (suc i) places xs all.0, ih)

  -- at two indices
  pub InOrder_at : (xs : List A) (i j : ℕ) (d : A) → InOrder R xs → i < j → j < length xs → R (get_or xs i d) (get_or xs j d)
  InOrder_at [] i j d all lt h = absurd (omega arith)
  InOrder_at (x ∷ xs) i zero d all lt h = absurd (omega arith)
  InOrder_at (x ∷ xs) zero (suc j) d all lt h = each_at (R x) xs j d all.0 (omega arith)
  InOrder_at (x ∷ xs) (suc i) (suc j) d all lt h = InOrder_at xs i j d all.1 (omega arith) (omega arith)

pub InOrder-weaker : {A : Type 0} (R S : A → A → Type 0) (xs : List A) → ((x y : A) → R x y → S x y) → InOrder R xs → InOrder S xs
InOrder-weaker R S [] h all = tt
InOrder-weaker R S (x ∷ xs) h all = (each-weaker (R x) (S x) xs (h x) all.0, InOrder-weaker R S xs h all.1)

-- ---- a total order

module _ {A : Type 0} {cmp : A → A → Ordering} (total : IsTotalOrder cmp) where
  reverse_gt : (o p : Ordering) → p ≡ ordering_reverse o → is_gt o ≡ true → is_gt p ≡ false
  reverse_gt Less p e h = absurd (true≢false (sym h))
  reverse_gt Equal p e h = absurd (true≢false (sym h))
  reverse_gt Greater p e h = ap is_gt e

  reverse_lt : (o p : Ordering) → p ≡ ordering_reverse o → is_lt o ≡ false → is_gt p ≡ false
  reverse_lt Less p e h = absurd (true≢false h)
  reverse_lt Equal p e h = ap is_gt e
  reverse_lt Greater p e h = ap is_gt e

  lt_gt : (o : Ordering) → is_lt o ≡ true → is_gt o ≡ false
  lt_gt Less e = refl
  lt_gt Equal e = absurd (true≢false (sym e))
  lt_gt Greater e = absurd (true≢false (sym e))

  -- what is less isn't greater, and what isn't less isn't exceeded
  pub less_not_greater : (x y : A) → is_lt (cmp x y) ≡ true → is_gt (cmp x y) ≡ false
  less_not_greater x y e = lt_gt (cmp x y) e

  pub not_less : (x y : A) → is_lt (cmp x y) ≡ false → is_gt (cmp y x) ≡ false
  not_less x y e = reverse_lt (cmp x y) (cmp y x) (total.antisymm y x) e

  pub not_greater : (x y : A) → is_gt (cmp x y) ≡ false → is_lt (cmp y x) ≡ false
  not_greater x y e = by (cmp x y) (cmp y x) (total.antisymm y x) e
    where
      by : (o p : Ordering) → p ≡ ordering_reverse o → is_gt o ≡ false → is_lt p ≡ false
      by Less p e h = ap is_lt e
      by Equal p e h = ap is_lt e
      by Greater p e h = absurd (true≢false h)

  -- what isn't exceeded by a lesser one is less
  pub less_down : (x y z : A) → is_gt (cmp x y) ≡ false → is_lt (cmp y z) ≡ true → is_lt (cmp x z) ≡ true
  less_down x y z g h = by (cmp x z) refl
    where
      flipped : (o p : Ordering) → p ≡ ordering_reverse o → is_lt o ≡ false → is_gt p ≡ false
      flipped = reverse_lt

      by : (o : Ordering) → cmp x z ≡ o → is_lt o ≡ true
      by Less e = refl
      by Equal e = absurd (true≢false (sym h ∙ not_greater z y (upto total z x y (ap is_gt (total.antisymm z x ∙ ap ordering_reverse e)) g)))
      by Greater e = absurd (true≢false (sym h ∙ not_greater z y (upto total z x y (ap is_gt (total.antisymm z x ∙ ap ordering_reverse e)) g)))

  pub less_up : (x y z : A) → is_gt (cmp x y) ≡ false → is_lt (cmp x z) ≡ false → is_lt (cmp y z) ≡ false
  less_up x y z g h = by (is_lt (cmp y z)) refl
    where
      by : (b : Bool) → is_lt (cmp y z) ≡ b → b ≡ false
      by true e = absurd (true≢false (sym (less_down x y z g e) ∙ h))
      by false e = refl

  put-ascends : (x : A) (xs : List A) → Ascends cmp xs → Ascends cmp (put cmp x xs)
  put-ascends x [] up = (tt, tt)
  put-ascends x (y ∷ ys) up = by (is_gt (cmp x y)) refl (put-ascends x ys up.1)
    where
      by : (b : Bool) → is_gt (cmp x y) ≡ b → Ascends cmp (put cmp x ys) → Ascends cmp (cond b (y ∷ put cmp x ys) (x ∷ y ∷ ys))
      by true e ih =
          (each-put (λ z. is_gt (cmp y z) ≡ false) cmp x ys (reverse_gt (cmp x y) (cmp y x) (total.antisymm y x) e) up.0, ih)
      by false e ih =
          ((e, each-weaker (λ z. is_gt (cmp y z) ≡ false) (λ z. is_gt (cmp x z) ≡ false) ys (λ z h. upto total x y z e h) up.0), up)

  pub ordered-ascends : (xs : List A) → Ascends cmp (ordered cmp xs)
  ordered-ascends [] = tt
  ordered-ascends (x ∷ xs) = put-ascends x (ordered cmp xs) (ordered-ascends xs)

  -- where no item is less than the one before it, none comes after a greater one
  pub sorted-ascends : (xs : List A) → IsSorted cmp xs → Ascends cmp xs
  sorted-ascends [] s = tt
  sorted-ascends (x ∷ []) s = (tt, tt)
  sorted-ascends (x ∷ y ∷ ys) s =
      let rest = sorted-ascends (y ∷ ys) (λ k d low high. shifted k d (s (suc k) d (omega arith) (omega (arith, high)))) in
      let first = not_less y x (s 0 x (omega arith) (omega arith)) in
      ((first, each-weaker (λ z. is_gt (cmp y z) ≡ false) (λ z. is_gt (cmp x z) ≡ false) ys (λ z h. upto total x y z first h) rest.0), rest)
    where
      next : (k : ℕ) → suc k + 1 ≡ suc (k + 1)
      next k = omega arith

      shifted : (k : ℕ) (d : A) → is_lt (cmp (get_or (x ∷ y ∷ ys) (suc k + 1) d) (get_or (y ∷ ys) k d)) ≡ false
          → is_lt (cmp (get_or (y ∷ ys) (k + 1) d) (get_or (y ∷ ys) k d)) ≡ false
      shifted k d h = subst (λ m. is_lt (cmp (get_or (x ∷ y ∷ ys) m d) (get_or (y ∷ ys) k d)) ≡ false) (next k) h

-- ---- lengths

length-put : {A : Type 0} (cmp : A → A → Ordering) (x : A) (xs : List A) → length (put cmp x xs) ≡ suc (length xs)
length-put cmp x [] = refl
length-put {A} cmp x (y ∷ ys) = by (is_gt (cmp x y)) (length-put cmp x ys)
  where
    by : (b : Bool) → length (put cmp x ys) ≡ suc (length ys) → length (cond b (y ∷ put cmp x ys) (x ∷ y ∷ ys)) ≡ suc (suc (length ys))
    by true ih = ap suc ih
    by false ih = refl

pub no_items : {A : Type 0} (xs : List A) → length xs ≡ 0 → xs ≡ []
no_items [] e = refl
no_items (x ∷ xs) e = absurd (omega (arith, e))

pub length-ordered : {A : Type 0} (cmp : A → A → Ordering) (xs : List A) → length (ordered cmp xs) ≡ length xs
length-ordered cmp [] = refl
length-ordered cmp (x ∷ xs) = length-put cmp x (ordered cmp xs) ∙ ap suc (length-ordered cmp xs)

-- what is left of a list isn't longer
pub length-left_from_le : {A : Type 0} (i : ℕ) (places : List ℕ) (xs : List A) → length (left_from i places xs) ≤ length xs
length-left_from_le i places [] = omega arith
length-left_from_le {A} i places (x ∷ xs) = by (list_any (λ p. p == i) places) (length-left_from_le (suc i) places xs)
  where
    by : (b : Bool) → length (left_from (suc i) places xs) ≤ length xs
        → length (cond b (left_from (suc i) places xs) (x ∷ left_from (suc i) places xs)) ≤ suc (length xs)
    by true ih = omega (arith, ih)
    by false ih = omega (arith, ih)

-- ---- a list in order is determined by its counts

module _ {A : Type 0} {cmp : A → A → Ordering} (l : IsLinear cmp) where
  itself : (x : A) → is_gt (cmp x x) ≡ false
  itself x = by (cmp x x) (same_itself l x)
    where
      by : (o : Ordering) → is_eq o ≡ true → is_gt o ≡ false
      by Less e = refl
      by Equal e = refl
      by Greater e = absurd (true≢false (sym e))

  first_is_least : (x y : A) (ys : List A) → Ascends cmp (y ∷ ys) → 1 ≤ count (λ z. is_eq (cmp x z)) (y ∷ ys) → is_gt (cmp y x) ≡ false
  first_is_least x y ys up h = by (count_there (λ z. is_eq (cmp x z)) (y ∷ ys) h)
    where
      by : (w : A) × Contains (y ∷ ys) w × (is_eq (cmp x w) ≡ true) → is_gt (cmp y x) ≡ false
      by w = subst (λ z. is_gt (cmp y z) ≡ false) (sym (same_is l x w.0 w.2)) (cases (Contains-cons y w.0 ys w.1))
        where
          cases : (y ≡ w.0) ⊎ Contains ys w.0 → is_gt (cmp y w.0) ≡ false
          cases (inl e) = ap (λ z. is_gt (cmp y z)) (sym e) ∙ itself y
          cases (inr c) = All-Contains (λ z. is_gt (cmp y z) ≡ false) ys w.0 (All-from_recursion (λ z. is_gt (cmp y z) ≡ false) ys up.0) c

  both_ways : (x y : A) → is_gt (cmp x y) ≡ false → is_gt (cmp y x) ≡ false → x ≡ y
  both_ways x y g h = by (cmp x y) refl g
    where
      by : (o : Ordering) → cmp x y ≡ o → is_gt o ≡ false → x ≡ y
      by Less e g = absurd (true≢false (sym (ap is_gt (l.total.antisymm y x ∙ ap ordering_reverse e)) ∙ h))
      by Equal e g = l.equal x y e
      by Greater e g = absurd (true≢false g)

  here : (x : A) (xs : List A) → 1 ≤ count (λ z. is_eq (cmp x z)) (x ∷ xs)
  here x xs = let e = ap {B = ℕ} (λ b. cond b 1 0) (same_itself l x) in omega (arith, e)

  pub same_ordered : (xs ys : List A) → Ascends cmp xs → Ascends cmp ys
      → ((z : A) → count (λ w. is_eq (cmp z w)) xs ≡ count (λ w. is_eq (cmp z w)) ys) → xs ≡ ys
  same_ordered [] [] up up' same = refl
  same_ordered [] (y ∷ ys) up up' same = let h = here y ys in let e = same y in absurd (omega (arith, h, e))
  same_ordered (x ∷ xs) [] up up' same = let h = here x xs in let e = same x in absurd (omega (arith, h, e))
  same_ordered (x ∷ xs) (y ∷ ys) up up' same =
      let a = here x xs in
      let b = here y ys in
      let c = same x in
      let d = same y in
      let e = both_ways x y (first_is_least y x xs up (omega (arith, b, d))) (first_is_least x y ys up' (omega (arith, a, c))) in
      ap₂ (λ z zs. z ∷ zs) e (same_ordered xs ys up.1 up'.1 (λ z. rest z (ap (λ w. is_eq (cmp z w)) e) (same z)))
    where
      rest : (z : A) → is_eq (cmp z x) ≡ is_eq (cmp z y)
          → cond (is_eq (cmp z x)) 1 0 + count (λ w. is_eq (cmp z w)) xs ≡ cond (is_eq (cmp z y)) 1 0 + count (λ w. is_eq (cmp z w)) ys
          → count (λ w. is_eq (cmp z w)) xs ≡ count (λ w. is_eq (cmp z w)) ys
      rest z e h = let c = ap {B = ℕ} (λ b. cond b 1 0) e in omega (arith, c, h)

  pub ordered_determined : (xs ys : List A) → ((z : A) → count (λ w. is_eq (cmp z w)) xs ≡ count (λ w. is_eq (cmp z w)) ys)
      → ordered cmp xs ≡ ordered cmp ys
  ordered_determined xs ys same =
      same_ordered (ordered cmp xs) (ordered cmp ys) (ordered-ascends l.total xs) (ordered-ascends l.total ys)
      (λ z. count-ordered (λ w. is_eq (cmp z w)) cmp xs ∙ same z ∙ sym (count-ordered (λ w. is_eq (cmp z w)) cmp ys))

  -- a list in order stays as it is
  pub ordered-same : (xs : List A) → Ascends cmp xs → ordered cmp xs ≡ xs
  ordered-same xs up = same_ordered (ordered cmp xs) xs (ordered-ascends l.total xs) up (λ z. count-ordered (λ w. is_eq (cmp z w)) cmp xs)

  -- what the library's sort gives is the list put in order
  pub sorted_is_ordered : (xs ys : List A) → IsPermutation xs ys → IsSorted cmp ys → ys ≡ ordered cmp xs
  sorted_is_ordered xs ys moved s =
      same_ordered ys (ordered cmp xs) (sorted-ascends l.total ys s) (ordered-ascends l.total xs)
      (λ z. count-permutation (λ w. is_eq (cmp z w)) xs ys moved ∙ sym (count-ordered (λ w. is_eq (cmp z w)) cmp xs))

  -- a least item comes first
  put_least : (x : A) (ys : List A) → AllByRecursion (λ y. is_gt (cmp x y) ≡ false) ys → put cmp x ys ≡ x ∷ ys
  put_least x [] all = refl
  put_least x (y ∷ ys) all = ap (λ b. cond b (y ∷ put cmp x ys) (x ∷ y ∷ ys)) all.0

  pub ordered_first : (x : A) (xs ys : List A) → AllByRecursion (λ y. is_gt (cmp x y) ≡ false) xs
      → AllByRecursion (λ y. is_gt (cmp x y) ≡ false) ys → ordered cmp (x ∷ (xs ++ ys)) ≡ x ∷ ordered cmp (xs ++ ys)
  ordered_first x xs ys a b =
      put_least x (ordered cmp (xs ++ ys))
      (each-ordered (λ y. is_gt (cmp x y) ≡ false) cmp (xs ++ ys) (each-append (λ y. is_gt (cmp x y) ≡ false) xs ys a b))

  pub ordered_middle : (xs : List A) (x : A) (ys : List A) → AllByRecursion (λ y. is_gt (cmp x y) ≡ false) xs
      → AllByRecursion (λ y. is_gt (cmp x y) ≡ false) ys → ordered cmp (xs ++ x ∷ ys) ≡ x ∷ ordered cmp (xs ++ ys)
  ordered_middle xs x ys a b =
      ordered_determined (xs ++ x ∷ ys) (x ∷ (xs ++ ys)) (λ z. count-middle (λ w. is_eq (cmp z w)) xs x ys) ∙ ordered_first x xs ys a b

  -- what two lists have together depends on their items alone
  pub ordered_together : (xs ys zs : List A) → IsPermutation ys zs → ordered cmp (xs ++ zs) ≡ ordered cmp (xs ++ ys)
  ordered_together xs ys zs moved =
      ordered_determined (xs ++ zs) (xs ++ ys)
      (λ z. let a = count-append (λ w. is_eq (cmp z w)) xs zs in
      let b = count-append (λ w. is_eq (cmp z w)) xs ys in
      let c = count-permutation (λ w. is_eq (cmp z w)) ys zs moved in
      omega (arith, a, b, c))
