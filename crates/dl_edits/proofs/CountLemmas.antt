-- Counts of items, and sets as lists.
use Rattle.std.proofs.Common.{◌≡◌, ℕ, ◌+◌, ◌≤◌, ◌⊎◌, Bool, true, false, ◌&&◌, ◌||◌, cond, List, [], ◌∷◌, map, filter, All, Contains, refl, sym, ap, ap₂, ◌∙◌, inl, inr, true≢false, arith}
use Rattle.std.specs.declared.cmp.Ordering.{Ordering}
use Rattle.std.specs.Ordering.{is_eq}
use Rattle.std.proofs.lemmas.List.Elements.{All-head, All-tail}
use Rattle.dl_terms.proofs.MemberLemmas.{Contains-cons, Contains-nil}
use Rattle.dl_row.specs.Lists.{count}
use Rattle.dl_edits.specs.Sets.{has, IsOnce}

-- ---- tests

pub true_or_false : (b : Bool) → (b ≡ true) ⊎ (b ≡ false)
true_or_false true = inl refl
true_or_false false = inr refl

pub and_true : (a : Bool) → (a && true) ≡ a
and_true true = refl
and_true false = refl

pub and_false : (a : Bool) → (a && false) ≡ false
and_false true = refl
and_false false = refl

pub one_or_none : (b : Bool) → cond b 1 0 ≤ 1
one_or_none true = omega arith
one_or_none false = omega arith

-- ---- counts

pub count-map : {A B : Type 0} (p : B → Bool) (f : A → B) (xs : List A) → count p (map f xs) ≡ count (λ x. p (f x)) xs
count-map p f [] = refl
count-map p f (x ∷ xs) = let ih = count-map p f xs in omega (arith, ih)

pub count-agree : {A : Type 0} (p q : A → Bool) (xs : List A) → All (λ x. p x ≡ q x) xs → count p xs ≡ count q xs
count-agree p q [] all = refl
count-agree p q (x ∷ xs) all =
    ap₂ (λ b n. cond b 1 0 + n) (All-head (λ y. p y ≡ q y) x xs all) (count-agree p q xs (All-tail (λ y. p y ≡ q y) x xs all))

pub count-same : {A : Type 0} (p q : A → Bool) (xs : List A) → ((x : A) → p x ≡ q x) → count p xs ≡ count q xs
count-same p q [] e = refl
count-same p q (x ∷ xs) e = ap₂ (λ b n. cond b 1 0 + n) (e x) (count-same p q xs e)

pub count-none : {A : Type 0} (xs : List A) → count (λ x. false) xs ≡ 0
count-none [] = refl
count-none (x ∷ xs) = let ih = count-none xs in omega (arith, ih)

-- a test that doesn't depend on the item
pub count-and : {A : Type 0} (p : A → Bool) (b : Bool) (xs : List A) → count (λ x. p x && b) xs ≡ cond b (count p xs) 0
count-and p true xs = count-same (λ x. p x && true) p xs (λ x. and_true (p x))
count-and p false xs = count-same (λ x. p x && false) (λ x. false) xs (λ x. and_false (p x)) ∙ count-none xs

pub count-filter : {A : Type 0} (p q : A → Bool) (xs : List A) → count p (filter q xs) ≡ count (λ x. p x && q x) xs
count-filter p q [] = refl
count-filter {A} p q (x ∷ xs) = by (q x) (count-filter p q xs)
  where
    by : (b : Bool) → count p (filter q xs) ≡ count (λ y. p y && q y) xs
        → count p (cond b (x ∷ filter q xs) (filter q xs)) ≡ cond (p x && b) 1 0 + count (λ y. p y && q y) xs
    by true ih = ap₂ {C = ℕ} (λ c n. cond c 1 0 + n) (sym (and_true (p x))) ih
    by false ih = let e = ap {B = ℕ} (λ c. cond c 1 0) (and_false (p x)) in omega (arith, e, ih)

pub count-filter_le : {A : Type 0} (p q : A → Bool) (xs : List A) → count p (filter q xs) ≤ count p xs
count-filter_le p q [] = omega arith
count-filter_le {A} p q (x ∷ xs) = by (q x) (count-filter_le p q xs)
  where
    by : (b : Bool) → count p (filter q xs) ≤ count p xs → count p (cond b (x ∷ filter q xs) (filter q xs)) ≤ cond (p x) 1 0 + count p xs
    by true ih = omega (arith, ih)
    by false ih = omega (arith, ih)

-- what is there counts
pub there_counts : {A : Type 0} (p : A → Bool) (xs : List A) (x : A) → Contains xs x → p x ≡ true → 1 ≤ count p xs
there_counts p [] x c e = absurd (Contains-nil x c)
there_counts {A} p (y ∷ xs) x c e = by (Contains-cons y x xs c) (there_counts p xs x)
  where
    here : (b : Bool) → b ≡ true → 1 ≤ cond b 1 0 + count p xs
    here true e = omega arith
    here false e = absurd (true≢false (sym e))

    by : (y ≡ x) ⊎ Contains xs x → (Contains xs x → p x ≡ true → 1 ≤ count p xs) → 1 ≤ cond (p y) 1 0 + count p xs
    by (inl same) ih = here (p y) (ap p same ∙ e)
    by (inr later) ih = let h = ih later e in omega (arith, h)

-- ---- sets

-- a list that has an item has it at least once, and else never
pub has_count : {A : Type 0} (cmp : A → A → Ordering) (xs : List A) (x : A) → cond (has cmp xs x) 1 0 ≤ count (λ y. is_eq (cmp x y)) xs
has_count cmp [] x = omega arith
has_count {A} cmp (y ∷ ys) x = by (is_eq (cmp x y)) (has_count cmp ys x)
  where
    by : (b : Bool) → cond (has cmp ys x) 1 0 ≤ count (λ z. is_eq (cmp x z)) ys
        → cond (b || has cmp ys x) 1 0 ≤ cond b 1 0 + count (λ z. is_eq (cmp x z)) ys
    by true ih = omega arith
    by false ih = omega (arith, ih)

pub has_not : {A : Type 0} (cmp : A → A → Ordering) (xs : List A) (x : A) → has cmp xs x ≡ false → count (λ y. is_eq (cmp x y)) xs ≡ 0
has_not cmp [] x e = refl
has_not {A} cmp (y ∷ ys) x e = by (is_eq (cmp x y)) e (has_not cmp ys x)
  where
    by : (b : Bool) → (b || has cmp ys x) ≡ false → (has cmp ys x ≡ false → count (λ z. is_eq (cmp x z)) ys ≡ 0)
        → cond b 1 0 + count (λ z. is_eq (cmp x z)) ys ≡ 0
    by true e ih = absurd (true≢false e)
    by false e ih = let h = ih e in omega (arith, h)

-- in a set, an item stands once or never
pub count_once : {A : Type 0} (cmp : A → A → Ordering) (xs : List A) → IsOnce cmp xs → (x : A)
    → count (λ y. is_eq (cmp x y)) xs ≡ cond (has cmp xs x) 1 0
count_once {A} cmp xs once x = by (has cmp xs x) refl (once.at_most x) (has_count cmp xs x)
  where
    by : (b : Bool) → has cmp xs x ≡ b → count (λ y. is_eq (cmp x y)) xs ≤ 1 → cond (has cmp xs x) 1 0 ≤ count (λ y. is_eq (cmp x y)) xs
        → count (λ y. is_eq (cmp x y)) xs ≡ cond b 1 0
    by true e below above = let h = ap {B = ℕ} (λ b. cond b 1 0) e in omega (arith, below, above, h)
    by false e below above = has_not cmp xs x e
