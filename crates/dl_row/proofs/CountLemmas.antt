-- Counts of items.
use Rattle.std.proofs.Common.{◌≡◌, ℕ, ◌+◌, ◌≤◌, Bool, true, false, cond, List, [], ◌∷◌, ◌++◌, count_by, Contains, refl, sym, ap, ◌∙◌, true≢false, arith}
use Rattle.std.specs.declared.cmp.Ordering.{Ordering}
use Rattle.std.specs.declared.cmp.Ordering.TheVariants.{Less, Equal, Greater}
use Rattle.std.specs.Ordering.{is_eq, is_gt}
use Rattle.std.specs.Cmp.{tied_itself}
use Rattle.std.specs.List.Sorted.{IsPermutation}
use Rattle.std.proofs.lemmas.List.Sorted.{sum_by-IsPermutation}
use Rattle.std.proofs.lemmas.List.Recursion.{is_count_by}
use Rattle.dl_terms.proofs.OrderLemmas.{IsLinear}
use Rattle.dl_terms.proofs.MemberLemmas.{Contains-first, Contains-later}
use Rattle.dl_row.specs.Lists.{count, put, ordered}

pub count-append : {A : Type 0} (p : A → Bool) (xs ys : List A) → count p (xs ++ ys) ≡ count p xs + count p ys
count-append p [] ys = omega arith
count-append p (x ∷ xs) ys = let ih = count-append p xs ys in omega (arith, ih)

pub count-put : {A : Type 0} (p : A → Bool) (cmp : A → A → Ordering) (x : A) (xs : List A) → count p (put cmp x xs) ≡ cond (p x) 1 0 + count p xs
count-put p cmp x [] = refl
count-put {A} p cmp x (y ∷ ys) = by (is_gt (cmp x y)) (count-put p cmp x ys)
  where
    by : (b : Bool) → count p (put cmp x ys) ≡ cond (p x) 1 0 + count p ys
        → count p (cond b (y ∷ put cmp x ys) (x ∷ y ∷ ys)) ≡ cond (p x) 1 0 + (cond (p y) 1 0 + count p ys)
    by true ih = omega (arith, ih)
    by false ih = refl

pub count-ordered : {A : Type 0} (p : A → Bool) (cmp : A → A → Ordering) (xs : List A) → count p (ordered cmp xs) ≡ count p xs
count-ordered p cmp [] = refl
count-ordered p cmp (x ∷ xs) = let ih = count-ordered p cmp xs in let s = count-put p cmp x (ordered cmp xs) in omega (arith, ih, s)

-- an item within a list counts as one at its head
pub count-middle : {A : Type 0} (p : A → Bool) (xs : List A) (x : A) (ys : List A) → count p (xs ++ x ∷ ys) ≡ count p (x ∷ (xs ++ ys))
count-middle p xs x ys = let a = count-append p xs (x ∷ ys) in let b = count-append p xs ys in omega (arith, a, b)

-- a permutation has the same counts
count_is : {A : Type 0} (p : A → Bool) (xs : List A) → count p xs ≡ count_by p xs
count_is {A} p = is_count_by (count p) p refl (λ x xs. by (p x) (count p xs))
  where
    by : (b : Bool) (n : ℕ) → cond b 1 0 + n ≡ cond b (1 + n) n
    by true n = refl
    by false n = omega arith

pub count-permutation : {A : Type 0} (p : A → Bool) (xs ys : List A) → IsPermutation xs ys → count p ys ≡ count p xs
count-permutation p xs ys h = count_is p ys ∙ sum_by-IsPermutation (λ x. cond (p x) 1 0) xs ys h ∙ sym (count_is p xs)

-- ---- items that compare equal

pub same_itself : {A : Type 0} {cmp : A → A → Ordering} → IsLinear cmp → (x : A) → is_eq (cmp x x) ≡ true
same_itself l x = ap is_eq (tied_itself l.total x)

pub same_is : {A : Type 0} {cmp : A → A → Ordering} → IsLinear cmp → (x y : A) → is_eq (cmp x y) ≡ true → x ≡ y
same_is {A} {cmp} l x y e = by (cmp x y) refl e
  where
    by : (o : Ordering) → cmp x y ≡ o → is_eq o ≡ true → x ≡ y
    by Less e f = absurd (true≢false (sym f))
    by Equal e f = l.equal x y e
    by Greater e f = absurd (true≢false (sym f))

-- what counts is there
pub count_there : {A : Type 0} (p : A → Bool) (xs : List A) → 1 ≤ count p xs → (x : A) × Contains xs x × (p x ≡ true)
count_there p [] h = absurd (omega (arith, h))
count_there {A} p (x ∷ xs) h = by (p x) refl h (count_there p xs)
  where
    by : (b : Bool) → p x ≡ b → 1 ≤ cond b 1 0 + count p xs → (1 ≤ count p xs → (y : A) × Contains xs y × (p y ≡ true))
        → (y : A) × Contains (x ∷ xs) y × (p y ≡ true)
    by true e h ih = (x, Contains-first x xs, e)
    by false e h ih = let r = ih (omega (arith, h)) in (r.0, Contains-later x r.0 xs r.1, r.2)
