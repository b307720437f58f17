-- Lists of which the first items that pass are changed or dropped, or from which items are left out: what holds of them,
-- their order, and what is found in them.
use Rattle.std.proofs.Common.{◌≡◌, ℕ, zero, suc, ◌≤◌, ◌+◌, Bool, true, false, ◌&&◌, cond, List, [], ◌∷◌, ◌++◌, filter, find, length, All, Contains, Option, Some, None, refl, sym, ap, ap₂, subst, ◌∙◌, true≢false, arith}
use Rattle.std.specs.List.{AllByRecursion}
use Rattle.std.proofs.lemmas.List.Elements.{All-head, All-tail, All-cons}
use Rattle.dl_terms.proofs.MemberLemmas.{Contains-first, Contains-later}
use Rattle.dl_row.specs.Lists.{count, InOrder, last_where, first_some}
use Rattle.dl_migrate.specs.Lists.{change_first, drop_first}
use Rattle.dl_migrate.proofs.ListLemmas.{count_parts, length_parts}
use Rattle.dl_core.proofs.EpochLemmas.{some_none, some_some}
use Rattle.dl_edits.proofs.OrderedLemmas.{each-filter, each-push, each-last}

-- ---- each item

module _ {A : Type 0} (P : A → Type 0) where
  pub All-change_first : (n : ℕ) (q : A → Bool) (f : A → A) (xs : List A) → All P xs → ((x : A) → P x → P (f x)) → All P (change_first n q f xs)
  All-change_first n q f [] all keeps = all
  All-change_first zero q f (x ∷ xs) all keeps = all
  All-change_first (suc n) q f (x ∷ xs) all keeps =
      by (q x) (All-change_first n q f xs (All-tail P x xs all) keeps) (All-change_first (suc n) q f xs (All-tail P x xs all) keeps)
    where
      by : (b : Bool) → All P (change_first n q f xs) → All P (change_first (suc n) q f xs)
          → All P (cond b (f x ∷ change_first n q f xs) (x ∷ change_first (suc n) q f xs))
      by true less more = All-cons P (f x) (change_first n q f xs) (keeps x (All-head P x xs all)) less
      by false less more = All-cons P x (change_first (suc n) q f xs) (All-head P x xs all) more

  pub All-drop_first : (n : ℕ) (q : A → Bool) (xs : List A) → All P xs → All P (drop_first n q xs)
  All-drop_first n q [] all = all
  All-drop_first zero q (x ∷ xs) all = all
  All-drop_first (suc n) q (x ∷ xs) all =
      by (q x) (All-drop_first n q xs (All-tail P x xs all)) (All-drop_first (suc n) q xs (All-tail P x xs all))
    where
      by : (b : Bool) → All P (drop_first n q xs) → All P (drop_first (suc n) q xs) → All P (cond b (drop_first n q xs) (x ∷ drop_first (suc n) q xs))
      by true less more = less
      by false less more = All-cons P x (drop_first (suc n) q xs) (All-head P x xs all) more

  each-drop_first : (n : ℕ) (q : A → Bool) (xs : List A) → AllByRecursion P xs → AllByRecursion P (drop_first n q xs)
  each-drop_first n q [] all = all
  each-drop_first zero q (x ∷ xs) all = all
  each-drop_first (suc n) q (x ∷ xs) all = by (q x) (each-drop_first n q xs all.1) (each-drop_first (suc n) q xs all.1)
    where
      by : (b : Bool) → AllByRecursion P (drop_first n q xs) → AllByRecursion P (drop_first (suc n) q xs)
          → AllByRecursion P (cond b (drop_first n q xs) (x ∷ drop_first (suc n) q xs))
      by true less more = less
      by false less more = (all.0, more)

  pub each-front : (xs : List A) (y : A) → AllByRecursion P (xs ++ y ∷ []) → AllByRecursion P xs
  each-front [] y all = tt
  each-front (x ∷ xs) y all = (all.0, each-front xs y all.1)

-- ---- order

module _ {A : Type 0} (R : A → A → Type 0) where
  pub InOrder-drop_first : (n : ℕ) (q : A → Bool) (xs : List A) → InOrder R xs → InOrder R (drop_first n q xs)
  InOrder-drop_first n q [] all = all
  InOrder-drop_first zero q (x ∷ xs) all = all
  InOrder-drop_first (suc n) q (x ∷ xs) all = by (q x) (InOrder-drop_first n q xs all.1) (InOrder-drop_first (suc n) q xs all.1)
    where
      by : (b : Bool) → InOrder R (drop_first n q xs) → InOrder R (drop_first (suc n) q xs)
          → InOrder R (cond b (drop_first n q xs) (x ∷ drop_first (suc n) q xs))
      by true less more = less
      by false less more = (each-drop_first (R x) (suc n) q xs all.0, more)

  -- all but the last may be filtered
  pub InOrder-filter_push : (q : A → Bool) (xs : List A) (y : A) → InOrder R (xs ++ y ∷ []) → InOrder R (filter q xs ++ y ∷ [])
  InOrder-filter_push q [] y all = all
  InOrder-filter_push q (x ∷ xs) y all = by (q x) (InOrder-filter_push q xs y all.1)
    where
      by : (b : Bool) → InOrder R (filter q xs ++ y ∷ []) → InOrder R (cond b (x ∷ filter q xs) (filter q xs) ++ y ∷ [])
      by true ih = (each-push (R x) (filter q xs) y (each-filter (R x) q xs (each-front (R x) xs y all.0)) (each-last (R x) xs y all.0), ih)
      by false ih = ih

-- ---- lengths and counts

pub length-change_first : {A : Type 0} (n : ℕ) (q : A → Bool) (f : A → A) (xs : List A) → length (change_first n q f xs) ≡ length xs
length-change_first n q f [] = refl
length-change_first zero q f (x ∷ xs) = refl
length-change_first {A} (suc n) q f (x ∷ xs) = by (q x) (length-change_first n q f xs) (length-change_first (suc n) q f xs)
  where
    by : (b : Bool) → length (change_first n q f xs) ≡ length xs → length (change_first (suc n) q f xs) ≡ length xs
        → length (cond b (f x ∷ change_first n q f xs) (x ∷ change_first (suc n) q f xs)) ≡ suc (length xs)
    by true less more = ap suc less
    by false less more = ap suc more

pub length-drop_first : {A : Type 0} (n : ℕ) (q : A → Bool) (xs : List A) → length (drop_first n q xs) ≤ length xs
length-drop_first n q xs = let whole = length_parts q n xs in omega (arith, whole)

pub length-filter_le : {A : Type 0} (q : A → Bool) (xs : List A) → length (filter q xs) ≤ length xs
length-filter_le q [] = omega arith
length-filter_le {A} q (x ∷ xs) = by (q x) (length-filter_le q xs)
  where
    by : (b : Bool) → length (filter q xs) ≤ length xs → length (cond b (x ∷ filter q xs) (filter q xs)) ≤ suc (length xs)
    by true ih = omega (arith, ih)
    by false ih = omega (arith, ih)

-- what is dropped doesn't count
pub count-drop_first : {A : Type 0} (p q : A → Bool) (n : ℕ) (xs : List A) → ((x : A) → q x ≡ true → p x ≡ false)
    → count p (drop_first n q xs) ≡ count p xs
count-drop_first p q n [] none = refl
count-drop_first p q zero (x ∷ xs) none = refl
count-drop_first {A} p q (suc n) (x ∷ xs) none = by (q x) refl (count-drop_first p q n xs none) (count-drop_first p q (suc n) xs none)
  where
    by : (b : Bool) → q x ≡ b → count p (drop_first n q xs) ≡ count p xs → count p (drop_first (suc n) q xs) ≡ count p xs
        → count p (cond b (drop_first n q xs) (x ∷ drop_first (suc n) q xs)) ≡ cond (p x) 1 0 + count p xs
    by true e less more = let none_here = ap {B = ℕ} (λ b. cond b 1 0) (none x e) in omega (arith, less, none_here)
    by false e less more = ap (λ m. cond (p x) 1 0 + m) more

pub count-drop_first_le : {A : Type 0} (p q : A → Bool) (n : ℕ) (xs : List A) → count p (drop_first n q xs) ≤ count p xs
count-drop_first_le p q n xs = let whole = count_parts q p n xs in omega (arith, whole)

-- ---- the first item, and the last, that passes a test

module _ {A : Type 0} (p : A → Bool) where
  pub find-append_rest : (xs ys : List A) → find p xs ≡ None → find p (xs ++ ys) ≡ find p ys
  find-append_rest [] ys e = refl
  find-append_rest (z ∷ xs) ys e = by (p z) e (find-append_rest xs ys)
    where
      by : (b : Bool) → cond b (Some z) (find p xs) ≡ None → (find p xs ≡ None → find p (xs ++ ys) ≡ find p ys)
          → cond b (Some z) (find p (xs ++ ys)) ≡ find p ys
      by true e ih = absurd (some_none (sym e))
      by false e ih = ih e

  pub find-filter_found : (q : A → Bool) (xs : List A) (x : A) → find p xs ≡ Some x → q x ≡ true → find p (filter q xs) ≡ Some x
  find-filter_found q [] x e k = absurd (some_none e)
  find-filter_found q (z ∷ xs) x e k = by (p z) (q z) refl refl e (find-filter_found q xs x)
    where
      by : (b c : Bool) → p z ≡ b → q z ≡ c → cond b (Some z) (find p xs) ≡ Some x → (find p xs ≡ Some x → q x ≡ true → find p (filter q xs) ≡ Some x)
          → find p (cond c (z ∷ filter q xs) (filter q xs)) ≡ Some x
      by true true d h e ih = ap (λ b. cond b (Some z) (find p (filter q xs))) d ∙ e
      by true false d h e ih = absurd (true≢false (sym k ∙ ap q (sym (some_some e)) ∙ h))
      by false true d h e ih = ap (λ b. cond b (Some z) (find p (filter q xs))) d ∙ ih e k
      by false false d h e ih = ih e k

  pub find-filter_none : (q : A → Bool) (xs : List A) → find p xs ≡ None → find p (filter q xs) ≡ None
  find-filter_none q [] e = refl
  find-filter_none q (z ∷ xs) e = by (p z) (q z) refl e (find-filter_none q xs)
    where
      by : (b c : Bool) → p z ≡ b → cond b (Some z) (find p xs) ≡ None → (find p xs ≡ None → find p (filter q xs) ≡ None)
          → find p (cond c (z ∷ filter q xs) (filter q xs)) ≡ None
      by true c d e ih = absurd (some_none (sym e))
      by false true d e ih = ap (λ b. cond b (Some z) (find p (filter q xs))) d ∙ ih e
      by false false d e ih = ih e

  pub last_where-filter_none : (q : A → Bool) (xs : List A) → last_where p xs ≡ None → last_where p (filter q xs) ≡ None
  last_where-filter_none q [] e = refl
  last_where-filter_none q (z ∷ xs) e = by (last_where p xs) (p z) (q z) refl refl e (last_where-filter_none q xs)
    where
      by : (o : Option A) (b c : Bool) → last_where p xs ≡ o → p z ≡ b → first_some o (cond b (Some z) None) ≡ None
          → (last_where p xs ≡ None → last_where p (filter q xs) ≡ None) → last_where p (cond c (z ∷ filter q xs) (filter q xs)) ≡ None
      by (Some y) b c d h e ih = absurd (some_none (sym e))
      by None true c d h e ih = absurd (some_none (sym e))
      by None false true d h e ih = ap₂ (λ o b. first_some o (cond b (Some z) None)) (ih d) h
      by None false false d h e ih = ih d

  pub last_where-filter : (q : A → Bool) (xs : List A) (x : A) → last_where p xs ≡ Some x → q x ≡ true → last_where p (filter q xs) ≡ Some x
  last_where-filter q [] x e k = absurd (some_none e)
  last_where-filter q (z ∷ xs) x e k =
      by (last_where p xs) (p z) (q z) refl refl refl e (last_where-filter q xs x) (last_where-filter_none q xs)
    where
      by : (o : Option A) (b c : Bool) → last_where p xs ≡ o → p z ≡ b → q z ≡ c → first_some o (cond b (Some z) None) ≡ Some x
          → (last_where p xs ≡ Some x → q x ≡ true → last_where p (filter q xs) ≡ Some x)
          → (last_where p xs ≡ None → last_where p (filter q xs) ≡ None) → last_where p (cond c (z ∷ filter q xs) (filter q xs)) ≡ Some x
      by (Some y) b true d h i e ih none = ap (λ o. first_some o (cond (p z) (Some z) None)) (ih (d ∙ e) k)
      by (Some y) b false d h i e ih none = ih (d ∙ e) k
      by None true true d h i e ih none = ap₂ (λ o b. first_some o (cond b (Some z) None)) (none d) h ∙ e
      by None true false d h i e ih none = absurd (true≢false (sym k ∙ ap q (sym (some_some e)) ∙ i))
      by None false c d h i e ih none = absurd (some_none e)

  pub last_where_is : (xs : List A) (x : A) → last_where p xs ≡ Some x → Contains xs x
  last_where_is [] x e = absurd (some_none e)
  last_where_is (z ∷ xs) x e = by (last_where p xs) (p z) refl e (last_where_is xs x)
    where
      by : (o : Option A) (b : Bool) → last_where p xs ≡ o → first_some o (cond b (Some z) None) ≡ Some x → (last_where p xs ≡ Some x → Contains xs x)
          → Contains (z ∷ xs) x
      by (Some y) b d e ih = Contains-later z x xs (ih (d ∙ e))
      by None true d e ih = subst (Contains (z ∷ xs)) (some_some e) (Contains-first z xs)
      by None false d e ih = absurd (some_none e)

-- ---- first items within a part

module _ {A : Type 0} (p q : A → Bool) where
  pub filter-drop_within : (n : ℕ) (xs : List A) → filter p (drop_first n (λ x. p x && q x) xs) ≡ drop_first n q (filter p xs)
  filter-drop_within n [] = refl
  filter-drop_within zero (x ∷ xs) = sym (all (filter p (x ∷ xs)))
    where
      all : (ys : List A) → drop_first 0 q ys ≡ ys
      all [] = refl
      all (y ∷ ys) = refl
  filter-drop_within (suc n) (x ∷ xs) = by (p x) (q x) refl refl (filter-drop_within n xs) (filter-drop_within (suc n) xs)
    where
      by : (b c : Bool) → p x ≡ b → q x ≡ c → filter p (drop_first n (λ x. p x && q x) xs) ≡ drop_first n q (filter p xs)
          → filter p (drop_first (suc n) (λ x. p x && q x) xs) ≡ drop_first (suc n) q (filter p xs)
          → filter p (cond (b && c) (drop_first n (λ x. p x && q x) xs) (x ∷ drop_first (suc n) (λ x. p x && q x) xs))
          ≡ drop_first (suc n) q (cond b (x ∷ filter p xs) (filter p xs))
      by true true d e less more = less ∙ ap (λ b. cond b (drop_first n q (filter p xs)) (x ∷ drop_first (suc n) q (filter p xs))) (sym e)
      by true false d e less more =
          ap (λ b. cond b (x ∷ filter p (drop_first (suc n) (λ x. p x && q x) xs)) (filter p (drop_first (suc n) (λ x. p x && q x) xs))) d
          ∙ ap (λ ys. x ∷ ys) more ∙ ap (λ b. cond b (drop_first n q (filter p xs)) (x ∷ drop_first (suc n) q (filter p xs))) (sym e)
      by false c d e less more =
          ap (λ b. cond b (x ∷ filter p (drop_first (suc n) (λ x. p x && q x) xs)) (filter p (drop_first (suc n) (λ x. p x && q x) xs))) d ∙ more

  pub filter-change_first : (f : A → A) → ((x : A) → p (f x) ≡ p x) → (n : ℕ) (xs : List A)
      → filter p (change_first n (λ x. p x && q x) f xs) ≡ change_first n q f (filter p xs)
  filter-change_first f keeps n [] = refl
  filter-change_first f keeps zero (x ∷ xs) = sym (all (filter p (x ∷ xs)))
    where
      all : (ys : List A) → change_first 0 q f ys ≡ ys
      all [] = refl
      all (y ∷ ys) = refl
  filter-change_first f keeps (suc n) (x ∷ xs) = by (p x) (q x) refl refl (filter-change_first f keeps n xs) (filter-change_first f keeps (suc n) xs)
    where
      by : (b c : Bool) → p x ≡ b → q x ≡ c → filter p (change_first n (λ x. p x && q x) f xs) ≡ change_first n q f (filter p xs)
          → filter p (change_first (suc n) (λ x. p x && q x) f xs) ≡ change_first (suc n) q f (filter p xs)
          → filter p (cond (b && c) (f x ∷ change_first n (λ x. p x && q x) f xs) (x ∷ change_first (suc n) (λ x. p x && q x) f xs))
          ≡ change_first (suc n) q f (cond b (x ∷ filter p xs) (filter p xs))
      by true true d e less more =
          ap (λ b. cond b (f x ∷ filter p (change_first n (λ x. p x && q x) f xs)) (filter p (change_first n (λ x. p x && q x) f xs))) (keeps x ∙ d)
          ∙ ap (λ ys. f x ∷ ys) less ∙ ap (λ b. cond b (f x ∷ change_first n q f (filter p xs)) (x ∷ change_first (suc n) q f (filter p xs))) (sym e)
      by true false d e less more =
          ap (λ b. cond b (x ∷ filter p (change_first (suc n) (λ x. p x && q x) f xs)) (filter p (change_first (suc n) (λ x. p x && q x) f xs))) d
          ∙ ap (λ ys. x ∷ ys) more ∙ ap (λ b. cond b (f x ∷ change_first n q f (filter p xs)) (x ∷ change_first (suc n) q f (filter p xs))) (sym e)
      by false c d e less more =
          ap (λ b. cond b (x ∷ filter p (change_first (suc n) (λ x. p x && q x) f xs)) (filter p (change_first (suc n) (λ x. p x && q x) f xs))) d ∙ more

-- another part isn't touched
pub filter-drop_other : {A : Type 0} (p q : A → Bool) → ((x : A) → q x ≡ true → p x ≡ false) → (n : ℕ) (xs : List A) → filter p (drop_first n q xs) ≡ filter p xs
filter-drop_other p q apart n [] = refl
filter-drop_other p q apart zero (x ∷ xs) = refl
filter-drop_other {A} p q apart (suc n) (x ∷ xs) = by (q x) refl (filter-drop_other p q apart n xs) (filter-drop_other p q apart (suc n) xs)
  where
    by : (b : Bool) → q x ≡ b → filter p (drop_first n q xs) ≡ filter p xs → filter p (drop_first (suc n) q xs) ≡ filter p xs
        → filter p (cond b (drop_first n q xs) (x ∷ drop_first (suc n) q xs)) ≡ cond (p x) (x ∷ filter p xs) (filter p xs)
    by true e less more = less ∙ ap (λ b. cond b (x ∷ filter p xs) (filter p xs)) (sym (apart x e))
    by false e less more = ap (λ ys. cond (p x) (x ∷ ys) ys) more
