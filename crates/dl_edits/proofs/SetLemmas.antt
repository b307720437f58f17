-- Sets as lists: what they have after an item is added or removed.
use Rattle.std.proofs.Common.{◌≡◌, ◌⊎◌, inl, inr, Contains, ℕ, ◌+◌, ◌≤◌, Bool, true, false, ◌&&◌, ◌||◌, cond, List, [], ◌∷◌, filter, refl, sym, ap, ◌∙◌, true≢false, arith}
use Rattle.std.specs.declared.cmp.Ordering.{Ordering}
use Rattle.std.specs.Ordering.{is_eq, is_gt}
use Rattle.dl_terms.proofs.OrderLemmas.{IsLinear}
use Rattle.dl_row.specs.Lists.{count, put}
use Rattle.dl_edits.specs.Sets.{has, with_item, with_items, IsOnce}
use Rattle.std.proofs.lemmas.Map.Views.{Contains-from_any}
use Rattle.dl_terms.proofs.MemberLemmas.{Contains-cons, Contains-nil}
use Rattle.dl_row.proofs.CountLemmas.{same_itself, count-put, same_is}
use Rattle.dl_edits.proofs.CountLemmas.{count-filter_le, has_count, has_not}

swap : (a b c : Bool) → (a || (b || c)) ≡ (b || (a || c))
swap true true c = refl
swap true false c = refl
swap false b c = refl

or_swap : (a b c : Bool) → (a || (b || c)) ≡ ((b || a) || c)
or_swap true true c = refl
or_swap true false c = refl
or_swap false true c = refl
or_swap false false c = refl

pub has-put : {A : Type 0} (cmp : A → A → Ordering) (x : A) (xs : List A) (y : A) → has cmp (put cmp x xs) y ≡ (is_eq (cmp y x) || has cmp xs y)
has-put cmp x [] y = refl
has-put {A} cmp x (z ∷ zs) y = by (is_gt (cmp x z)) (has-put cmp x zs y)
  where
    by : (b : Bool) → has cmp (put cmp x zs) y ≡ (is_eq (cmp y x) || has cmp zs y)
        → has cmp (cond b (z ∷ put cmp x zs) (x ∷ z ∷ zs)) y ≡ (is_eq (cmp y x) || (is_eq (cmp y z) || has cmp zs y))
    by true ih = ap (λ b. is_eq (cmp y z) || b) ih ∙ swap (is_eq (cmp y z)) (is_eq (cmp y x)) (has cmp zs y)
    by false ih = refl

module _ {A : Type 0} {cmp : A → A → Ordering} where
  pub has-with_item : IsLinear cmp → (x : A) (xs : List A) (y : A) → has cmp (with_item cmp x xs) y ≡ (is_eq (cmp y x) || has cmp xs y)
  has-with_item l x xs y = by (has cmp xs x) refl
    where
      absorbed : (b : Bool) → is_eq (cmp y x) ≡ b → has cmp xs x ≡ true → has cmp xs y ≡ (b || has cmp xs y)
      absorbed true e h = ap (has cmp xs) (same_is l y x e) ∙ h
      absorbed false e h = refl

      by : (b : Bool) → has cmp xs x ≡ b → has cmp (cond b xs (put cmp x xs)) y ≡ (is_eq (cmp y x) || has cmp xs y)
      by true h = absorbed (is_eq (cmp y x)) refl h
      by false h = has-put cmp x xs y

  pub once-with_item : IsLinear cmp → (x : A) (xs : List A) → IsOnce cmp xs → IsOnce cmp (with_item cmp x xs)
  once-with_item l x xs once = record { at_most = λ y. by y (has cmp xs x) refl }
    where
      put_once : (y : A) (b : Bool) → is_eq (cmp y x) ≡ b → has cmp xs x ≡ false → cond b 1 0 + count (λ z. is_eq (cmp y z)) xs ≤ 1
      put_once y true e h = let n = has_not cmp xs y (ap (has cmp xs) (same_is l y x e) ∙ h) in omega (arith, n)
      put_once y false e h = let n = once.at_most y in omega (arith, n)

      by : (y : A) (b : Bool) → has cmp xs x ≡ b → count (λ z. is_eq (cmp y z)) (cond b xs (put cmp x xs)) ≤ 1
      by y true h = once.at_most y
      by y false h =
          let n = put_once y (is_eq (cmp y x)) refl h in
          let p = count-put (λ z. is_eq (cmp y z)) cmp x xs in
          omega (arith, n, p)

  pub has-filter : IsLinear cmp → (q : A → Bool) (xs : List A) (y : A) → has cmp (filter q xs) y ≡ (q y && has cmp xs y)
  has-filter l q [] y = no_item (q y)
    where
      no_item : (b : Bool) → false ≡ (b && false)
      no_item true = refl
      no_item false = refl
  has-filter l q (x ∷ xs) y = by (is_eq (cmp y x)) (q x) refl refl (has-filter l q xs y)
    where
      kept : (c : Bool) → c ≡ true → true ≡ (c && true)
      kept true e = refl
      kept false e = sym e

      left : (c h : Bool) → c ≡ false → h ≡ (c && has cmp xs y) → h ≡ (c && true)
      left true h e i = absurd (true≢false e)
      left false h e i = i

      by : (b c : Bool) → is_eq (cmp y x) ≡ b → q x ≡ c → has cmp (filter q xs) y ≡ (q y && has cmp xs y)
          → has cmp (cond c (x ∷ filter q xs) (filter q xs)) y ≡ (q y && (b || has cmp xs y))
      by true true e d ih = ap (λ b. b || has cmp (filter q xs) y) e ∙ kept (q y) (ap q (same_is l y x e) ∙ d)
      by true false e d ih = left (q y) (has cmp (filter q xs) y) (ap q (same_is l y x e) ∙ d) ih
      by false true e d ih = ap (λ b. b || has cmp (filter q xs) y) e ∙ ih
      by false false e d ih = ih

  pub once-filter : (q : A → Bool) (xs : List A) → IsOnce cmp xs → IsOnce cmp (filter q xs)
  once-filter q xs once =
      record { at_most = λ y. let n = count-filter_le (λ z. is_eq (cmp y z)) q xs in let m = once.at_most y in omega (arith, n, m) }

  pub has-with_items : IsLinear cmp → (ys xs : List A) (y : A) → has cmp (with_items cmp ys xs) y ≡ (has cmp ys y || has cmp xs y)
  has-with_items l [] xs y = refl
  has-with_items l (z ∷ ys) xs y =
      has-with_items l ys (with_item cmp z xs) y ∙ ap (λ b. has cmp ys y || b) (has-with_item l z xs y)
      ∙ or_swap (has cmp ys y) (is_eq (cmp y z)) (has cmp xs y)

  pub once-with_items : IsLinear cmp → (ys xs : List A) → IsOnce cmp xs → IsOnce cmp (with_items cmp ys xs)
  once-with_items l [] xs once = once
  once-with_items l (z ∷ ys) xs once = once-with_items l ys (with_item cmp z xs) (once-with_item l z xs once)

  pub once-nil : IsOnce cmp []
  once-nil = record { at_most = λ y. omega arith }

-- a list whose count of an item is one or none has it, or hasn't
pub has_by_count : {A : Type 0} (cmp : A → A → Ordering) (xs : List A) (y : A) (b : Bool) → count (λ z. is_eq (cmp y z)) xs ≡ cond b 1 0 → has cmp xs y ≡ b
has_by_count {A} cmp xs y b e = by (has cmp xs y) b refl e (has_count cmp xs y) (has_not cmp xs y)
  where
    by : (h b : Bool) → has cmp xs y ≡ h → count (λ z. is_eq (cmp y z)) xs ≡ cond b 1 0
        → cond (has cmp xs y) 1 0 ≤ count (λ z. is_eq (cmp y z)) xs → (has cmp xs y ≡ false → count (λ z. is_eq (cmp y z)) xs ≡ 0) → h ≡ b
    by true true e c some none = refl
    by true false e c some none = let h = ap {B = ℕ} (λ b. cond b 1 0) e in absurd (omega (arith, h, c, some))
    by false true e c some none = let h = none e in absurd (omega (arith, h, c))
    by false false e c some none = refl

-- ---- what a list has is in it

module _ {A : Type 0} {cmp : A → A → Ordering} (l : IsLinear cmp) where
  pub has_there : (xs : List A) (x : A) → Contains xs x → has cmp xs x ≡ true
  has_there [] x c = absurd (Contains-nil x c)
  has_there (y ∷ xs) x c = by (is_eq (cmp x y)) refl (Contains-cons y x xs c) (has_there xs x)
    where
      by : (b : Bool) → is_eq (cmp x y) ≡ b → (y ≡ x) ⊎ Contains xs x → (Contains xs x → has cmp xs x ≡ true) → (b || has cmp xs x) ≡ true
      by true e c ih = refl
      by false e (inl same) ih = absurd (true≢false (sym (same_itself l x) ∙ ap (λ z. is_eq (cmp x z)) (sym same) ∙ e))
      by false e (inr later) ih = ih later

  pub there_has : (xs : List A) (x : A) → has cmp xs x ≡ true → Contains xs x
  there_has xs x h = Contains-from_any {eq = λ y z. is_eq (cmp y z)} (same_is l) x xs h
