-- The first open row with some fields.
use Rattle.std.proofs.Common.{◌≡◌, ℕ, zero, suc, ◌+◌, ◌<◌, ◌≤◌, ◌⊎◌, Bool, true, false, not, ◌&&◌, cond, ◌==◌, nat_lt, List, [], ◌∷◌, length, get_or, Some, None, refl, sym, ap, ap₂, ◌∙◌, inl, inr, arith}
use Rattle.std.specs.List.{position, position_or_len}
use Rattle.std.specs.Ordering.{is_gt}
use Rattle.std.proofs.lemmas.Bool.{cases_order, cases_lt, lt-ltb, le-ltb, ne_eqb, eq-eqb, and_from, and_right}
use Rattle.std.proofs.lemmas.List.{get_or_default}
use Rattle.dl_row.specs.Lists.{Ascends}
use Rattle.dl_row.specs.Rows.{row_cmp, open_end}
use Rattle.dl_row.specs.Shards.{is_at, is_open_at}
use Rattle.dl_row.specs.Searching.{least_with, Divides}
use Rattle.dl_row.specs.declared.row.Kind.{Kind}
use Rattle.dl_row.specs.declared.row.Kind.TheVariants.{Class}
use Rattle.dl_row.specs.declared.row.Row.{Row}
use Rattle.dl_row.proofs.OrderedLemmas.{InOrder_at}
use Rattle.dl_row.proofs.RowLemmas.{before_least, past_least}

-- ---- the first place at which a test passes

module _ {A : Type 0} (p : A → Bool) where
  first_place : (xs : List A) (i : ℕ) (d : A) → i < length xs → ((k : ℕ) (d : A) → k < i → p (get_or xs k d) ≡ false) → p (get_or xs i d) ≡ true
      → position_or_len p xs ≡ i
  first_place [] i d h before here = absurd (omega arith)
  first_place (x ∷ xs) zero d h before here = ap (λ b. cond (not b) (1 + position_or_len p xs) 0) here
  first_place (x ∷ xs) (suc i) d h before here =
      ap (λ b. cond (not b) (1 + position_or_len p xs) 0) (before 0 x (omega arith))
      ∙ (let ih = first_place xs i d (omega arith) (λ k e lt. before (suc k) e (omega arith)) here in omega (arith, ih))

  no_place : (xs : List A) → ((k : ℕ) (d : A) → k < length xs → p (get_or xs k d) ≡ false) → position_or_len p xs ≡ length xs
  no_place [] none = refl
  no_place (x ∷ xs) none =
      ap (λ b. cond (not b) (1 + position_or_len p xs) 0) (none 0 x (omega arith))
      ∙ (let ih = no_place xs (λ k d lt. none (suc k) d (omega arith)) in omega (arith, ih))

  pub position_is : (xs : List A) (i : ℕ) (d : A) → i < length xs → ((k : ℕ) (d : A) → k < i → p (get_or xs k d) ≡ false) → p (get_or xs i d) ≡ true
      → Some i ≡ position p xs
  position_is xs i d h before here = by (position_or_len p xs) (first_place xs i d h before here)
    where
      by : (n : ℕ) → n ≡ i → Some i ≡ cond (nat_lt n (length xs)) (Some n) None
      by n e = ap₂ (λ b m. cond b (Some m) None) (sym (lt-ltb n (length xs) (omega arith))) (sym e)

  pub position_none : (xs : List A) → ((k : ℕ) (d : A) → k < length xs → p (get_or xs k d) ≡ false) → None ≡ position p xs
  position_none xs none = by (position_or_len p xs) (no_place xs none)
    where
      by : (n : ℕ) → n ≡ length xs → None ≡ cond (nat_lt n (length xs)) (Some n) None
      by n e = ap (λ b. cond b (Some n) None) (sym (le-ltb n (length xs) (omega arith)))

-- ---- rows

-- a row that is read where there is none
abbrev pub blank : Row
blank = record { kind = Class; number = 0; epoch = 0; s = 0; o = 0; first = 0; last = 0 }

-- no row before a place is an open one with these fields
abbrev pub NoneBefore : ℕ → Kind → ℕ → ℕ → ℕ → List Row → ℕ → Type 0
NoneBefore epoch kind number s o rows i = (k : ℕ) (d : Row) → k < i → is_open_at epoch kind number s o (get_or rows k d) ≡ false

module _ (epoch : ℕ) (kind : Kind) (number s o : ℕ) (rows : List Row) where
  not_at : (r : Row) → is_at epoch kind number s o r ≡ false → is_open_at epoch kind number s o r ≡ false
  not_at r e = ap (λ b. b && (r.last == open_end)) e

  pub None-before : (at : ℕ) → Divides (least_with epoch kind number s o) rows at → NoneBefore epoch kind number s o rows at
  None-before at d k e h = not_at (get_or rows k e) (before_least epoch kind number s o (get_or rows k e) (d.below k e h))

  -- the run ends where a row has other fields
  pub None-past : (at i : ℕ) → Ascends row_cmp rows → Divides (least_with epoch kind number s o) rows at → at ≤ i → i < length rows
      → is_at epoch kind number s o (get_or rows i blank) ≡ false → NoneBefore epoch kind number s o rows i
      → NoneBefore epoch kind number s o rows (length rows)
  None-past at i up divides from inside other before k d h = by (cases_order k i)
    where
      here : get_or rows i d ≡ get_or rows i blank
      here = get_or_default rows i d blank inside

      by : (k ≡ i) ⊎ ((k < i) ⊎ (i < k)) → is_open_at epoch kind number s o (get_or rows k d) ≡ false
      by (inl e) = ap (λ j. is_open_at epoch kind number s o (get_or rows j d)) e ∙ not_at (get_or rows i d) (ap (is_at epoch kind number s o) here ∙ other)
      by (inr (inl lt)) = before k d lt
      by (inr (inr gt)) =
          not_at (get_or rows k d)
          (past_least epoch kind number s o (get_or rows i d) (get_or rows k d) (divides.from i d from inside)
          (ap (is_at epoch kind number s o) here ∙ other) (InOrder_at (λ x y. is_gt (row_cmp x y) ≡ false) rows i k d up gt h))

  -- one row on, where it is at an end
  pub None-more : (i : ℕ) → i < length rows → ((get_or rows i blank).last ≡ open_end → ⊥)
      → NoneBefore epoch kind number s o rows i → NoneBefore epoch kind number s o rows (i + 1)
  None-more i inside ended before k d h = by (cases_lt k i)
    where
      here : get_or rows i d ≡ get_or rows i blank
      here = get_or_default rows i d blank inside

      by : (k < i) ⊎ (i ≤ k) → is_open_at epoch kind number s o (get_or rows k d) ≡ false
      by (inl lt) = before k d lt
      by (inr le) =
          let same : k ≡ i = omega arith in
          ap (λ j. is_open_at epoch kind number s o (get_or rows j d)) same
          ∙ ap (is_open_at epoch kind number s o) here ∙ and_right (is_at epoch kind number s o (get_or rows i blank)) ((get_or rows i blank).last == open_end) (ne_eqb (get_or rows i blank).last open_end ended)

  pub found_open : (i : ℕ) → i < length rows → is_at epoch kind number s o (get_or rows i blank) ≡ true → (get_or rows i blank).last ≡ open_end
      → NoneBefore epoch kind number s o rows i → Some i ≡ position (is_open_at epoch kind number s o) rows
  found_open i inside same ends before =
      position_is (is_open_at epoch kind number s o) rows i blank inside before
      (and_from (is_at epoch kind number s o (get_or rows i blank)) ((get_or rows i blank).last == open_end) same (eq-eqb (get_or rows i blank).last open_end ends))

  pub found_none : (i : ℕ) → length rows ≤ i → NoneBefore epoch kind number s o rows i → None ≡ position (is_open_at epoch kind number s o) rows
  found_none i h before = position_none (is_open_at epoch kind number s o) rows (λ k d lt. before k d (omega arith))
