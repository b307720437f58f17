-- A binary search for the place at which a bound divides rows in order, and what stands between two places.
use Rattle.std.proofs.Common.{◌≡◌, ℕ, zero, suc, ◌+◌, ◌<◌, ◌≤◌, ◌⊎◌, Bool, true, false, cond, List, [], ◌∷◌, filter, length, get_or, take, drop, refl, sym, ap, ◌∙◌, inl, inr, arith}
use Rattle.std.specs.Ordering.{is_lt, is_gt}
use Rattle.std.specs.List.Sorted.{IsPartitionPoint, IsPartitionedBy}
use Rattle.std.proofs.lemmas.Bool.{cases_order}
use Rattle.std.proofs.lemmas.List.{get_or_default}
use Rattle.dl_row.specs.Lists.{Ascends}
use Rattle.dl_row.specs.Laws.{row_total}
use Rattle.dl_row.specs.Rows.{row_cmp}
use Rattle.dl_row.specs.Searching.{Bounds, Divides}
use Rattle.dl_row.specs.declared.row.Row.{Row}
use Rattle.dl_row.proofs.OrderedLemmas.{InOrder_at, less_down, less_up}

-- ---- the search

pub Bounds-start : (bound : Row) (rows : List Row) → Bounds bound rows 0 (length rows)
Bounds-start bound rows = record {
  within = omega arith;
  order = omega arith;
  below = λ k d h. absurd (omega arith);
  from = λ k d le lt. absurd (omega arith);
}

module _ (bound : Row) (rows : List Row) (low high middle : ℕ) (row : Row) (up : Ascends row_cmp rows) (inside : middle < high)
    (read : row ≡ get_or rows middle row) (b : Bounds bound rows low high) where
  at_middle : (d : Row) → get_or rows middle d ≡ row
  at_middle d = let w = b.within in get_or_default rows middle d row (omega arith) ∙ sym read

  pub Bounds-above : is_lt (row_cmp row bound) ≡ true → Bounds bound rows (middle + 1) high
  Bounds-above less = record {
    within = b.within;
    order = omega arith;
    below = λ k d h. below k d h (cases_order k middle);
    from = b.from;
  }
    where
      below : (k : ℕ) (d : Row) → k < middle + 1 → (k ≡ middle) ⊎ ((k < middle) ⊎ (middle < k)) → is_lt (row_cmp (get_or rows k d) bound) ≡ true
      below k d h (inl e) = ap (λ j. is_lt (row_cmp (get_or rows j d) bound)) e ∙ ap (λ r. is_lt (row_cmp r bound)) (at_middle d) ∙ less
      below k d h (inr (inl lt)) =
          let w = b.within in
          less_down row_total (get_or rows k d) (get_or rows middle d) bound
          (InOrder_at (λ x y. is_gt (row_cmp x y) ≡ false) rows k middle d up lt (omega arith))
          (ap (λ r. is_lt (row_cmp r bound)) (at_middle d) ∙ less)
      below k d h (inr (inr gt)) = absurd (omega arith)

  pub Bounds-below : low ≤ middle → is_lt (row_cmp row bound) ≡ false → Bounds bound rows low middle
  Bounds-below above not = record {
    within = let w = b.within in omega arith;
    order = above;
    below = b.below;
    from = λ k d le lt. from k d le lt (cases_order k middle);
  }
    where
      from : (k : ℕ) (d : Row) → middle ≤ k → k < length rows → (k ≡ middle) ⊎ ((k < middle) ⊎ (middle < k)) → is_lt (row_cmp (get_or rows k d) bound) ≡ false
      from k d le lt (inl e) = ap (λ j. is_lt (row_cmp (get_or rows j d) bound)) e ∙ ap (λ r. is_lt (row_cmp r bound)) (at_middle d) ∙ not
      from k d le lt (inr (inl below)) = absurd (omega arith)
      from k d le lt (inr (inr gt)) =
          less_up row_total (get_or rows middle d) (get_or rows k d) bound
          (InOrder_at (λ x y. is_gt (row_cmp x y) ≡ false) rows middle k d up gt lt)
          (ap (λ r. is_lt (row_cmp r bound)) (at_middle d) ∙ not)

pub Bounds-met : (bound : Row) (rows : List Row) (low high : ℕ) → high ≤ low → Bounds bound rows low high → Divides bound rows low
Bounds-met bound rows low high h b = record {
  within = let w = b.within in let o = b.order in omega arith;
  order = omega arith;
  below = b.below;
  from = λ k d le lt. (let o = b.order in b.from k d (omega arith) lt);
}

-- a partition point
pub Divides-from_point : (bound : Row) (rows : List Row) (at : ℕ) → at ≤ length rows
    → IsPartitionPoint (λ r. is_lt (row_cmp r bound) ≡ true) (λ r. is_lt (row_cmp r bound) ≡ false) rows at → Divides bound rows at
Divides-from_point bound rows at h point = record {
  within = h;
  order = omega arith;
  below = λ k d lt. point.0 k d (omega arith) lt;
  from = λ k d le lt. point.1 k d le lt;
}

pub is_partitioned : (bound : Row) (rows : List Row) → Ascends row_cmp rows → IsPartitionedBy (λ r. is_lt (row_cmp r bound)) rows
is_partitioned bound rows up i j d le h less = by (cases_order i j)
  where
    by : (i ≡ j) ⊎ ((i < j) ⊎ (j < i)) → is_lt (row_cmp (get_or rows i d) bound) ≡ true
    by (inl e) = ap (λ k. is_lt (row_cmp (get_or rows k d) bound)) e ∙ less
    by (inr (inl lt)) =
        less_down row_total (get_or rows i d) (get_or rows j d) bound (InOrder_at (λ x y. is_gt (row_cmp x y) ≡ false) rows i j d up lt h) less
    by (inr (inr gt)) = absurd (omega arith)

-- ---- what stands between two places is what passes a test

module _ {A : Type 0} (p : A → Bool) where
  filter_none : (xs : List A) → ((k : ℕ) (d : A) → k < length xs → p (get_or xs k d) ≡ false) → filter p xs ≡ []
  filter_none [] none = refl
  filter_none (x ∷ xs) none =
      ap (λ b. cond b (x ∷ filter p xs) (filter p xs)) (none 0 x (omega arith))
      ∙ filter_none xs (λ k d h. none (suc k) d (omega arith))

  taken : (n : ℕ) (xs : List A) → n ≤ length xs → ((k : ℕ) (d : A) → k < n → p (get_or xs k d) ≡ true)
      → ((k : ℕ) (d : A) → n ≤ k → k < length xs → p (get_or xs k d) ≡ false) → take n xs ≡ filter p xs
  taken zero xs h pass fail = sym (filter_none xs (λ k d lt. fail k d (omega arith) lt))
  taken (suc n) [] h pass fail = absurd (omega arith)
  taken (suc n) (x ∷ xs) h pass fail =
      ap (λ ys. x ∷ ys) (taken n xs (omega arith) (λ k d lt. pass (suc k) d (omega arith)) (λ k d le lt. fail (suc k) d (omega arith) (omega arith)))
      ∙ sym (ap (λ b. cond b (x ∷ filter p xs) (filter p xs)) (pass 0 x (omega arith)))

  pub between_places : (i n : ℕ) (xs : List A) → i + n ≤ length xs → ((k : ℕ) (d : A) → k < i → p (get_or xs k d) ≡ false)
      → ((k : ℕ) (d : A) → i ≤ k → k < i + n → p (get_or xs k d) ≡ true)
      → ((k : ℕ) (d : A) → i + n ≤ k → k < length xs → p (get_or xs k d) ≡ false) → take n (drop i xs) ≡ filter p xs
  between_places zero n xs h before pass fail =
      taken n xs (omega arith) (λ k d lt. pass k d (omega arith) (omega arith)) (λ k d le lt. fail k d (omega arith) lt)
  between_places (suc i) n [] h before pass fail = absurd (omega arith)
  between_places (suc i) n (x ∷ xs) h before pass fail =
      between_places i n xs (omega arith) (λ k d lt. before (suc k) d (omega arith))
      (λ k d le lt. pass (suc k) d (omega arith) (omega arith)) (λ k d le lt. fail (suc k) d (omega arith) (omega arith))
      ∙ sym (ap (λ b. cond b (x ∷ filter p xs) (filter p xs)) (before 0 x (omega arith)))
