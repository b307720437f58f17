-- A shard without the first rows that pass a test.
use Rattle.std.proofs.Common.{◌≡◌, ℕ, ◌+◌, ◌<◌, ◌≤◌, min, Bool, false, List, [], ◌++◌, length, sym, ap, subst, ◌∙◌, append-nil, arith}
use Rattle.std.specs.List.{All}
use Rattle.std.specs.List.Sorted.{IsStrictlyIncreasing}
use Rattle.std.specs.Ordering.{is_gt}
use Rattle.dl_row.specs.Lists.{count, ordered, left_of, Ascends}
use Rattle.dl_row.specs.Rows.{row_cmp}
use Rattle.dl_row.specs.Shards.{max_rows}
use Rattle.dl_row.specs.declared.row.Row.{Row}
use Rattle.dl_row.proofs.OrderedLemmas.{InOrder-left_from, ordered-same, length-left_from_le}
use Rattle.dl_row.proofs.RowLemmas.{rows_linear}
use Rattle.dl_migrate.specs.Lists.{drop_first}
use Rattle.dl_migrate.specs.Tallies.{carries, listed, IsTally}
use Rattle.dl_migrate.specs.Picking.{ArePicked}
use Rattle.dl_migrate.proofs.ListLemmas.{count_parts, InOrder-first_that}
use Rattle.dl_migrate.proofs.PlaceLemmas.{places_rise, places_within, length-places, left_is}

module _ (n : ℕ) (p : Row → Bool) (rows : List Row) (places : List ℕ) (picked : List Row) (are : ArePicked n p rows places picked) where
  pub Picked-rise : IsStrictlyIncreasing places
  Picked-rise = subst IsStrictlyIncreasing (sym are.places_are) (places_rise p n rows)

  pub Picked-within : All (λ k. k < length rows) places
  Picked-within = subst (All (λ k. k < length rows)) (sym are.places_are) (places_within p n rows)

  pub Picked-left : left_of places rows ≡ drop_first n p rows
  Picked-left = ap (λ ks. left_of ks rows) are.places_are ∙ left_is p n rows

  pub Picked-count : length places ≡ min n (count p rows)
  Picked-count = ap length are.places_are ∙ length-places p n rows

  module _ (up : Ascends row_cmp rows) where
    pub Picked-up : Ascends row_cmp picked
    Picked-up = subst (Ascends row_cmp) (sym are.items_are) (InOrder-first_that p (λ x y. is_gt (row_cmp x y) ≡ false) n rows up)

    -- with no row put in, the shard is what is left
    pub Picked-out : ordered row_cmp (left_of places rows ++ []) ≡ drop_first n p rows
    Picked-out =
        ap (ordered row_cmp) (append-nil (left_of places rows))
        ∙ ordered-same rows_linear (left_of places rows) (InOrder-left_from (λ x y. is_gt (row_cmp x y) ≡ false) 0 places rows up) ∙ Picked-left

  pub Picked-fits : length rows ≤ max_rows → length (left_of places rows) + 0 ≤ max_rows
  Picked-fits h = let l = length-left_from_le 0 places rows in omega (arith, l, h)

  -- by epoch, what is left and what was picked are the whole
  pub Picked-counts : (tally : List (ℕ × ℕ)) → IsTally picked tally → (id : ℕ) → count (carries id) (drop_first n p rows) + listed id tally ≡ count (carries id) rows
  Picked-counts tally t id =
      let whole = count_parts p (carries id) n rows in
      let told = t.counts id ∙ ap (count (carries id)) are.items_are in
      omega (arith, whole, told)
