-- How many rows of a list carry each epoch, told run by run.
use Rattle.std.proofs.Common.{◌≡◌, ℕ, zero, suc, ◌+◌, ◌-◌, ◌<◌, ◌≤◌, ◌⊎◌, Bool, true, false, cond, ◌==◌, List, [], ◌∷◌, ◌++◌, drop, length, get_or, refl, sym, ap, subst, ◌∙◌, inl, inr, true≢false, arith}
use Rattle.std.specs.List.{All, AllPairs}
use Rattle.std.specs.declared.cmp.Ordering.{Ordering}
use Rattle.std.specs.declared.cmp.Ordering.TheVariants.{Less, Equal, Greater}
use Rattle.std.specs.Ordering.{is_gt, nat_cmp}
use Rattle.std.proofs.lemmas.Bool.{cases_order}
use Rattle.std.proofs.lemmas.Bool.Decides.{nat_tests}
use Rattle.std.proofs.lemmas.List.{drop_more, drop_all, get_or_default}
use Rattle.std.proofs.lemmas.List.Elements.{All-push, All-nil}
use Rattle.std.proofs.lemmas.List.Quantifiers.{all_pairs_push}
use Rattle.dl_row.specs.Lists.{count, Ascends}
use Rattle.dl_row.specs.Rows.{row_cmp}
use Rattle.dl_row.specs.declared.row.Row.{Row}
use Rattle.dl_row.proofs.OrderedLemmas.{InOrder_at}
use Rattle.dl_row.proofs.RowLemmas.{then_gt}
use Rattle.dl_migrate.specs.Tallies.{carries, listed, IsTally}
use Rattle.dl_migrate.specs.Runs.{CarryOne, IsRun}

-- ---- epochs of rows in order

epoch_up : (q r : Row) → is_gt (row_cmp q r) ≡ false → q.epoch ≤ r.epoch
epoch_up q r h = by (nat_cmp q.epoch r.epoch) refl (then_gt (nat_cmp q.epoch r.epoch) _ h)
  where
    by : (o : Ordering) → nat_cmp q.epoch r.epoch ≡ o → is_gt o ≡ false → q.epoch ≤ r.epoch
    by Less e g = grind (arith, nat_tests)
    by Equal e g = grind (arith, nat_tests)
    by Greater e g = absurd (true≢false g)

epochs_rise : (rows : List Row) (i j : ℕ) (d : Row) → Ascends row_cmp rows → i < j → j < length rows → (get_or rows i d).epoch ≤ (get_or rows j d).epoch
epochs_rise rows i j d up lt h =
    epoch_up (get_or rows i d) (get_or rows j d) (InOrder_at (λ x y. is_gt (row_cmp x y) ≡ false) rows i j d up lt h)

-- ---- runs

pub Carry-one : (rows : List Row) (from : ℕ) → from < length rows → CarryOne rows from (from + 1)
Carry-one rows from h = record {
  begins = omega arith;
  within = omega (arith, h);
  same = λ k d le lt. ap (λ j. (get_or rows j d).epoch) (omega (arith, le, lt));
}

pub Carry-more : (rows : List Row) (from to : ℕ) → to < length rows → ((d : Row) → (get_or rows to d).epoch ≡ (get_or rows from d).epoch)
    → CarryOne rows from to → CarryOne rows from (to + 1)
Carry-more rows from to h e c = record {
  begins = let b = c.begins in omega (arith, b);
  within = omega (arith, h);
  same = λ k d le lt. by k d (cases_order k to) le lt;
}
  where
    by : (k : ℕ) (d : Row) → (k ≡ to) ⊎ ((k < to) ⊎ (to < k)) → from ≤ k → k < to + 1 → (get_or rows k d).epoch ≡ (get_or rows from d).epoch
    by k d (inl is) le lt = ap (λ j. (get_or rows j d).epoch) is ∙ e d
    by k d (inr (inl less)) le lt = c.same k d le less
    by k d (inr (inr more)) le lt = absurd (omega (arith, lt, more))

-- the rows of a run count for their epoch alone
run_count : (m from epoch id : ℕ) (rows : List Row) → from + m ≤ length rows
    → ((k : ℕ) (d : Row) → from ≤ k → k < from + m → (get_or rows k d).epoch ≡ epoch)
    → count (carries id) (drop from rows) ≡ cond (epoch == id) m 0 + count (carries id) (drop (from + m) rows)
run_count zero from epoch id rows h same = by (epoch == id) ∙ ap (λ k. cond (epoch == id) 0 0 + count (carries id) (drop k rows)) (omega arith)
  where
    by : (b : Bool) → count (carries id) (drop from rows) ≡ cond b 0 0 + count (carries id) (drop from rows)
    by true = omega arith
    by false = omega arith
run_count (suc m) from epoch id [] h same = absurd (omega (arith, h))
run_count (suc m) from epoch id (r ∷ rs) h same =
    ap (count (carries id)) (drop_more (r ∷ rs) from r (omega (arith, h)))
    ∙ ap (λ e. cond (e == id) 1 0 + count (carries id) (drop (from + 1) (r ∷ rs))) (same from r (omega arith) (omega arith))
    ∙ ap (λ n. cond (epoch == id) 1 0 + n)
    (run_count m (from + 1) epoch id (r ∷ rs) (omega (arith, h)) (λ k d le lt. same k d (omega (arith, le)) (omega (arith, lt))))
    ∙ by (epoch == id) (count (carries id) (drop (from + 1 + m) (r ∷ rs)))
    ∙ ap (λ k. cond (epoch == id) (suc m) 0 + count (carries id) (drop k (r ∷ rs))) (omega arith)
  where
    by : (b : Bool) (c : ℕ) → cond b 1 0 + (cond b m 0 + c) ≡ cond b (suc m) 0 + c
    by true c = omega arith
    by false c = omega arith

-- ---- tallies

listed-push : (id : ℕ) (tally : List (ℕ × ℕ)) (e : ℕ × ℕ) → listed id (tally ++ e ∷ []) ≡ listed id tally + cond (e.0 == id) e.1 0
listed-push id [] e = omega arith
listed-push id (d ∷ tally) e = let ih = listed-push id tally e in omega (arith, ih)

-- the rows before a place are told
pub record Tallies (rows : List Row) (from : ℕ) (tally : List (ℕ × ℕ)) : Type 0 where
  pub counts : (id : ℕ) → listed id tally + count (carries id) (drop from rows) ≡ count (carries id) rows
  pub ascending : AllPairs (λ d e. d.0 < e.0) tally
  pub none_empty : All (λ e. 1 ≤ e.1) tally
  pub below : (k : ℕ) (d : Row) → from ≤ k → k < length rows → All (λ e. e.0 < (get_or rows k d).epoch) tally

pub Tallies-none : (rows : List Row) → Tallies rows 0 []
Tallies-none rows = record {
  counts = λ id. omega arith;
  ascending = λ i j d lt h. absurd (omega (arith, h));
  none_empty = All-nil (λ e. 1 ≤ e.1);
  below = λ k d le h. All-nil (λ e. e.0 < (get_or rows k d).epoch);
}

pub Tallies-run : (rows : List Row) (from to : ℕ) (x : Row) (tally tally' : List (ℕ × ℕ)) → Ascends row_cmp rows → from < length rows → x ≡ get_or rows from x
    → IsRun rows from to → tally' ≡ tally ++ (x.epoch, to - from) ∷ [] → Tallies rows from tally → Tallies rows to tally'
Tallies-run rows from to x tally tally' up inside read run pushed t = subst (Tallies rows to) (sym pushed) (record {
  counts = λ id. counts id;
  ascending = all_pairs_push (λ d e. d.0 < e.0) tally (x.epoch, to - from) t.ascending
      (λ k d h. (let b = t.below from x (omega arith) inside k d h in subst (λ (r : Row). (get_or tally k d).0 < r.epoch) (sym read) b));
  none_empty = All-push (λ e. 1 ≤ e.1) tally (x.epoch, to - from) t.none_empty (let b = run.carry.begins in omega (arith, b));
  below = λ k d le h. All-push (λ e. e.0 < (get_or rows k d).epoch) tally (x.epoch, to - from)
      (t.below k d (let b = run.carry.begins in omega (arith, b, le)) h) (later k d le h);
})
  where
    is : (d : Row) → get_or rows from d ≡ x
    is d = get_or_default rows from d x inside ∙ sym read

    whole : from + (to - from) ≡ to
    whole = let b = run.carry.begins in omega (arith, b)

    counts : (id : ℕ) → listed id (tally ++ (x.epoch, to - from) ∷ []) + count (carries id) (drop to rows) ≡ count (carries id) rows
    counts id =
        let c = t.counts id in
        let l = listed-push id tally (x.epoch, to - from) in
        let w = run.carry.within in
        let r = run_count (to - from) from x.epoch id rows (omega (arith, whole, w))
        (λ k d le lt. run.carry.same k d le (omega (arith, lt, whole)) ∙ ap (λ (r : Row). r.epoch) (is d)) in
        let e = ap (λ k. count (carries id) (drop k rows)) whole in
        omega (arith, c, l, r, e)

    at_end : (d : Row) → to < length rows → x.epoch < (get_or rows to d).epoch
    at_end d h =
        let b = run.carry.begins in
        let rise = epochs_rise rows from to d up b h in
        let same = ap (λ (r : Row). r.epoch) (is d) in
        let other = run.ends d h in
        omega (arith, rise, same, other)

    later : (k : ℕ) (d : Row) → to ≤ k → k < length rows → x.epoch < (get_or rows k d).epoch
    later k d le h = by (cases_order to k)
      where
        by : (to ≡ k) ⊎ ((to < k) ⊎ (k < to)) → x.epoch < (get_or rows k d).epoch
        by (inl e) = subst (λ j. x.epoch < (get_or rows j d).epoch) e (at_end d (omega (arith, e, h)))
        by (inr (inl lt)) = let first = at_end d (omega (arith, lt, h)) in let rise = epochs_rise rows to k d up lt h in omega (arith, first, rise)
        by (inr (inr gt)) = absurd (omega (arith, gt, le))

pub Tallies-all : (rows : List Row) (from : ℕ) (tally : List (ℕ × ℕ)) → length rows ≤ from → Tallies rows from tally → IsTally rows tally
Tallies-all rows from tally h t = record {
  ascending = t.ascending;
  counts = λ id. (let c = t.counts id in let e = ap (count (carries id)) (drop_all from rows h) in omega (arith, c, e));
  none_empty = t.none_empty;
}
