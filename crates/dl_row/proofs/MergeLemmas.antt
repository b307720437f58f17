-- Rows merged in one pass: what is written, and then what the rest gives.
use Rattle.std.proofs.Common.{◌≡◌, ℕ, zero, suc, ◌+◌, ◌-◌, ◌<◌, ◌≤◌, ◌⊎◌, Bool, true, false, cond, ◌==◌, List, [], ◌∷◌, ◌++◌, length, get_or, drop, take, refl, sym, ap, ap₂, subst, ◌∙◌, inl, inr, append_assoc, arith}
use Rattle.std.specs.List.{AllByRecursion, list_any}
use Rattle.std.specs.List.Sorted.{IsStrictlyIncreasing}
use Rattle.std.specs.Ordering.{is_lt, is_gt}
use Rattle.std.specs.Cmp.{upto}
use Rattle.std.proofs.lemmas.List.{drop_more, drop_all, take_rest, get_or_default}
use Rattle.std.proofs.lemmas.List.Folds.{list_any_at, list_any_none}
use Rattle.std.proofs.lemmas.Bool.{cases_lt, cases_eq, ne_eqb, eq-eqb}
use Rattle.dl_row.specs.Lists.{ordered, left_from, left_of, Ascends}
use Rattle.dl_row.specs.Laws.{row_total}
use Rattle.dl_row.specs.Rows.{row_cmp}
use Rattle.dl_row.specs.Merging.{IsLessAt, IsNotLessAt, HasAt, HasNotAt}
use Rattle.dl_row.specs.declared.row.Row.{Row}
use Rattle.dl_row.proofs.OrderedLemmas.{each-weaker, each-left_from, InOrder-drop, InOrder-left_from, less_not_greater, not_less, ordered-same, ordered_first, ordered_middle}
use Rattle.dl_row.proofs.RowLemmas.{rows_linear}

-- no row of a list is less than another one
abbrev pub Least : Row → List Row → Type 0
Least x ys = AllByRecursion (λ y. is_gt (row_cmp x y) ≡ false) ys

lower : (x y : Row) (ys : List Row) → is_gt (row_cmp x y) ≡ false → Least y ys → Least x (y ∷ ys)
lower x y ys h all = (h, each-weaker (λ z. is_gt (row_cmp y z) ≡ false) (λ z. is_gt (row_cmp x z) ≡ false) ys (λ z g. upto row_total x y z h g) all)

-- ---- new rows, up to one that isn't new

-- so far new rows up to a place were written; a row and any rest after it are still to come
pub record Catches (old merged new : List Row) (from at : ℕ) (row : Row) : Type 0 where
  pub within : at ≤ length new
  pub written : (rest : List Row) → Ascends row_cmp (row ∷ rest)
      → old ++ ordered row_cmp (row ∷ rest ++ drop from new) ≡ merged ++ ordered row_cmp (row ∷ rest ++ drop at new)

pub Catches-none : (old new : List Row) (from : ℕ) (row : Row) → from ≤ length new → Catches old old new from from row
Catches-none old new from row h = record { within = h; written = λ rest up. refl }

at_place : (new : List Row) (at : ℕ) (d : Row) → at < length new → Ascends row_cmp new → Ascends row_cmp (get_or new at d ∷ drop (at + 1) new)
at_place new at d h up = subst (Ascends row_cmp) (drop_more new at d h) (InOrder-drop (λ x y. is_gt (row_cmp x y) ≡ false) at new up)

pub Catches-more : (old merged merged' new : List Row) (from at : ℕ) (row x : Row) → Ascends row_cmp new → IsLessAt new at row
    → x ≡ get_or new at x → merged' ≡ merged ++ x ∷ [] → Catches old merged new from at row → Catches old merged' new from (at + 1) row
Catches-more old merged merged' new from at row x up less read pushed c = record {
  within = let h = less.inside in omega (arith, h);
  written = λ rest rises. c.written rest rises ∙ step rest rises;
}
  where
    is : drop at new ≡ x ∷ drop (at + 1) new
    is = drop_more new at x less.inside ∙ ap (λ y. y ∷ drop (at + 1) new) (sym read)

    below : is_gt (row_cmp x row) ≡ false
    below = less_not_greater row_total x row (ap (λ y. is_lt (row_cmp y row)) read ∙ less.less x)

    after : Least x (drop (at + 1) new)
    after = (subst (Ascends row_cmp) is (InOrder-drop (λ x y. is_gt (row_cmp x y) ≡ false) at new up)).0

    step : (rest : List Row) → Ascends row_cmp (row ∷ rest)
        → merged ++ ordered row_cmp (row ∷ rest ++ drop at new) ≡ merged' ++ ordered row_cmp (row ∷ rest ++ drop (at + 1) new)
    step rest rises =
        ap (λ ys. merged ++ ordered row_cmp (row ∷ rest ++ ys)) is
        ∙ ap (λ ys. merged ++ ys) (ordered_middle rows_linear (row ∷ rest) x (drop (at + 1) new) (lower x row rest below rises.0) after)
        ∙ sym (append_assoc merged (x ∷ []) (ordered row_cmp (row ∷ rest ++ drop (at + 1) new)))
        ∙ ap (λ ys. ys ++ ordered row_cmp (row ∷ rest ++ drop (at + 1) new)) (sym pushed)

-- then the row itself
pub Catches-row : (old merged merged' new : List Row) (from at : ℕ) (row : Row) → Ascends row_cmp new → IsNotLessAt new at row
    → merged' ≡ merged ++ row ∷ [] → Catches old merged new from at row → (rest : List Row) → Ascends row_cmp (row ∷ rest)
    → old ++ ordered row_cmp (row ∷ rest ++ drop from new) ≡ merged' ++ ordered row_cmp (rest ++ drop at new)
Catches-row old merged merged' new from at row up more pushed c rest rises =
    c.written rest rises
    ∙ ap (λ ys. merged ++ ys) (ordered_first rows_linear row rest (drop at new) rises.0 (cases (cases_lt at (length new))))
    ∙ sym (append_assoc merged (row ∷ []) (ordered row_cmp (rest ++ drop at new)))
    ∙ ap (λ ys. ys ++ ordered row_cmp (rest ++ drop at new)) (sym pushed)
  where
    cases : (at < length new) ⊎ (length new ≤ at) → Least row (drop at new)
    cases (inl h) =
        subst (Least row) (sym (drop_more new at row h))
        (lower row (get_or new at row) (drop (at + 1) new) (not_less row_total (get_or new at row) row (more.not_less row h)) (at_place new at row h up).0)
    cases (inr h) = subst (Least row) (sym (drop_all at new h)) tt

-- ---- rows, but those at some places

-- the places before an index, and those from it on
pub record ArePast (places : List ℕ) (place i : ℕ) : Type 0 where
  pub before : (k d : ℕ) → k < place → get_or places k d < i
  pub from : (k d : ℕ) → place ≤ k → k < length places → i ≤ get_or places k d

later : (places : List ℕ) → IsStrictlyIncreasing places → (j k d : ℕ) → j < k → k < length places → get_or places j d < get_or places k d
later places rises j zero d lt h = absurd (omega arith)
later places rises j (suc k) d lt h = by (cases_eq j k) (later places rises j k d)
  where
    step : get_or places k d < get_or places (suc k) d
    step =
        let r = rises k (omega arith) in
        let a = get_or_default places k d 0 (omega arith) in
        let b = get_or_default places (suc k) d 0 h in
        let next : k + 1 ≡ suc k = omega arith in
        let n = ap (λ m. get_or places m 0) next in
        omega (arith, r, a, b, n)

    by : (j ≡ k) ⊎ (j ≡ k → ⊥) → (j < k → k < length places → get_or places j d < get_or places k d) → get_or places j d < get_or places (suc k) d
    by (inl e) ih = let s = step in let n = ap (λ m. get_or places m d) e in omega (arith, s, n)
    by (inr ne) ih = let s = step in let b = ih (omega arith) (omega arith) in omega (arith, s, b)

-- where the next place is the index, and where it isn't
pub Past-skip : (places : List ℕ) (place i : ℕ) → IsStrictlyIncreasing places → HasAt places place i → ArePast places place i → ArePast places (place + 1) (i + 1)
Past-skip places place i rises at past = record {
  before = λ k d h. before k d (cases_lt k place) h;
  from = λ k d le lt. (let up = later places rises place k d (omega arith) lt in let e = at.is d in omega arith);
}
  where
    before : (k d : ℕ) → (k < place) ⊎ (place ≤ k) → k < place + 1 → get_or places k d < i + 1
    before k d (inl lt) h = let b = past.before k d lt in omega arith
    before k d (inr le) h =
        let same : k ≡ place = omega arith in
        let e = ap (λ j. get_or places j d) same ∙ at.is d in
        omega (arith, e)

pub Past-more : (places : List ℕ) (place i : ℕ) → IsStrictlyIncreasing places → HasNotAt places place i → ArePast places place i → ArePast places place (i + 1)
Past-more places place i rises other past = record {
  before = λ k d h. (let b = past.before k d h in omega arith);
  from = λ k d le lt. from k d (cases_lt place k) le lt;
}
  where
    from : (k d : ℕ) → (place < k) ⊎ (k ≤ place) → place ≤ k → k < length places → i + 1 ≤ get_or places k d
    from k d (inl gt) le lt =
        let up = later places rises place k d gt lt in
        let b = past.from place d (omega arith) (omega arith) in
        omega arith
    from k d (inr same) le lt =
        let e : place ≡ k = omega arith in
        let b = past.from k d le lt in
        let not = other.is_not d (omega arith) in
        let is = ap (λ j. get_or places j d) e in
        omega (arith, is, not, b)

pub is_a_place : (places : List ℕ) (place i : ℕ) → HasAt places place i → list_any (λ p. p == i) places ≡ true
is_a_place places place i at = list_any_at (λ p. p == i) places place 0 at.inside (eq-eqb (get_or places place 0) i (at.is 0))

pub is_no_place : (places : List ℕ) (place i : ℕ) → ArePast places place i → ArePast places place (i + 1) → list_any (λ p. p == i) places ≡ false
is_no_place places place i past next = list_any_none (λ p. p == i) places (λ k d h. by k d h (cases_lt k place))
  where
    by : (k d : ℕ) → k < length places → (k < place) ⊎ (place ≤ k) → (get_or places k d == i) ≡ false
    by k d h (inl lt) = ne_eqb (get_or places k d) i (λ e. (let b = past.before k d lt in omega (arith, e)))
    by k d h (inr le) = ne_eqb (get_or places k d) i (λ e. (let b = next.from k d le h in omega (arith, e)))

-- so far rows up to an index were written, but those at places, and new ones up to a place
pub record Merges (rows : List Row) (places : List ℕ) (new merged : List Row) (i at : ℕ) : Type 0 where
  pub within : at ≤ length new
  pub written : ordered row_cmp (left_of places rows ++ new) ≡ merged ++ ordered row_cmp (left_from i places (drop i rows) ++ drop at new)

pub Merges-none : (rows : List Row) (places : List ℕ) (new : List Row) → Merges rows places new [] 0 0
Merges-none rows places new = record { within = omega arith; written = refl }

pub Merges-same : (rows : List Row) (places : List ℕ) (new : List Row) (i : ℕ) {merged merged' : List Row} {at at' : ℕ} → merged' ≡ merged → at' ≡ at
    → Merges rows places new merged i at → Merges rows places new merged' i at'
Merges-same rows places new i {merged} {merged'} {at} {at'} e f m =
    subst (λ xs. Merges rows places new xs i at') (sym e) (subst (λ k. Merges rows places new merged i k) (sym f) m)

one_more : (i : ℕ) → suc i ≡ i + 1
one_more i = omega arith

-- what is left from an index on, by whether it is a place
left_here : (places : List ℕ) (i : ℕ) (row : Row) (rest : List Row) (b : Bool) → list_any (λ p. p == i) places ≡ b
    → left_from i places (row ∷ rest) ≡ cond b (left_from (i + 1) places rest) (row ∷ left_from (i + 1) places rest)
left_here places i row rest b e =
    ap₂ (λ c k. cond c (left_from k places rest) (row ∷ left_from k places rest)) e (one_more i)

module _ (rows : List Row) (places : List ℕ) (new : List Row) (i at : ℕ) (row : Row) (inside : i < length rows) (read : row ≡ get_or rows i row) where
  here : drop i rows ≡ row ∷ drop (i + 1) rows
  here = drop_more rows i row inside ∙ ap (λ y. y ∷ drop (i + 1) rows) (sym read)

  pub Merges-skip : (merged : List Row) → list_any (λ p. p == i) places ≡ true → Merges rows places new merged i at → Merges rows places new merged (i + 1) at
  Merges-skip merged there m = record {
    within = m.within;
    written = m.written ∙ ap (λ ys. merged ++ ordered row_cmp (ys ++ drop at new)) (ap (left_from i places) here ∙ left_here places i row (drop (i + 1) rows) true there);
  }

  pub Merges-more : (merged merged' : List Row) (to : ℕ) → Ascends row_cmp rows → list_any (λ p. p == i) places ≡ false → to ≤ length new
      → ((rest : List Row) → Ascends row_cmp (row ∷ rest)
      → merged ++ ordered row_cmp (row ∷ rest ++ drop at new) ≡ merged' ++ ordered row_cmp (rest ++ drop to new))
      → Merges rows places new merged i at → Merges rows places new merged' (i + 1) to
  Merges-more merged merged' to up none within step m = record {
    within = within;
    written = m.written
        ∙ ap (λ ys. merged ++ ordered row_cmp (ys ++ drop at new)) (ap (left_from i places) here ∙ left_here places i row (drop (i + 1) rows) false none)
        ∙ step (left_from (i + 1) places (drop (i + 1) rows)) rises;
  }
    where
      from_here : Ascends row_cmp (row ∷ drop (i + 1) rows)
      from_here = subst (Ascends row_cmp) here (InOrder-drop (λ x y. is_gt (row_cmp x y) ≡ false) i rows up)

      rises : Ascends row_cmp (row ∷ left_from (i + 1) places (drop (i + 1) rows))
      rises = (each_left from_here.0, InOrder-left_from (λ x y. is_gt (row_cmp x y) ≡ false) (i + 1) places (drop (i + 1) rows) from_here.1)
        where
          each_left : Least row (drop (i + 1) rows) → Least row (left_from (i + 1) places (drop (i + 1) rows))
          each_left = each-left_from (λ y. is_gt (row_cmp row y) ≡ false) (i + 1) places (drop (i + 1) rows)

-- in the end the new rows that are left
pub Merges-all : (rows : List Row) (places : List ℕ) (new merged : List Row) (i at : ℕ) → length rows ≤ i → Ascends row_cmp new
    → Merges rows places new merged i at → merged ++ take (length new - at) (drop at new) ≡ ordered row_cmp (left_of places rows ++ new)
Merges-all rows places new merged i at h up m =
    ap (λ ys. merged ++ ys) (take_rest new at ∙ sym (ordered-same rows_linear (drop at new) (InOrder-drop (λ x y. is_gt (row_cmp x y) ≡ false) at new up)))
    ∙ sym (m.written ∙ ap (λ ys. merged ++ ordered row_cmp (left_from i places ys ++ drop at new)) (drop_all i rows h))
