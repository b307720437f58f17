-- A scan over several intervals is one scan after another.
use Rattle.std.proofs.Common.{◌≡◌, ℕ, zero, suc, ◌+◌, ◌-◌, ◌*◌, ◌<◌, ◌≤◌, Bool, true, false, not, ◌&&◌, ◌||◌, cond, ◌==◌, nat_le, List, [], ◌∷◌, ◌++◌, map, filter, length, min, get_or, take, drop, slice_get, Contains, Result, Some, Ok, Err, OnErr, refl, sym, ap, ap₂, subst, ◌∙◌, true≢false, append_assoc, append-nil, arith}
use Rattle.std.specs.List.{AllByRecursion}
use Rattle.std.specs.Ordering.{is_lt, is_gt}
use Rattle.std.proofs.lemmas.Bool.{and_parts, and_right}
use Rattle.std.proofs.lemmas.Bool.Decides.{nat_tests}
use Rattle.std.proofs.lemmas.List.{map-append, take-append-drop, drop_more, take_more, get_or-take, get_or-drop, get_or_default, length-take, length-drop, length-append}
use Rattle.std.proofs.lemmas.List.Elements.{filter-append}
use Rattle.std.proofs.lemmas.List.Folds.{list_any-append, Any-from_list_any}
use Rattle.dl_terms.proofs.MemberLemmas.{Contains-one, Contains-first}
use Rattle.dl_intervals.specs.Intervals.{IsIntervalList}
use Rattle.dl_row.specs.Lists.{InOrder, Ascends}
use Rattle.dl_row.specs.Rows.{row_cmp, kind_number, visible}
use Rattle.dl_row.specs.Shards.{is_within, is_among, ends_of, scanned, most_steps, AddsSome}
use Rattle.dl_row.specs.Searching.{least_of, Bounds, Divides, between, IsRun}
use Rattle.dl_row.specs.declared.row.Kind.{Kind}
use Rattle.dl_row.specs.declared.row.Row.{Row}
use Rattle.dl_row.proofs.OrderedLemmas.{InOrder-weaker}
use Rattle.dl_row.proofs.RowLemmas.{among_one, least_rises, greater_number}
use Rattle.dl_row.proofs.SearchLemmas.{between_places}

-- ---- the rows of one interval stand between two places

module _ (epoch : ℕ) (kind : Kind) (from to : ℕ) (rows : List Row) (i j : ℕ) (order : i ≤ j)
    (low : Divides (least_of epoch kind from) rows i) (high : Divides (least_of epoch kind (to + 1)) rows j) where
  whole : i + (j - i) ≡ j
  whole = omega (arith, order)

  pass : (k : ℕ) (d : Row) → i ≤ k → k < i + (j - i) → is_among epoch kind ((from, to) ∷ []) (get_or rows k d) ≡ true
  pass k d le lt =
      among_one epoch kind from to (get_or rows k d)
      ∙ ap₂ (λ b c. not b && c) (low.from k d le (let w = high.within in omega (arith, whole))) (high.below k d (omega (arith, whole)))

  fail : (k : ℕ) (d : Row) → i + (j - i) ≤ k → k < length rows → is_among epoch kind ((from, to) ∷ []) (get_or rows k d) ≡ false
  fail k d le lt =
      among_one epoch kind from to (get_or rows k d)
      ∙ and_right (not (is_lt (row_cmp (get_or rows k d) (least_of epoch kind from)))) (is_lt (row_cmp (get_or rows k d) (least_of epoch kind (to + 1))))
      (high.from k d (omega (arith, whole)) lt)

  pub run_is : IsRun epoch kind (from, to) rows i j
  run_is = record {
    order = order;
    within = high.within;
    are = between_places (is_among epoch kind ((from, to) ∷ [])) i (j - i) rows (let w = high.within in omega (arith, whole))
        (λ k d h. among_one epoch kind from to (get_or rows k d) ∙ ap (λ b. not b && is_lt (row_cmp (get_or rows k d) (least_of epoch kind (to + 1)))) (low.below k d h))
        pass fail;
  }

-- the second search begins where the first one ended
pub Bounds-behind : (epoch : ℕ) (kind : Kind) (from to : ℕ) (rows : List Row) (i : ℕ) → from ≤ to → Divides (least_of epoch kind from) rows i
    → Bounds (least_of epoch kind (to + 1)) rows i (length rows)
Bounds-behind epoch kind from to rows i h low = record {
  within = omega arith;
  order = low.within;
  below = λ k d lt. least_rises epoch kind from (to + 1) (get_or rows k d) (omega (arith, h)) (low.below k d lt);
  from = λ k d le lt. absurd (omega (arith, le, lt));
}

-- ---- what passes one of two tests, where no item that passes the first comes after one that passes the second

module _ {A : Type 0} (p q r : A → Bool) (either : (x : A) → r x ≡ (p x || q x)) (apart : (x : A) → p x ≡ true → q x ≡ true → ⊥) where
  none_later : (xs : List A) → AllByRecursion (λ y. p y ≡ false) xs → filter p xs ≡ []
  none_later [] all = refl
  none_later (x ∷ xs) all = ap (λ b. cond b (x ∷ filter p xs) (filter p xs)) all.0 ∙ none_later xs all.1

  failed : (x : A) (ys : List A) → AllByRecursion (λ y. q x ≡ true → p y ≡ false) ys → q x ≡ true → AllByRecursion (λ y. p y ≡ false) ys
  failed x [] all e = tt
  failed x (y ∷ ys) all e = (all.0 e, failed x ys all.1 e)

  pub filter_union : (xs : List A) → InOrder (λ x y. q x ≡ true → p y ≡ false) xs → filter r xs ≡ filter p xs ++ filter q xs
  filter_union [] order = refl
  filter_union (x ∷ xs) order = by (p x) (q x) refl refl (filter_union xs order.1)
    where
      by : (b c : Bool) → p x ≡ b → q x ≡ c → filter r xs ≡ filter p xs ++ filter q xs
          → cond (r x) (x ∷ filter r xs) (filter r xs) ≡ cond b (x ∷ filter p xs) (filter p xs) ++ cond c (x ∷ filter q xs) (filter q xs)
      by true true e f ih = absurd (apart x e f)
      by true false e f ih = ap (λ b. cond b (x ∷ filter r xs) (filter r xs)) (either x ∙ ap₂ (λ b c. b || c) e f) ∙ ap (λ ys. x ∷ ys) ih
      by false true e f ih =
          let none = none_later xs (failed x xs order.0 f) in
          ap (λ b. cond b (x ∷ filter r xs) (filter r xs)) (either x ∙ ap₂ (λ b c. b || c) e f)
          ∙ ap (λ ys. x ∷ ys) (ih ∙ ap (λ ys. ys ++ filter q xs) none) ∙ sym (ap (λ ys. ys ++ x ∷ filter q xs) none)
      by false false e f ih = ap (λ b. cond b (x ∷ filter r xs) (filter r xs)) (either x ∙ ap₂ (λ b c. b || c) e f) ∙ ih

-- ---- intervals

-- each of some intervals ends before each of others begins
abbrev pub AreBefore : List (ℕ × ℕ) → List (ℕ × ℕ) → Type 0
AreBefore is js = (i j : ℕ × ℕ) → Contains is i → Contains js j → i.1 < j.0

within_one : (is : List (ℕ × ℕ)) (n : ℕ) → is_within is n ≡ true → (i : ℕ × ℕ) × Contains is i × (i.0 ≤ n) × (n ≤ i.1)
within_one is n e =
    let a = Any-from_list_any (λ range. nat_le range.0 n && nat_le n range.1) is e in
    let b = and_parts (nat_le a.1.0 n) (nat_le n a.1.1) a.4 in
    (a.1, (a.0, a.2, a.3), low a.1.0 n b.0, low n a.1.1 b.1)
  where
    low : (m k : ℕ) → nat_le m k ≡ true → m ≤ k
    low m k h = grind (arith, nat_tests)

-- what a row among intervals says
among_parts : (epoch : ℕ) (kind : Kind) (is : List (ℕ × ℕ)) (r : Row) → is_among epoch kind is r ≡ true
    → ((r.epoch == epoch) ≡ true) × ((kind_number r.kind == kind_number kind) ≡ true) × (is_within is r.number ≡ true)
among_parts epoch kind is r e =
    let a = and_parts (r.epoch == epoch) ((kind_number r.kind == kind_number kind) && is_within is r.number) e in
    let b = and_parts (kind_number r.kind == kind_number kind) (is_within is r.number) a.1 in
    (a.0, b.0, b.1)

among_either : (epoch : ℕ) (kind : Kind) (is js : List (ℕ × ℕ)) (r : Row)
    → is_among epoch kind (is ++ js) r ≡ (is_among epoch kind is r || is_among epoch kind js r)
among_either epoch kind is js r =
    ap (λ b. (r.epoch == epoch) && ((kind_number r.kind == kind_number kind) && b)) (list_any-append (λ range. nat_le range.0 r.number && nat_le r.number range.1) is js)
    ∙ by (r.epoch == epoch) (kind_number r.kind == kind_number kind) (is_within is r.number) (is_within js r.number)
  where
    by : (a b c d : Bool) → (a && (b && (c || d))) ≡ ((a && (b && c)) || (a && (b && d)))
    by true true c d = refl
    by true false c d = refl
    by false b c d = refl

module _ (epoch : ℕ) (kind : Kind) (is js : List (ℕ × ℕ)) (before : AreBefore is js) where
  not_both : (r : Row) → is_among epoch kind is r ≡ true → is_among epoch kind js r ≡ true → ⊥
  not_both r a b =
      let i = within_one is r.number (among_parts epoch kind is r a).2 in
      let j = within_one js r.number (among_parts epoch kind js r b).2 in
      let lt = before i.0 j.0 i.1 j.1 in
      let below = i.3 in
      let above = j.2 in
      omega arith

  falls : (x y : Row) → is_gt (row_cmp x y) ≡ false → is_among epoch kind js x ≡ true → is_among epoch kind is y ≡ false
  falls x y up e = by (is_among epoch kind is y) refl
    where
      by : (b : Bool) → is_among epoch kind is y ≡ b → b ≡ false
      by false f = refl
      by true f =
          let a = among_parts epoch kind is y f in
          let b = among_parts epoch kind js x e in
          let i = within_one is y.number a.2 in
          let j = within_one js x.number b.2 in
          let lt = before i.0 j.0 i.1 j.1 in
          let below = i.3 in
          let above = j.2 in
          let less : y.number < x.number = omega arith in
          absurd (true≢false (sym (greater_number epoch kind x y b.0 b.1 a.0 a.1 less) ∙ up))

  pub among-append : (rows : List Row) → Ascends row_cmp rows
      → filter (is_among epoch kind (is ++ js)) rows ≡ filter (is_among epoch kind is) rows ++ filter (is_among epoch kind js) rows
  among-append rows up =
      filter_union (is_among epoch kind is) (is_among epoch kind js) (is_among epoch kind (is ++ js)) (among_either epoch kind is js) not_both rows
      (InOrder-weaker (λ x y. is_gt (row_cmp x y) ≡ false) (λ x y. is_among epoch kind js x ≡ true → is_among epoch kind is y ≡ false) rows falls up)

  pub scanned-append : (version : ℕ) (rows : List Row) → Ascends row_cmp rows
      → scanned epoch kind (is ++ js) version rows ≡ scanned epoch kind is version rows ++ scanned epoch kind js version rows
  scanned-append version rows up =
      ap (λ ys. map ends_of (filter (visible version) ys)) (among-append rows up)
      ∙ ap (map ends_of) (filter-append (visible version) (filter (is_among epoch kind is) rows) (filter (is_among epoch kind js) rows))
      ∙ map-append ends_of (filter (visible version) (filter (is_among epoch kind is) rows)) (filter (visible version) (filter (is_among epoch kind js) rows))

-- the intervals before a place end before those from it on begin
pub parts_apart : (ranges : List (ℕ × ℕ)) (n : ℕ) → IsIntervalList ranges → AreBefore (take n ranges) (drop n ranges)
parts_apart ranges n sorted i j a b =
    let inside : a.0 < n = let s = a.1 in let m = length-take n ranges in omega arith in
    let at : get_or ranges a.0 i ≡ i = sym (get_or-take n ranges a.0 i inside) ∙ a.2 in
    let later : get_or ranges (n + b.0) i ≡ j = default (n + b.0) j i (let s = b.1 in let m = length-drop n ranges in omega arith) ∙ sym (get_or-drop n ranges b.0 j) ∙ b.2 in
    let gap = sorted.apart a.0 (n + b.0) i (omega arith) (let s = b.1 in let m = length-drop n ranges in omega arith) in
    let last = ap (λ (x : ℕ × ℕ). x.1) at in
    let first = ap (λ (x : ℕ × ℕ). x.0) later in
    omega arith
  where
    default : (k : ℕ) (d e : ℕ × ℕ) → k < length ranges → get_or ranges k e ≡ get_or ranges k d
    default k d e h = get_or_default ranges k e d h

one_apart : (ranges : List (ℕ × ℕ)) (i : ℕ) (range : ℕ × ℕ) → i < length ranges → range ≡ get_or ranges i range → IsIntervalList ranges
    → AreBefore (range ∷ []) (drop (i + 1) ranges)
one_apart ranges i range inside read sorted a b c d = by (Contains-one range a c)
  where
    by : range ≡ a → a.1 < b.0
    by e =
        parts_apart ranges (i + 1) sorted a b (
          i,
          (let m = length-take (i + 1) ranges in omega arith),
          get_or-take (i + 1) ranges i a (omega arith) ∙ get_or_default ranges i a range inside ∙ sym read ∙ e,
        ) d

next_product : (m n : ℕ) → (m + 1) * n ≡ m * n + n
next_product m n = grind arith

min-left : (m n : ℕ) → m ≤ n → min m n ≡ m
min-left m n h = omega (arith, h)

length-between : (rows : List Row) (low high : ℕ) → low ≤ high → high ≤ length rows → length (between low high rows) ≡ high - low
length-between rows low high order within =
    let size = length-drop low rows in
    length-take (high - low) (drop low rows) ∙ min-left (high - low) (length (drop low rows)) (omega (arith, order, within, size))

-- some of the intervals take no more steps than all
pub most-rest : (epoch : ℕ) (kind : Kind) (ranges : List (ℕ × ℕ)) (rows : List Row) (n digits : ℕ) → IsIntervalList ranges → Ascends row_cmp rows
    → most_steps epoch kind (take n ranges) digits rows ≤ most_steps epoch kind ranges digits rows
most-rest epoch kind ranges rows n digits sorted up =
    let whole = ap (λ xs. length (filter (is_among epoch kind xs) rows)) (sym (take-append-drop n ranges))
    ∙ ap (λ xs. length xs) (among-append epoch kind (take n ranges) (drop n ranges) (parts_apart ranges n sorted) rows up)
    ∙ length-append (filter (is_among epoch kind (take n ranges)) rows) (filter (is_among epoch kind (drop n ranges)) rows) in
    let parts = ap (λ xs. length xs * (2 * digits)) (sym (take-append-drop n ranges)) ∙ ap (λ m. m * (2 * digits)) (length-append (take n ranges) (drop n ranges))
    ∙ sum_product (length (take n ranges)) (length (drop n ranges)) (2 * digits) in
    omega (arith, whole, parts)
  where
    sum_product : (a b c : ℕ) → (a + b) * c ≡ a * c + b * c
    sum_product a b c = grind arith

module _ (epoch : ℕ) (kind : Kind) (ranges : List (ℕ × ℕ)) (version : ℕ) (rows : List Row) (i : ℕ) (range : ℕ × ℕ)
    (sorted : IsIntervalList ranges) (up : Ascends row_cmp rows) (inside : i < length ranges) (read : range ≡ get_or ranges i range) where
  here : drop i ranges ≡ range ∷ drop (i + 1) ranges
  here = drop_more ranges i range inside ∙ ap (λ x. x ∷ drop (i + 1) ranges) (sym read)

  to_here : take (i + 1) ranges ≡ take i ranges ++ range ∷ []
  to_here = take_more ranges i range inside ∙ ap (λ x. take i ranges ++ x ∷ []) (sym read)

  before_one : AreBefore (take i ranges) (range ∷ [])
  before_one a b c d =
      parts_apart ranges i sorted a b c (subst (λ xs. Contains xs b) (sym here) (first (Contains-one range b d)))
    where
      first : range ≡ b → Contains (range ∷ drop (i + 1) ranges) b
      first e = subst (Contains (range ∷ drop (i + 1) ranges)) e (Contains-first range (drop (i + 1) ranges))

  among-more : filter (is_among epoch kind (take (i + 1) ranges)) rows
      ≡ filter (is_among epoch kind (take i ranges)) rows ++ filter (is_among epoch kind (range ∷ [])) rows
  among-more = ap (λ xs. filter (is_among epoch kind xs) rows) to_here ∙ among-append epoch kind (take i ranges) (range ∷ []) before_one rows up

  -- the steps of one interval more
  pub most-more : (digits old now found new low high : ℕ) → now ≤ old + most_steps epoch kind (take i ranges) digits rows
      → found ≤ now + 2 * digits → IsRun epoch kind range rows low high → new ≤ found + (high - low)
      → new ≤ old + most_steps epoch kind (take (i + 1) ranges) digits rows
  most-more digits old now found new low high before searched run pushed =
      let m = ap (λ xs. length xs) among-more ∙ length-append (filter (is_among epoch kind (take i ranges)) rows) (filter (is_among epoch kind (range ∷ [])) rows) in
      let size = ap (λ xs. length xs) run.are in
      let cut = length-between rows low high run.order run.within in
      let a = ap (λ n. n * (2 * digits)) (length-take (i + 1) ranges ∙ min-left (i + 1) (length ranges) (omega (arith, inside))) ∙ next_product i (2 * digits) in
      let b = ap (λ n. n * (2 * digits)) (length-take i ranges ∙ min-left i (length ranges) (omega (arith, inside))) in
      omega (arith, m, size, cut, a, b, before, searched, pushed)

  -- one interval more
  pub scanned-more : scanned epoch kind (take (i + 1) ranges) version rows
      ≡ scanned epoch kind (take i ranges) version rows ++ scanned epoch kind (range ∷ []) version rows
  scanned-more = ap (λ xs. scanned epoch kind xs version rows) to_here ∙ scanned-append epoch kind (take i ranges) (range ∷ []) before_one version rows up

  pub scanned-step : (old now new : List (ℕ × ℕ)) (found : List Row) → now ≡ old ++ scanned epoch kind (take i ranges) version rows
      → found ≡ filter (is_among epoch kind (range ∷ [])) rows → new ≡ now ++ map ends_of (filter (visible version) found)
      → new ≡ old ++ scanned epoch kind (take (i + 1) ranges) version rows
  scanned-step old now new found e f pushed =
      pushed ∙ ap₂ (λ xs ys. xs ++ map ends_of (filter (visible version) ys)) e f
      ∙ append_assoc old (scanned epoch kind (take i ranges) version rows) (scanned epoch kind (range ∷ []) version rows)
      ∙ ap (λ ys. old ++ ys) (sym scanned-more)

  -- and a part of it, where memory fails
  pub scanned-part : (old now new : List (ℕ × ℕ)) → now ≡ old ++ scanned epoch kind (take i ranges) version rows
      → AddsSome now new (scanned epoch kind (range ∷ []) version rows) → AddsSome old new (scanned epoch kind ranges version rows)
  scanned-part old now new e part = record {
    added = scanned epoch kind (take i ranges) version rows ++ part.added;
    rest = part.rest ++ scanned epoch kind (drop (i + 1) ranges) version rows;
    are = whole
        ∙ ap (λ ys. scanned epoch kind (take i ranges) version rows ++ (ys ++ scanned epoch kind (drop (i + 1) ranges) version rows)) part.are
        ∙ ap (λ ys. scanned epoch kind (take i ranges) version rows ++ ys) (append_assoc part.added part.rest (scanned epoch kind (drop (i + 1) ranges) version rows))
        ∙ sym (append_assoc (scanned epoch kind (take i ranges) version rows) part.added (part.rest ++ scanned epoch kind (drop (i + 1) ranges) version rows));
    is = part.is ∙ ap (λ ys. ys ++ part.added) e ∙ append_assoc old (scanned epoch kind (take i ranges) version rows) part.added;
  }
    where
      whole : scanned epoch kind ranges version rows
          ≡ scanned epoch kind (take i ranges) version rows ++ (scanned epoch kind (range ∷ []) version rows ++ scanned epoch kind (drop (i + 1) ranges) version rows)
      whole =
          ap (λ xs. scanned epoch kind xs version rows) (sym (take-append-drop i ranges))
          ∙ scanned-append epoch kind (take i ranges) (drop i ranges) (parts_apart ranges i sorted) version rows up
          ∙ ap (λ ys. scanned epoch kind (take i ranges) version rows ++ ys)
          (ap (λ xs. scanned epoch kind xs version rows) here
          ∙ scanned-append epoch kind (range ∷ []) (drop (i + 1) ranges) (one_apart ranges i range inside read sorted) version rows up)

-- without intervals there is nothing
pub scanned-none : (epoch : ℕ) (kind : Kind) (version : ℕ) (rows : List Row) → scanned epoch kind [] version rows ≡ []
scanned-none epoch kind version [] = refl
scanned-none epoch kind version (r ∷ rows) =
    ap (λ b. map ends_of (filter (visible version) (cond b (r ∷ filter (is_among epoch kind []) rows) (filter (is_among epoch kind []) rows))))
    (by (r.epoch == epoch) (kind_number r.kind == kind_number kind)) ∙ scanned-none epoch kind version rows
  where
    by : (a b : Bool) → (a && (b && false)) ≡ false
    by true true = refl
    by true false = refl
    by false b = refl

-- ---- the visible rows between two places

module _ (rows : List Row) (low i : ℕ) (row : Row) (order : low ≤ i) (inside : i < length rows) (read : row ≡ get_or rows i row) where
  -- one row more
  pub between-more : between low (i + 1) rows ≡ between low i rows ++ row ∷ []
  between-more =
      let more : i + 1 - low ≡ (i - low) + 1 = omega (arith, order) in
      let place : low + (i - low) ≡ i = omega (arith, order) in
      let size = length-drop low rows in
      ap (λ n. take n (drop low rows)) more
      ∙ take_more (drop low rows) (i - low) row (omega (arith, order, inside, size))
      ∙ ap (λ x. between low i rows ++ x ∷ []) (get_or-drop low rows (i - low) row ∙ ap (λ n. get_or rows n row) place ∙ sym read)

  ends-next : (version : ℕ) → map ends_of (filter (visible version) (between low (i + 1) rows))
      ≡ map ends_of (filter (visible version) (between low i rows)) ++ map ends_of (filter (visible version) (row ∷ []))
  ends-next version =
      ap (λ xs. map ends_of (filter (visible version) xs)) between-more
      ∙ ap (map ends_of) (filter-append (visible version) (between low i rows) (row ∷ []))
      ∙ map-append ends_of (filter (visible version) (between low i rows)) (filter (visible version) (row ∷ []))

  pub ends-shown : (version : ℕ) (old now new : List (ℕ × ℕ)) → visible version row ≡ true
      → now ≡ old ++ map ends_of (filter (visible version) (between low i rows)) → new ≡ now ++ ends_of row ∷ []
      → new ≡ old ++ map ends_of (filter (visible version) (between low (i + 1) rows))
  ends-shown version old now new shown e pushed =
      pushed ∙ ap (λ xs. xs ++ ends_of row ∷ []) e
      ∙ append_assoc old (map ends_of (filter (visible version) (between low i rows))) (ends_of row ∷ [])
      ∙ ap (λ ys. old ++ ys)
      (ap (λ b. map ends_of (filter (visible version) (between low i rows)) ++ map ends_of (cond b (row ∷ []) [])) (sym shown) ∙ sym (ends-next version))

  pub ends-hidden : (version : ℕ) (old now : List (ℕ × ℕ)) → visible version row ≡ false
      → now ≡ old ++ map ends_of (filter (visible version) (between low i rows))
      → now ≡ old ++ map ends_of (filter (visible version) (between low (i + 1) rows))
  ends-hidden version old now hidden e =
      e ∙ ap (λ ys. old ++ ys)
      (sym (append-nil (map ends_of (filter (visible version) (between low i rows))))
      ∙ ap (λ b. map ends_of (filter (visible version) (between low i rows)) ++ map ends_of (cond b (row ∷ []) [])) (sym hidden) ∙ sym (ends-next version))

take_fewer : {A : Type 0} (xs : List A) (i n : ℕ) → i ≤ n → take i (take n xs) ≡ take i xs
take_fewer xs zero n h = refl
take_fewer xs (suc i) zero h = absurd (omega arith)
take_fewer [] (suc i) (suc n) h = refl
take_fewer (x ∷ xs) (suc i) (suc n) h = ap (λ ys. x ∷ ys) (take_fewer xs i n (omega (arith, h)))

pub ends-none : (version : ℕ) (rows : List Row) (low : ℕ) (old : List (ℕ × ℕ))
    → old ≡ old ++ map ends_of (filter (visible version) (between low low rows))
ends-none version rows low old =
    let none : low - low ≡ 0 = omega arith in
    sym (append-nil old) ∙ ap (λ n. old ++ map ends_of (filter (visible version) (take n (drop low rows)))) (sym none)

pub ends-part : (version : ℕ) (rows : List Row) (low i high : ℕ) (old now : List (ℕ × ℕ)) → low ≤ i → i ≤ high
    → now ≡ old ++ map ends_of (filter (visible version) (between low i rows))
    → AddsSome old now (map ends_of (filter (visible version) (between low high rows)))
ends-part version rows low i high old now le before e = record {
  added = map ends_of (filter (visible version) (between low i rows));
  rest = map ends_of (filter (visible version) (drop (i - low) (between low high rows)));
  are = ap (λ xs. map ends_of (filter (visible version) xs)) cut
      ∙ ap (map ends_of) (filter-append (visible version) (between low i rows) (drop (i - low) (between low high rows)))
      ∙ map-append ends_of (filter (visible version) (between low i rows)) (filter (visible version) (drop (i - low) (between low high rows)));
  is = e;
}
  where
    cut : between low high rows ≡ between low i rows ++ drop (i - low) (between low high rows)
    cut =
        sym (take-append-drop (i - low) (between low high rows))
        ∙ ap (λ xs. xs ++ drop (i - low) (between low high rows)) (take_fewer (drop low rows) (i - low) (high - low) (omega (arith, le, before)))

-- ---- for answers

-- what is found in a run
pub run_ends : {found run : List Row} (version : ℕ) → found ≡ run → map ends_of (filter (visible version) found) ≡ map ends_of (filter (visible version) run)
run_ends version e = ap (λ xs. map ends_of (filter (visible version) xs)) e

-- what `get` and `look` give
pub read_at : {A : Type 0} (xs : List A) (i : ℕ) (x : A) → slice_get xs i ≡ Some x → x ≡ get_or xs i x
read_at [] i x e = refl
read_at (y ∷ xs) zero x e = cc
read_at (y ∷ xs) (suc i) x e = read_at xs i x e

pub on_err : {T E : Type 0} {P : Type 0} (r : Result T E) → P → OnErr r P
on_err (Ok x) p = tt
on_err (Err e) p = p
