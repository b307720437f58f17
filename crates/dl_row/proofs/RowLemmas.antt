-- The order of rows: it is linear, and what its first three or five fields decide.
use Rattle.std.proofs.Common.{◌≡◌, ℕ, ◌+◌, ◌<◌, ◌≤◌, Bool, true, false, not, ◌&&◌, ◌||◌, cond, ◌==◌, nat_le, nat_lt, [], ◌∷◌, refl, sym, ap, ap₂, ◌∙◌, true≢false, arith}
use Rattle.std.proofs.lemmas.Bool.Decides.{nat_tests}
use Rattle.std.specs.declared.cmp.Ordering.{Ordering}
use Rattle.std.specs.declared.cmp.Ordering.TheVariants.{Less, Equal, Greater}
use Rattle.std.specs.Ordering.{is_eq, is_lt, is_gt, nat_cmp, ordering_then}
use Rattle.std.specs.Cmp.{IsTotalOrder, nat_cmp_total, then_total, on_total, unsigned_tied, alike_right}
use Rattle.dl_terms.proofs.OrderLemmas.{IsLinear, numbers_linear, pairs_linear, coded_linear}
use Rattle.dl_row.specs.Rows.{kind_number, row_cmp}
use Rattle.dl_row.specs.Shards.{is_at, is_among}
use Rattle.dl_row.specs.Searching.{least_with, least_of}
use Rattle.dl_row.specs.declared.row.Kind.{Kind}
use Rattle.dl_row.specs.declared.row.Kind.TheVariants.{Class, Role}
use Rattle.dl_row.specs.declared.row.Row.{Row}

-- ---- rows that compare equal are the same

kind_of : ℕ → Kind
kind_of n = cond (n == 0) Class Role

kind_back : (k : Kind) → kind_of (kind_number k) ≡ k
unfolding kind_of
kind_back Class = refl
kind_back Role = refl

pub rows_linear : IsLinear row_cmp
rows_linear =
    coded_linear (λ r. (r.epoch, (kind_number r.kind, (r.number, (r.s, (r.o, (r.first, r.last)))))))
    (λ t. record {
      kind = kind_of t.1.0;
      number = t.1.1.0;
      epoch = t.0;
      s = t.1.1.1.0;
      o = t.1.1.1.1.0;
      first = t.1.1.1.1.1.0;
      last = t.1.1.1.1.1.1;
    })
    (pairs_linear numbers_linear (pairs_linear numbers_linear (pairs_linear numbers_linear (pairs_linear numbers_linear (pairs_linear numbers_linear (pairs_linear numbers_linear numbers_linear))))))
    (λ r i. record { kind = kind_back r.kind i; number = r.number; epoch = r.epoch; s = r.s; o = r.o; first = r.first; last = r.last })
    (λ q r. refl)

-- ---- orders one after another

pub then_assoc : (a b c : Ordering) → ordering_then a (ordering_then b c) ≡ ordering_then (ordering_then a b) c
then_assoc Less b c = refl
then_assoc Equal b c = refl
then_assoc Greater b c = refl

pub then_eq : (a b : Ordering) → is_eq (ordering_then a b) ≡ (is_eq a && is_eq b)
then_eq Less b = refl
then_eq Equal b = refl
then_eq Greater b = refl

-- the first order doesn't go against both
pub then_gt : (a b : Ordering) → is_gt (ordering_then a b) ≡ false → is_gt a ≡ false
then_gt Less b e = refl
then_gt Equal b e = refl
then_gt Greater b e = e

pub then_lt : (a b : Ordering) → is_lt (ordering_then a b) ≡ false → is_lt a ≡ false
then_lt Less b e = e
then_lt Equal b e = refl
then_lt Greater b e = refl

pub eq_is : (o : Ordering) → is_eq o ≡ true → o ≡ Equal
eq_is Less e = absurd (true≢false (sym e))
eq_is Equal e = refl
eq_is Greater e = absurd (true≢false (sym e))

pub between_is : (o : Ordering) → is_gt o ≡ false → is_lt o ≡ false → o ≡ Equal
between_is Less g l = absurd (true≢false l)
between_is Equal g l = refl
between_is Greater g l = absurd (true≢false g)

-- where the second order never says less, the first one decides
pub then_decides : (a b : Ordering) → is_lt b ≡ false → is_lt (ordering_then a b) ≡ is_lt a
then_decides Less b e = refl
then_decides Equal b e = e
then_decides Greater b e = refl

-- no number is less than 0
pub none_below : (n : ℕ) → is_lt (nat_cmp n 0) ≡ false
none_below n = by (nat_lt n 0) (n == 0) never
  where
    never : nat_lt n 0 ≡ false
    never = grind (arith, nat_tests)

    by : (b c : Bool) → b ≡ false → is_lt (cond b Less (cond c Equal Greater)) ≡ false
    by true c e = absurd (true≢false e)
    by false true e = refl
    by false false e = refl

pub then_none : (a b : Ordering) → is_lt a ≡ false → is_lt b ≡ false → is_lt (ordering_then a b) ≡ false
then_none Less b e f = e
then_none Equal b e f = f
then_none Greater b e f = e

-- ---- the first five fields

abbrev pub five_cmp : Row → Row → Ordering
five_cmp q r =
    ordering_then (nat_cmp q.epoch r.epoch)
    (ordering_then (nat_cmp (kind_number q.kind) (kind_number r.kind))
    (ordering_then (nat_cmp q.number r.number) (ordering_then (nat_cmp q.s r.s) (nat_cmp q.o r.o))))

abbrev pub rest_cmp : Row → Row → Ordering
rest_cmp q r = ordering_then (nat_cmp q.first r.first) (nat_cmp q.last r.last)

pub five_total : IsTotalOrder five_cmp
five_total =
    then_total (on_total (λ r. r.epoch) nat_cmp_total)
    (then_total (on_total (λ r. kind_number r.kind) nat_cmp_total)
    (then_total (on_total (λ r. r.number) nat_cmp_total) (then_total (on_total (λ r. r.s) nat_cmp_total) (on_total (λ r. r.o) nat_cmp_total))))

-- the order goes by these, and then by the rest
five_apart : (a b c d e f : Ordering)
    → ordering_then a (ordering_then b (ordering_then c (ordering_then d (ordering_then e f))))
    ≡ ordering_then (ordering_then a (ordering_then b (ordering_then c (ordering_then d e)))) f
five_apart Less b c d e f = refl
five_apart Equal Less c d e f = refl
five_apart Equal Equal Less d e f = refl
five_apart Equal Equal Equal d e f = then_assoc d e f
five_apart Equal Equal Greater d e f = refl
five_apart Equal Greater c d e f = refl
five_apart Greater b c d e f = refl

pub row_by_five : (q r : Row) → row_cmp q r ≡ ordering_then (five_cmp q r) (rest_cmp q r)
row_by_five q r =
    five_apart (nat_cmp q.epoch r.epoch) (nat_cmp (kind_number q.kind) (kind_number r.kind)) (nat_cmp q.number r.number)
    (nat_cmp q.s r.s) (nat_cmp q.o r.o) (rest_cmp q r)

-- a row has these five fields exactly where they compare equal
pub at_is : (q r : Row) → is_eq (five_cmp r q) ≡ is_at q.epoch q.kind q.number q.s q.o r
at_is q r =
    then_eq (nat_cmp r.epoch q.epoch) (ordering_then (nat_cmp (kind_number r.kind) (kind_number q.kind)) (ordering_then (nat_cmp r.number q.number) (ordering_then (nat_cmp r.s q.s) (nat_cmp r.o q.o))))
    ∙ ap₂ (λ b c. b && c) (unsigned_tied r.epoch q.epoch)
    (then_eq (nat_cmp (kind_number r.kind) (kind_number q.kind)) (ordering_then (nat_cmp r.number q.number) (ordering_then (nat_cmp r.s q.s) (nat_cmp r.o q.o)))
    ∙ ap₂ (λ b c. b && c) (unsigned_tied (kind_number r.kind) (kind_number q.kind))
    (then_eq (nat_cmp r.number q.number) (ordering_then (nat_cmp r.s q.s) (nat_cmp r.o q.o))
    ∙ ap₂ (λ b c. b && c) (unsigned_tied r.number q.number)
    (then_eq (nat_cmp r.s q.s) (nat_cmp r.o q.o) ∙ ap₂ (λ b c. b && c) (unsigned_tied r.s q.s) (unsigned_tied r.o q.o))))

-- a row that is less than the least one with five fields doesn't have them
pub before_least : (epoch : ℕ) (kind : Kind) (number s o : ℕ) (r : Row)
    → is_lt (row_cmp r (least_with epoch kind number s o)) ≡ true → is_at epoch kind number s o r ≡ false
before_least epoch kind number s o r h = by (is_at epoch kind number s o r) refl
  where
    by : (b : Bool) → is_at epoch kind number s o r ≡ b → b ≡ false
    by false e = refl
    by true e =
        let tied = eq_is (five_cmp r (least_with epoch kind number s o)) (at_is (least_with epoch kind number s o) r ∙ e) in
        let rest = then_none (nat_cmp r.first 0) (nat_cmp r.last 0) (none_below r.first) (none_below r.last) in
        absurd (true≢false (sym h ∙ ap is_lt (row_by_five r (least_with epoch kind number s o)
        ∙ ap (λ a. ordering_then a (rest_cmp r (least_with epoch kind number s o))) tied) ∙ rest))

-- behind a row that isn't less than that one, and doesn't have the five fields, none has them
pub past_least : (epoch : ℕ) (kind : Kind) (number s o : ℕ) (q r : Row)
    → is_lt (row_cmp q (least_with epoch kind number s o)) ≡ false → is_at epoch kind number s o q ≡ false
    → is_gt (row_cmp q r) ≡ false → is_at epoch kind number s o r ≡ false
past_least epoch kind number s o q r low other up = by (is_at epoch kind number s o r) refl
  where
    by : (b : Bool) → is_at epoch kind number s o r ≡ b → b ≡ false
    by false e = refl
    by true e =
        let least = least_with epoch kind number s o in
        let tied = eq_is (five_cmp r least) (at_is least r ∙ e) in
        let above = then_lt (five_cmp q least) (rest_cmp q least) (ap is_lt (sym (row_by_five q least)) ∙ low) in
        let below = ap is_gt (sym (alike_right five_total r least q tied)) ∙ then_gt (five_cmp q r) (rest_cmp q r) (ap is_gt (sym (row_by_five q r)) ∙ up) in
        let same = between_is (five_cmp q least) below above in
        absurd (true≢false (sym (ap is_eq same) ∙ at_is least q ∙ other))

-- ---- the first three fields

abbrev pub three_cmp : ℕ → Kind → ℕ → Row → Ordering
three_cmp epoch kind number r =
    ordering_then (nat_cmp r.epoch epoch) (ordering_then (nat_cmp (kind_number r.kind) (kind_number kind)) (nat_cmp r.number number))

three_apart : (a b c d : Ordering) → is_lt d ≡ false
    → is_lt (ordering_then a (ordering_then b (ordering_then c d))) ≡ is_lt (ordering_then a (ordering_then b c))
three_apart Less b c d e = refl
three_apart Equal Less c d e = refl
three_apart Equal Equal c d e = then_decides c d e
three_apart Equal Greater c d e = refl
three_apart Greater b c d e = refl

-- a row is less than the least one with three fields where its own are
pub below_least : (epoch : ℕ) (kind : Kind) (number : ℕ) (r : Row)
    → is_lt (row_cmp r (least_of epoch kind number)) ≡ is_lt (three_cmp epoch kind number r)
below_least epoch kind number r =
    three_apart (nat_cmp r.epoch epoch) (nat_cmp (kind_number r.kind) (kind_number kind)) (nat_cmp r.number number)
    (ordering_then (nat_cmp r.s 0) (ordering_then (nat_cmp r.o 0) (ordering_then (nat_cmp r.first 0) (nat_cmp r.last 0))))
    (then_none (nat_cmp r.s 0) (ordering_then (nat_cmp r.o 0) (ordering_then (nat_cmp r.first 0) (nat_cmp r.last 0))) (none_below r.s)
    (then_none (nat_cmp r.o 0) (ordering_then (nat_cmp r.first 0) (nat_cmp r.last 0)) (none_below r.o)
    (then_none (nat_cmp r.first 0) (nat_cmp r.last 0) (none_below r.first) (none_below r.last))))

-- and then less than the least one with a greater number too
pub least_rises : (epoch : ℕ) (kind : Kind) (from to : ℕ) (r : Row) → from ≤ to
    → is_lt (row_cmp r (least_of epoch kind from)) ≡ true → is_lt (row_cmp r (least_of epoch kind to)) ≡ true
least_rises epoch kind from to r h less =
    below_least epoch kind to r
    ∙ by (nat_cmp r.epoch epoch) (nat_cmp (kind_number r.kind) (kind_number kind)) (sym (below_least epoch kind from r) ∙ less)
  where
    wider : (b c d e : Bool) → nat_lt r.number from ≡ b → nat_lt r.number to ≡ d
        → is_lt (cond b Less (cond c Equal Greater)) ≡ true → is_lt (cond d Less (cond e Equal Greater)) ≡ true
    wider true c true e f g i = refl
    wider true c false e f g i = absurd (grind (arith, nat_tests))
    wider false true d e f g i = absurd (true≢false (sym i))
    wider false false d e f g i = absurd (true≢false (sym i))

    by : (a b : Ordering) → is_lt (ordering_then a (ordering_then b (nat_cmp r.number from))) ≡ true
        → is_lt (ordering_then a (ordering_then b (nat_cmp r.number to))) ≡ true
    by Less b e = refl
    by Equal Less e = refl
    by Equal Equal e = wider (nat_lt r.number from) (r.number == from) (nat_lt r.number to) (r.number == to) refl refl e
    by Equal Greater e = absurd (true≢false (sym e))
    by Greater b e = absurd (true≢false (sym e))

-- a number stands in an interval where it isn't less than its first, and less than the one after its last
number_within : (from to n : ℕ) → (nat_le from n && nat_le n to) ≡ (not (is_lt (nat_cmp n from)) && is_lt (nat_cmp n (to + 1)))
number_within from to n = ap₂ (λ b c. b && c) (left (nat_lt n from) (n == from) refl) (right (nat_lt n (to + 1)) (n == (to + 1)) refl)
  where
    low : (b : Bool) → nat_lt n from ≡ b → nat_le from n ≡ not b
    low true e = grind (arith, nat_tests)
    low false e = grind (arith, nat_tests)

    left : (b c : Bool) → nat_lt n from ≡ b → nat_le from n ≡ not (is_lt (cond b Less (cond c Equal Greater)))
    left true c e = low true e
    left false true e = low false e
    left false false e = low false e

    high : (b : Bool) → nat_lt n (to + 1) ≡ b → nat_le n to ≡ b
    high true e = grind (arith, nat_tests)
    high false e = grind (arith, nat_tests)

    right : (b c : Bool) → nat_lt n (to + 1) ≡ b → nat_le n to ≡ is_lt (cond b Less (cond c Equal Greater))
    right true c e = high true e
    right false true e = high false e
    right false false e = high false e

or_false : (b : Bool) → (b || false) ≡ b
or_false true = refl
or_false false = refl

-- the rows of an interval are those between two bounds
pub among_one : (epoch : ℕ) (kind : Kind) (from to : ℕ) (r : Row)
    → is_among epoch kind ((from, to) ∷ []) r
    ≡ (not (is_lt (row_cmp r (least_of epoch kind from))) && is_lt (row_cmp r (least_of epoch kind (to + 1))))
among_one epoch kind from to r =
    ap₂ (λ b c. b && (c && ((nat_le from r.number && nat_le r.number to) || false))) (sym (unsigned_tied r.epoch epoch)) (sym (unsigned_tied (kind_number r.kind) (kind_number kind)))
    ∙ by (nat_cmp r.epoch epoch) (nat_cmp (kind_number r.kind) (kind_number kind)) (or_false (nat_le from r.number && nat_le r.number to) ∙ number_within from to r.number)
    ∙ sym (ap₂ (λ b c. not b && c) (below_least epoch kind from r) (below_least epoch kind (to + 1) r))
  where
    by : (a b : Ordering)
        → ((nat_le from r.number && nat_le r.number to) || false) ≡ (not (is_lt (nat_cmp r.number from)) && is_lt (nat_cmp r.number (to + 1)))
        → (is_eq a && (is_eq b && ((nat_le from r.number && nat_le r.number to) || false)))
        ≡ (not (is_lt (ordering_then a (ordering_then b (nat_cmp r.number from)))) && is_lt (ordering_then a (ordering_then b (nat_cmp r.number (to + 1)))))
    by Less b e = refl
    by Equal Less e = refl
    by Equal Equal e = e
    by Equal Greater e = refl
    by Greater b e = refl

-- of two rows of an epoch and a kind the one with the greater number is greater
pub greater_number : (epoch : ℕ) (kind : Kind) (q r : Row) → (q.epoch == epoch) ≡ true → (kind_number q.kind == kind_number kind) ≡ true
    → (r.epoch == epoch) ≡ true → (kind_number r.kind == kind_number kind) ≡ true → r.number < q.number → is_gt (row_cmp q r) ≡ true
greater_number epoch kind q r a b c d h =
    by (nat_cmp q.epoch r.epoch) (nat_cmp (kind_number q.kind) (kind_number r.kind)) (nat_cmp q.number r.number)
    (unsigned_tied q.epoch r.epoch ∙ same q.epoch r.epoch epoch a c)
    (unsigned_tied (kind_number q.kind) (kind_number r.kind) ∙ same (kind_number q.kind) (kind_number r.kind) (kind_number kind) b d)
    (above q.number r.number h)
  where
    same : (m n k : ℕ) → (m == k) ≡ true → (n == k) ≡ true → (m == n) ≡ true
    same m n k e f = grind (arith, nat_tests)

    above : (m n : ℕ) → n < m → is_gt (nat_cmp m n) ≡ true
    above m n h = decide (nat_lt m n) (m == n) not_less other
      where
        not_less : nat_lt m n ≡ false
        not_less = grind (arith, nat_tests)

        other : (m == n) ≡ false
        other = grind (arith, nat_tests)

        decide : (b c : Bool) → b ≡ false → c ≡ false → is_gt (cond b Less (cond c Equal Greater)) ≡ true
        decide true c e f = absurd (true≢false e)
        decide false true e f = absurd (true≢false f)
        decide false false e f = refl

    by : (x y z : Ordering) → is_eq x ≡ true → is_eq y ≡ true → is_gt z ≡ true
        → is_gt (ordering_then x (ordering_then y (ordering_then z (ordering_then (nat_cmp q.s r.s) (ordering_then (nat_cmp q.o r.o) (rest_cmp q r)))))) ≡ true
    by Less y z e f g = absurd (true≢false (sym e))
    by Equal Less z e f g = absurd (true≢false (sym f))
    by Equal Equal Less e f g = absurd (true≢false (sym g))
    by Equal Equal Equal e f g = absurd (true≢false (sym g))
    by Equal Equal Greater e f g = refl
    by Equal Greater z e f g = absurd (true≢false (sym f))
    by Greater y z e f g = absurd (true≢false (sym e))
