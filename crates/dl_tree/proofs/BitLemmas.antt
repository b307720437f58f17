-- Rows of bits: two of them word by word, and bits that are passed over.
use Rattle.std.proofs.Common.{◌≡◌, ◌⊎◌, ℕ, ◌+◌, ◌*◌, ◌/◌, ◌%◌, ◌-◌, ◌^◌, ◌<◌, ◌≤◌, min, max, Bool, true, false, ◌&&◌, ◌||◌, List, length, replicate, set, get_or, nat_eq, bit_and, bit_or, refl, sym, ap, ap₂, subst, ◌∙◌, inl, inr, arith, get_or-set_other}
use Rattle.std.specs.Int.{bit_at}
use Rattle.std.proofs.lemmas.Bool.{cases_eq, cases_lt}
use Rattle.std.proofs.lemmas.List.{length-set, length-replicate, get_or-set_same, get_or-replicate, get_or_default, get_or_past}
use Rattle.std.proofs.lemmas.Nat.Bits.{bit_at_and, bit_at_or, bit_at-lt, bit_at-zero, bit_at_ones}
use Rattle.dl_reach.specs.Rows.{row_has}
use Rattle.dl_tree.specs.Rows.{HasBit, IsMarked, TellsRow}

small : (x : ℕ) → x < 2 → (x ≡ 0) ⊎ (x ≡ 1)
small x l = grind arith

abbrev is_one : ℕ → Bool
is_one x = nat_eq x 1

least_one : (x y : ℕ) → (x ≡ 0) ⊎ (x ≡ 1) → (y ≡ 0) ⊎ (y ≡ 1) → is_one (min x y) ≡ (is_one x && is_one y)
least_one x y (inl e) (inl f) = ap₂ (λ a b. is_one (min a b)) e f ∙ sym (ap₂ (λ a b. is_one a && is_one b) e f)
least_one x y (inl e) (inr f) = ap₂ (λ a b. is_one (min a b)) e f ∙ sym (ap₂ (λ a b. is_one a && is_one b) e f)
least_one x y (inr e) (inl f) = ap₂ (λ a b. is_one (min a b)) e f ∙ sym (ap₂ (λ a b. is_one a && is_one b) e f)
least_one x y (inr e) (inr f) = ap₂ (λ a b. is_one (min a b)) e f ∙ sym (ap₂ (λ a b. is_one a && is_one b) e f)

most_one : (x y : ℕ) → (x ≡ 0) ⊎ (x ≡ 1) → (y ≡ 0) ⊎ (y ≡ 1) → is_one (max x y) ≡ (is_one x || is_one y)
most_one x y (inl e) (inl f) = ap₂ (λ a b. is_one (max a b)) e f ∙ sym (ap₂ (λ a b. is_one a || is_one b) e f)
most_one x y (inl e) (inr f) = ap₂ (λ a b. is_one (max a b)) e f ∙ sym (ap₂ (λ a b. is_one a || is_one b) e f)
most_one x y (inr e) (inl f) = ap₂ (λ a b. is_one (max a b)) e f ∙ sym (ap₂ (λ a b. is_one a || is_one b) e f)
most_one x y (inr e) (inr f) = ap₂ (λ a b. is_one (max a b)) e f ∙ sym (ap₂ (λ a b. is_one a || is_one b) e f)

abbrev word_has : ℕ → ℕ → Bool
word_has w j = nat_eq (bit_at w j) 1

and_has : (a b j : ℕ) → word_has (bit_and a b) j ≡ (word_has a j && word_has b j)
and_has a b j =
    ap is_one (bit_at_and a b j) ∙ least_one (bit_at a j) (bit_at b j) (small (bit_at a j) (bit_at-lt a j)) (small (bit_at b j) (bit_at-lt b j))

or_has : (a b j : ℕ) → word_has (bit_or a b) j ≡ (word_has a j || word_has b j)
or_has a b j =
    ap is_one (bit_at_or a b j) ∙ most_one (bit_at a j) (bit_at b j) (small (bit_at a j) (bit_at-lt a j)) (small (bit_at b j) (bit_at-lt b j))

zero_has : (j : ℕ) → word_has 0 j ≡ false
zero_has j = ap is_one (bit_at-zero j)

-- the first n words are made of those of two rows, and the others are as before
pub record Worked (op : ℕ → ℕ → ℕ) (n : ℕ) (old other new : List ℕ) : Type 0 where
  pub len : length new ≡ length old
  pub done : (k : ℕ) → k < n → get_or new k 0 ≡ op (get_or old k 0) (get_or other k 0)
  pub left : (k : ℕ) → n ≤ k → get_or new k 0 ≡ get_or old k 0

pub Worked-none : (op : ℕ → ℕ → ℕ) (old other : List ℕ) → Worked op 0 old other old
Worked-none op old other = record { len = refl; done = λ k l. absurd (omega (arith, l)); left = λ k l. refl }

one_more : (op : ℕ → ℕ → ℕ) (n : ℕ) (old other new : List ℕ) (w : ℕ) → Worked op n old other new → n < length new → w ≡ get_or other n 0
    → Worked op (n + 1) old other (set new n (op (get_or new n 0) w))
one_more op n old other new w so_far within is = record {
  len = length-set new n _ ∙ so_far.len;
  done = λ k l. done k l (cases_eq k n);
  left = λ k l. get_or-set_other new n k _ 0 (λ e. absurd (omega (arith, e, l))) ∙ so_far.left k (omega (arith, l));
}
  where
    done : (k : ℕ) → k < n + 1 → (k ≡ n) ⊎ (k ≡ n → ⊥) → get_or (set new n (op (get_or new n 0) w)) k 0 ≡ op (get_or old k 0) (get_or other k 0)
    done k l (inl e) =
        ap (λ i. get_or (set new n (op (get_or new n 0) w)) i 0) e ∙ get_or-set_same new n _ 0 within
        ∙ ap₂ op (so_far.left n (omega arith)) is ∙ ap₂ op (ap (λ i. get_or old i 0) (sym e)) (ap (λ i. get_or other i 0) (sym e))
    done k l (inr ne) = get_or-set_other new n k _ 0 ne ∙ so_far.done k (less k l ne)
      where
        less : (k : ℕ) → k < n + 1 → (k ≡ n → ⊥) → k < n
        less k l ne = grind arith

pub Worked-next : (op : ℕ → ℕ → ℕ) (n : ℕ) (old other new : List ℕ) (x w : ℕ) → Worked op n old other new → n < length new → x ≡ get_or new n x
    → w ≡ get_or other n 0 → Worked op (n + 1) old other (set new n (op x w))
Worked-next op n old other new x w so_far within was is =
    subst (λ y. Worked op (n + 1) old other (set new n (op y w))) (sym (was ∙ get_or_default new n x 0 within)) (one_more op n old other new w so_far within is)

-- the bits that both have
pub met : (n : ℕ) (old other new : List ℕ) → Worked bit_and n old other new → length old ≤ n → (i : ℕ) → row_has new i ≡ (row_has old i && row_has other i)
met n old other new w all i = by (cases_lt (i / 64) n)
  where
    by : (i / 64 < n) ⊎ (n ≤ i / 64) → row_has new i ≡ (row_has old i && row_has other i)
    by (inl l) = ap (λ x. word_has x (i % 64)) (w.done (i / 64) l) ∙ and_has (get_or old (i / 64) 0) (get_or other (i / 64) 0) (i % 64)
    by (inr l) =
        let none : get_or old (i / 64) 0 ≡ 0 = get_or_past old (i / 64) 0 (omega (arith, l, all)) in
        ap (λ x. word_has x (i % 64)) (w.left (i / 64) l ∙ none) ∙ zero_has (i % 64)
        ∙ sym (ap (λ x. word_has x (i % 64) && row_has other i) none ∙ ap (λ b. b && row_has other i) (zero_has (i % 64)))

-- the bits that one of them has: behind the shorter row there is nothing to put, or no room
pub joined : (n : ℕ) (old other new : List ℕ) → Worked bit_or n old other new → min (length old) (length other) ≤ n → (i : ℕ) → i < 64 * length old
    → row_has new i ≡ (row_has old i || row_has other i)
joined n old other new w all i within = by (cases_lt (i / 64) n)
  where
    past : (a b k : ℕ) → min a b ≤ n → n ≤ k → k < a → b ≤ k
    past a b k l m h = grind arith

    or_false : (b : Bool) → (b || false) ≡ b
    or_false true = refl
    or_false false = refl

    by : (i / 64 < n) ⊎ (n ≤ i / 64) → row_has new i ≡ (row_has old i || row_has other i)
    by (inl l) = ap (λ x. word_has x (i % 64)) (w.done (i / 64) l) ∙ or_has (get_or old (i / 64) 0) (get_or other (i / 64) 0) (i % 64)
    by (inr l) =
        let none : get_or other (i / 64) 0 ≡ 0 =
        get_or_past other (i / 64) 0 (past (length old) (length other) (i / 64) all l (omega (arith, within))) in
        ap (λ x. word_has x (i % 64)) (w.left (i / 64) l)
        ∙ sym (ap (λ x. row_has old i || word_has x (i % 64)) none ∙ ap (λ b. row_has old i || b) (zero_has (i % 64)) ∙ or_false (row_has old i))

-- up to the end of the shorter of two rows
pub in_shorter : (i n : ℕ) (old other new : List ℕ) → i < n → n ≡ min (length old) (length other) → length new ≡ length old → i < length new
in_shorter i n old other new l is same = subst (λ k. i < k) (sym same) (least i (length old) (length other) (subst (λ k. i < k) is l))
  where
    least : (i a b : ℕ) → i < min a b → i < a
    least i a b l = grind arith

-- a word without bits
pub no_bit : (row : List ℕ) (w k : ℕ) → get_or row w 0 ≡ 0 → k / 64 ≡ w → HasBit row k → ⊥
no_bit row w k zero at h = differ (sym h ∙ ap (λ j. word_has (get_or row j 0) (k % 64)) at ∙ ap (λ x. word_has x (k % 64)) zero ∙ zero_has (k % 64))
  where
    differ : true ≡ false → ⊥
    differ e = cc

-- up to the next bit, and one more
pub marked_next : (row : List ℕ) (done : List Bool) (start i n : ℕ) → ((k : ℕ) → start ≤ k → k < i → HasBit row k → IsMarked done k)
    → ((k : ℕ) → i ≤ k → k < n → HasBit row k → ⊥) → IsMarked done n → (k : ℕ) → start ≤ k → k < n + 1 → HasBit row k → IsMarked done k
marked_next row done start i n so_far none here k le l h = by (cases k n l)
  where
    cases : (k n : ℕ) → k < n + 1 → (k < n) ⊎ (k ≡ n)
    cases k n l = grind arith

    below : (k < i) ⊎ (i ≤ k) → k < n → IsMarked done k
    below (inl m) j = so_far k le m h
    below (inr m) j = absurd (none k m j h)

    by : (k < n) ⊎ (k ≡ n) → IsMarked done k
    by (inl j) = below (cases_lt k i) j
    by (inr e) = subst (IsMarked done) (sym e) here

-- behind a place in a word without bits
pub passed : (row : List ℕ) (i n : ℕ) → get_or row (i / 64) 0 ≡ 0 → n ≤ i + (64 - i % 64) → (k : ℕ) → i < k → k < n → HasBit row k → ⊥
passed row i n zero le k l m h = no_bit row (i / 64) k zero (omega (arith, l, m, le)) h

-- no bit up to a place, there, and behind it
pub none_to : (row : List ℕ) (from i n : ℕ) → ((k : ℕ) → from ≤ k → k < i → HasBit row k → ⊥) → (HasBit row i → ⊥)
    → ((k : ℕ) → i < k → k < n → HasBit row k → ⊥) → (k : ℕ) → from ≤ k → k < n → HasBit row k → ⊥
none_to row from i n before here behind k l m h = by (cases_lt k i) (cases_lt i k)
  where
    same : (k i : ℕ) → i ≤ k → k ≤ i → k ≡ i
    same k i a b = grind arith

    by : (k < i) ⊎ (i ≤ k) → (i < k) ⊎ (k ≤ i) → ⊥
    by (inl j) o = before k l j h
    by (inr j) (inl o) = behind k o m h
    by (inr j) (inr o) = here (subst (HasBit row) (same k i j o) h)

-- ---- the same word again and again

pub no_bits : (count : ℕ) (row : List ℕ) → row ≡ replicate count 0 → (i : ℕ) → row_has row i ≡ false
no_bits count row is i = ap (λ l. row_has l i) is ∙ ap (λ x. word_has x (i % 64)) (by (cases_lt (i / 64) count)) ∙ zero_has (i % 64)
  where
    nought : ℕ
    nought = 0

    by : (i / 64 < count) ⊎ (count ≤ i / 64) → get_or (replicate count nought) (i / 64) nought ≡ nought
    by (inl h) = get_or-replicate count (i / 64) nought nought h
    by (inr h) = get_or_past (replicate count nought) (i / 64) nought (let l = length-replicate count nought in omega (arith, h, l))

pub room : (places count word : ℕ) (row : List ℕ) → count ≡ places / 64 + 1 → row ≡ replicate count word → places ≤ 64 * length row
room places count word row many is = let e = ap length is in let l = length-replicate count word in omega (arith, many, e, l)

pub all_bits : (places count : ℕ) (row : List ℕ) → count ≡ places / 64 + 1 → row ≡ replicate count (2 ^ 64 - 1) → TellsRow places (λ i. true ≡ true) row
all_bits places count row many is = record {
  as_many = room places count (2 ^ 64 - 1) row many is;
  each = λ i l. (
    λ h. refl,
    λ h.
        ap (λ r. row_has r i) is
        ∙ ap (λ x. word_has x (i % 64)) (get_or-replicate count (i / 64) (2 ^ 64 - 1) 0 (omega (arith, l, many)))
        ∙ ap is_one (bit_at_ones 64 (i % 64) (omega arith)),
  );
}
