-- What a binary search by the last numbers tells, and how many intervals fit below a limit.
use Rattle.std.proofs.Common.{◌≡◌, ℕ, zero, suc, ◌-◌, ◌<◌, ◌≤◌, ◌^◌, ◌⊎◌, inl, inr, true, false, ltb, List, length, get_or, sym, ap, ◌∙◌, subst, arith}
use Rattle.std.specs.List.Sorted.{IsNonDecreasingBy, IsPartitionPoint}
use Rattle.std.proofs.lemmas.List.{get_or_default}
use Rattle.std.proofs.lemmas.Bool.{cases_lt, cases_eq, ltb-true, ltb-false}
use Rattle.dl_intervals.specs.Intervals.{Interval, Holds, IsIntervalList, EndBelow}

ends_rise_at : (is : List Interval) (s : IsIntervalList is) (i j : ℕ) (d : Interval) → j < length is → (i ≡ j) ⊎ (i < j) → (get_or is i d).1 ≤ (get_or is j d).1
ends_rise_at is s i j d h (inl same) = rw same (omega arith)
ends_rise_at is s i j d h (inr lt) =
    let below = s.apart i j d lt h in
    let held = s.inhabited j d h in
    omega arith

-- the last numbers of an interval list rise
pub ends_rise : (is : List Interval) → IsIntervalList is → IsNonDecreasingBy (λ i. i.1) is
ends_rise is s = λ i j d le h. ends_rise_at is s i j d h (elim (cases_eq i j) [ inl same ↦ inl same | inr differs ↦ inr (omega arith) ])

-- a number stands nowhere where the first interval that doesn't end before it begins after it
pub not_held : (is : List Interval) (at n : ℕ) → IsIntervalList is → ((k : ℕ) (d : Interval) → k < at → (get_or is k d).1 < n) → ((d : Interval) → at < length is → n < (get_or is at d).0) → Holds is n → ⊥
not_held is at n s ended begins w = elim (cases_lt w.0 at) [
  | inl before ↦
      (let ends = ended w.0 w.1 before in
      let last = ap (λ (j : Interval). j.1) w.3 in
      omega arith)
  | inr after ↦
      (let starts = begins w.1 (omega arith) in
      let first = ap (λ (j : Interval). j.0) w.3 in
      elim (cases_eq at w.0) [
        | inl same ↦ (let here = subst (λ k. n < (get_or is k w.1).0) same starts in omega arith)
        | inr differs ↦
            (let below = s.apart at w.0 w.1 (omega arith) w.2 in
            let held = s.inhabited at w.1 (omega arith) in
            omega arith)
      ])
]

-- the interval at k begins at k or later
start_at_least : (is : List Interval) → IsIntervalList is → (k : ℕ) (d : Interval) → k < length is → k ≤ (get_or is k d).0
start_at_least is s zero d h = omega arith
start_at_least is s (suc k) d h =
    let before = start_at_least is s k d (omega arith) in
    let held = s.inhabited k d (omega arith) in
    let below = s.apart k (suc k) d (omega arith) h in
    omega arith

-- no more intervals than numbers
pub length_small : (is : List Interval) → IsIntervalList is → EndBelow (2 ^ 31) is → length is ≤ 2 ^ 31
length_small is s small = elim (cases_eq (length is) 0) [
  | inl none ↦ omega arith
  | inr some ↦
      (let d : Interval = (0, 0) in
      let start = start_at_least is s (length is - 1) d (omega arith) in
      let held = s.inhabited (length is - 1) d (omega arith) in
      let ends = small (length is - 1) d (omega arith) in
      omega arith)
]

-- the number stands in the list exactly where the interval at the partition point begins by it
pub held_at_point : (is : List Interval) (at n : ℕ) (read : Interval) → IsIntervalList is → IsPartitionPoint (λ i. ltb i.1 n ≡ true) (λ i. ltb i.1 n ≡ false) is at → at < length is → read ≡ get_or is at read → (read.0 ≤ n → Holds is n) × (Holds is n → read.0 ≤ n)
held_at_point is at n read s point h here =
    let reaches : ltb read.1 n ≡ false = rw here (point.1 at read (omega arith) h) in (
      λ low. (at, read, h, sym here, (low, ltb-false _ _ reaches)),
      λ w. elim (cases_lt n read.0) [
        | inl past ↦ absurd (not_held is at n s (λ k d lt. ltb-true _ _ (point.0 k d (omega arith) lt)) (λ d lt. (let same : get_or is at d ≡ read = get_or_default is at d read h ∙ sym here in rw same past)) w)
        | inr by ↦ by
      ],
    )

-- no interval reaches the number where the partition point is the end
pub not_held_past : (is : List Interval) (at n : ℕ) → IsIntervalList is → IsPartitionPoint (λ i. ltb i.1 n ≡ true) (λ i. ltb i.1 n ≡ false) is at → length is ≤ at → Holds is n → ⊥
not_held_past is at n s point h w = not_held is at n s (λ k d lt. ltb-true _ _ (point.0 k d (omega arith) lt)) (λ d lt. absurd (omega arith)) w
