-- One interval list for a set of numbers, and no shorter list of intervals.
use Rattle.std.proofs.Common.{◌≡◌, ℕ, suc, ◌+◌, ◌<◌, ◌≤◌, ◌⊎◌, inl, inr, List, [], ◌∷◌, length, get_or, refl, sym, ap, ◌∙◌, arith}
use Rattle.std.proofs.lemmas.Bool.{cases_order, cases_lt}
use Rattle.std.proofs.lemmas.List.{get_or_default}
use Rattle.std.proofs.lemmas.List.Elements.{All-tail}
use Rattle.dl_intervals.specs.Intervals.{Interval, IsWithin, Holds, IsIntervalList, HoldSame, IsFewest}
use Rattle.dl_intervals.proofs.Lists.{Any-cons, Any-first, Any-later, Any-nil, AllPairs-tail, pigeonhole}

-- the number after an interval is left out
gap_at : (is : List Interval) (i k : ℕ) (d e : Interval) → IsIntervalList is → i < length is → k < length is → get_or is k e ≡ e → IsWithin ((get_or is i d).1 + 1) e → (i ≡ k) ⊎ ((i < k) ⊎ (k < i)) → ⊥
gap_at is i k d e s hi hk at w (inl same) =
    let here : get_or is i e ≡ e = ap (λ j. get_or is j e) same ∙ at in
    let there : get_or is i d ≡ e = get_or_default is i d e hi ∙ here in
    let ends = ap (λ (j : Interval). j.1) there in
    omega arith
gap_at is i k d e s hi hk at w (inr (inl lt)) =
    let below = s.apart i k d lt hk in
    let there : get_or is k d ≡ e = get_or_default is k d e hk ∙ at in
    let starts = ap (λ (j : Interval). j.0) there in
    omega arith
gap_at is i k d e s hi hk at w (inr (inr gt)) =
    let below = s.apart k i d gt hi in
    let holds = s.inhabited i d hi in
    let there : get_or is k d ≡ e = get_or_default is k d e hk ∙ at in
    let ends = ap (λ (j : Interval). j.1) there in
    omega arith

pub gap : (is : List Interval) (i : ℕ) (d : Interval) → IsIntervalList is → i < length is → Holds is ((get_or is i d).1 + 1) → ⊥
gap is i d s hi w = gap_at is i w.0 d w.1 s hi w.2 w.3 w.4 (cases_order i w.0)

-- a later interval begins after the gap
pub later_above : (i : Interval) (is : List Interval) (n : ℕ) → IsIntervalList (i ∷ is) → Holds is n → i.1 + 1 < n
later_above i is n s w =
    let above = s.apart 0 (suc w.0) w.1 (omega arith) (omega arith) in
    let starts = ap (λ (j : Interval). j.0) w.3 in
    omega arith

-- no number of the list stands before the first interval
pub starts_at : (i : Interval) (is : List Interval) (n : ℕ) → IsIntervalList (i ∷ is) → Holds (i ∷ is) n → i.0 ≤ n
starts_at i is n s w =
    elim (Any-cons (IsWithin n) i is w) [
      | inl h ↦ h.0
      | inr h ↦ (let first = s.inhabited 0 i (omega arith) in let above = later_above i is n s h in omega arith)
    ]

pub rest_of : (i : Interval) (is : List Interval) → IsIntervalList (i ∷ is) → IsIntervalList is
rest_of i is s = record { inhabited = All-tail (λ j. j.0 ≤ j.1) i is s.inhabited; apart = AllPairs-tail (λ j k. j.1 + 1 < k.0) i is s.apart }

pub first_held : (i : Interval) (is : List Interval) → IsIntervalList (i ∷ is) → Holds (i ∷ is) i.0
first_held i is s = let h = s.inhabited 0 i (omega arith) in Any-first (IsWithin i.0) i is (omega arith, h)

-- the first interval reaches as far as that of another list with the same numbers
end_le : (i j : Interval) (is js : List Interval) → IsIntervalList (i ∷ is) → IsIntervalList (j ∷ js) → HoldSame (i ∷ is) (j ∷ js) → i.0 ≡ j.0 → (i.1 < j.1) ⊎ (j.1 ≤ i.1) → j.1 ≤ i.1
end_le i j is js s t same e (inr h) = h
end_le i j is js s t same e (inl lt) =
    let mine = s.inhabited 0 i (omega arith) in
    let held : Holds (j ∷ js) (i.1 + 1) = Any-first (IsWithin (i.1 + 1)) j js (omega arith, omega arith) in
    absurd (gap (i ∷ is) 0 i s (omega arith) ((same (i.1 + 1)).1 held))

HoldSame-flip : (is js : List Interval) → HoldSame is js → HoldSame js is
HoldSame-flip is js same n = ((same n).1, (same n).0)

-- the numbers after equal first intervals are those of the rests
rest_held : (i j : Interval) (is js : List Interval) → IsIntervalList (i ∷ is) → i.1 ≡ j.1 → HoldSame (i ∷ is) (j ∷ js) → (n : ℕ) → Holds is n → Holds js n
rest_held i j is js s e same n w =
    let above = later_above i is n s w in
    elim (Any-cons (IsWithin n) j js ((same n).0 (Any-later (IsWithin n) i is w))) [
      | inl h ↦ absurd (omega arith)
      | inr h ↦ h
    ]

pair_same : (a b c d : ℕ) → a ≡ c → b ≡ d → (let i : Interval = (a, b) in i) ≡ (let j : Interval = (c, d) in j)
pair_same a b c d p q = cc

-- one interval list for a set of numbers
pub one_list : (is js : List Interval) → IsIntervalList is → IsIntervalList js → HoldSame is js → is ≡ js
one_list [] [] s t same = refl
one_list [] (j ∷ js) s t same = absurd (Any-nil (IsWithin j.0) ((same j.0).1 (first_held j js t)))
one_list (i ∷ is) [] s t same = absurd (Any-nil (IsWithin i.0) ((same i.0).0 (first_held i is s)))
one_list (i ∷ is) (j ∷ js) s t same =
    let flip : HoldSame (j ∷ js) (i ∷ is) = HoldSame-flip (i ∷ is) (j ∷ js) same in
    let down = starts_at j js i.0 t ((same i.0).0 (first_held i is s)) in
    let up = starts_at i is j.0 s ((same j.0).1 (first_held j js t)) in
    let starts : i.0 ≡ j.0 = omega arith in
    let ends_down = end_le i j is js s t same starts (cases_lt i.1 j.1) in
    let ends_up = end_le j i js is t s flip (sym starts) (cases_lt j.1 i.1) in
    let ends : i.1 ≡ j.1 = omega arith in
    let head = pair_same i.0 i.1 j.0 j.1 starts ends in
    let tail = one_list is js (rest_of i is s) (rest_of j js t) (λ n. (rest_held i j is js s ends same n, rest_held j i js is t (sym ends) flip n)) in
    cc (head, tail)

-- an interval that holds the first number of an interval of the list, and only numbers of the list
Covers : List Interval → Interval → Interval → Type 0
Covers is i j = IsWithin i.0 j × ((n : ℕ) → IsWithin n j → Holds is n)

-- an interval list has the fewest intervals
pub fewest : (is : List Interval) → IsIntervalList is → IsFewest is
unfolding Covers
fewest is s js same =
    pigeonhole (Covers is) is js
    (λ k d h.
    let held = s.inhabited k d h in
    let w = (same (get_or is k d).0).0 (k, get_or is k d, h, get_or_default is k (get_or is k d) d h, (omega arith, held)) in
    (w.0, w.1, w.2, w.3, (w.4, λ n in_it. (same n).1 (w.0, w.1, w.2, w.3, in_it))))
    (λ k l d lt h y p q.
    let held = s.inhabited k d (omega arith) in
    let below = s.apart k l d lt h in
    gap is k d s (omega arith) (p.1 ((get_or is k d).1 + 1) (omega arith, omega arith)))
