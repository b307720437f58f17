-- Sorted pairs: what stands before and after a bound, and what is in a part of them.
use Rattle.std.proofs.Common.{◌≡◌, ℕ, ◌+◌, ◌-◌, ◌<◌, ◌≤◌, inl, inr, List, length, get_or, take, drop, sym, ap, ◌∙◌, arith, length-drop, get_or-drop, get_or-take}
use Rattle.std.specs.List.{AllWithin, Contains}
use Rattle.std.specs.List.Sorted.{IsNonDecreasingBy}
use Rattle.std.proofs.lemmas.Bool.{cases_lt}
use Rattle.std.proofs.lemmas.List.{get_or_default, length-take}
use Rattle.std.proofs.lemmas.List.Elements.{Contains-get_or}
use Rattle.dl_join.specs.declared.need.Column.{Column}
use Rattle.dl_join.specs.declared.need.Column.TheVariants.{Second}
use Rattle.dl_join.specs.Needs.{in_column, AreAscending}

module _ {X : Type 0} (n : X → ℕ) (xs : List X) where
  -- what stands up to an item below the bound is below it
  pub below_upto : (at bound : ℕ) (d : X) → IsNonDecreasingBy n xs → at < length xs → n (get_or xs at d) < bound → AllWithin (λ x. n x < bound) xs 0 (at + 1)
  below_upto at bound d up h lt = λ k e low here.
      let le = up k at e (omega arith) h in
      let same = ap n (get_or_default xs at e d h) in
      omega arith

  -- what stands from an item on that is not below the bound isn't either
  pub above_from : (at bound : ℕ) (d : X) → IsNonDecreasingBy n xs → at < length xs → bound ≤ n (get_or xs at d) → AllWithin (λ x. bound ≤ n x) xs at (length xs)
  above_from at bound d up h le = λ k e from here.
      let more = up at k e from here in
      let same = ap n (get_or_default xs at e d h) in
      omega arith

  -- a member of a rest is one of the whole
  pub in_drop : (k : ℕ) (x : X) → Contains (drop k xs) x → Contains xs x
  in_drop k x w = (k + w.0, (let size = length-drop k xs in let inside = w.1 in omega arith), sym (get_or-drop k xs w.0 x) ∙ w.2)

  pub in_take : (k : ℕ) (x : X) → Contains (take k xs) x → Contains xs x
  in_take k x w =
      let size = length-take k xs in
      let inside = w.1 in
      let front : w.0 < k = omega arith in
      (w.0, omega arith, sym (get_or-take k xs w.0 x front) ∙ w.2)

  -- a member that is not among those passed is in the rest
  pub kept_drop : (k bound : ℕ) (x : X) → AllWithin (λ y. n y < bound) xs 0 k → bound ≤ n x → Contains xs x → Contains (drop k xs) x
  kept_drop k bound x below le w = elim (cases_lt w.0 k) [
    | inl lt ↦
        (let small = below w.0 x (omega arith) lt in
        let same = ap n w.2 in
        absurd (omega arith))
    | inr past ↦
        (let size = length-drop k xs in
        let inside = w.1 in
        let place : k + (w.0 - k) ≡ w.0 = omega arith in
        (w.0 - k, omega arith, get_or-drop k xs (w.0 - k) x ∙ ap (λ i. get_or xs i x) place ∙ w.2))
  ]

  pub kept_take : (k bound : ℕ) (x : X) → AllWithin (λ y. bound ≤ n y) xs k (length xs) → n x < bound → Contains xs x → Contains (take k xs) x
  kept_take k bound x above lt w = elim (cases_lt w.0 k) [
    | inl front ↦
        (let size = length-take k xs in
        let inside = w.1 in
        (w.0, omega arith, get_or-take k xs w.0 x front ∙ w.2))
    | inr past ↦
        (let big = above w.0 x past w.1 in
        let same = ap n w.2 in
        absurd (omega arith))
  ]

  pub floor_drop : (k bound : ℕ) (x : X) → AllWithin (λ y. bound ≤ n y) xs k (length xs) → Contains (drop k xs) x → bound ≤ n x
  floor_drop k bound x above w =
      let size = length-drop k xs in
      let inside = w.1 in
      let big = above (k + w.0) x (omega arith) (omega arith) in
      let same = ap n (sym (get_or-drop k xs w.0 x) ∙ w.2) in
      omega arith

  pub ceiling_take : (k bound : ℕ) (x : X) → AllWithin (λ y. n y < bound) xs 0 k → Contains (take k xs) x → n x < bound
  ceiling_take k bound x below w =
      let size = length-take k xs in
      let inside = w.1 in
      let front : w.0 < k = omega arith in
      let small = below w.0 x (omega arith) front in
      let same = ap n (sym (get_or-take k xs w.0 x front) ∙ w.2) in
      omega arith

-- a rest of pairs is in order
pub ascending_drop : (c : Column) (pairs : List (ℕ × ℕ)) (k : ℕ) → AreAscending c pairs → AreAscending c (drop k pairs)
ascending_drop c pairs k up = record {
  names = λ i j d le h.
      let size = length-drop k pairs in
      let rise = up.names (k + i) (k + j) d (omega arith) (omega arith) in
      rw (get_or-drop k pairs i d, get_or-drop k pairs j d) rise;
  seconds = λ i j d le h e.
      let size = length-drop k pairs in
      let same = rw (get_or-drop k pairs i d, get_or-drop k pairs j d) at e in
      let rise = up.seconds (k + i) (k + j) d (omega arith) (omega arith) same in
      rw (get_or-drop k pairs i d, get_or-drop k pairs j d) rise;
}

-- pairs of one name in a column are in order by the second column
pub ascending_run : (c : Column) (pairs : List (ℕ × ℕ)) (k name : ℕ) → AreAscending c pairs → ((p : ℕ × ℕ) → Contains pairs p → name ≤ in_column c p)
    → AllWithin (λ p. in_column c p < name + 1) pairs 0 k → AreAscending Second (take k pairs)
ascending_run c pairs k name up floor below = record {
  names = λ i j d le h.
      let size = length-take k pairs in
      let front : i < k = omega arith in
      let back : j < k = omega arith in
      let low = floor (get_or pairs i d) (Contains-get_or pairs i d (omega arith)) in
      let high = floor (get_or pairs j d) (Contains-get_or pairs j d (omega arith)) in
      let low_ends = below i d (omega arith) front in
      let high_ends = below j d (omega arith) back in
      let rise = up.seconds i j d le (omega arith) (omega arith) in
      rw (get_or-take k pairs i d front, get_or-take k pairs j d back) rise;
  seconds = λ i j d le h e. omega arith;
}
