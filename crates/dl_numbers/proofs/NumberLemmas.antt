-- Names by their places, and the numbers that they have.
use Rattle.std.proofs.Common.{◌≡◌, ℕ, ◌+◌, ◌-◌, ◌<◌, ◌≤◌, ◌⊎◌, List, length, get_or, slice_get, Some, sym, ap, ◌∙◌, inl, inr, arith}
use Rattle.std.specs.List.Sorted.{IsStrictlyIncreasing}
use Rattle.std.proofs.lemmas.Bool.{cases_eq}
use Rattle.std.proofs.lemmas.List.Kept.{AllPairs-from_increasing}
use Rattle.std.proofs.lemmas.Option.{slice_get-get_or}
use Rattle.dl_numbers.specs.Numbers.{HasNumber}

pub rises : (names : List ℕ) → IsStrictlyIncreasing names → (i j : ℕ) → i ≤ j → j < length names → get_or names i 0 ≤ get_or names j 0
rises names up i j le h = by (cases_eq i j)
  where
    by : (i ≡ j) ⊎ (i ≡ j → ⊥) → get_or names i 0 ≤ get_or names j 0
    by (inl e) = let s = ap (λ k. get_or names k 0) e in omega arith
    by (inr ne) = let s = AllPairs-from_increasing names up i j 0 (omega arith) h in omega arith

-- the name at a place
pub number_at : (names : List ℕ) (place name : ℕ) → place < length names → get_or names place 0 ≡ name → HasNumber names name (place + 1)
number_at names place name h e = record {
  from_one = omega arith;
  is = (let back : place + 1 - 1 ≡ place = omega arith in ap (slice_get names) back) ∙ slice_get-get_or names place 0 h ∙ ap Some e;
}

-- the name with a number
pub named_at : (names : List ℕ) (number name : ℕ) → 1 ≤ number → number ≤ length names → name ≡ get_or names (number - 1) name
    → HasNumber names name number
named_at names number name from_one within read = record {
  from_one = from_one;
  is = slice_get-get_or names (number - 1) name (omega arith) ∙ ap Some (sym read);
}
