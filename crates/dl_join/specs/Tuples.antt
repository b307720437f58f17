-- Lists of tuples, each once and in order: what is exact, what is over a limit, and what comes next of two lists.
use Rattle.std.specs.Prelude.{◌≡◌, ℕ, ◌<◌, ◌↔◌, List, [], length, slice_index_or}
use Rattle.std.specs.declared.cmp.Ordering.{Ordering}
use Rattle.std.specs.declared.cmp.Ordering.TheVariants.{Less, Equal, Greater}
use Rattle.std.specs.List.{All, Contains}
use Rattle.std.specs.Ordering.{nat_cmp}
use Rattle.std.specs.Cmp.Lexicographic.{slice_cmp}
use Rattle.dl_terms.specs.Answers.{AscendStrictly}

-- exactly the tuples of which P holds, each once, ascending
pub record AreExactly (P : List ℕ → Type 0) (tuples : List (List ℕ)) : Type 0 where
  pub ascending : AscendStrictly tuples
  pub exact : (tuple : List ℕ) → Contains tuples tuple ↔ P tuple

-- P holds of more than so many distinct tuples: a list of them that ascends strictly is longer
pub record AreMoreThan (limit : ℕ) (P : List ℕ → Type 0) : Type 0 where
  pub tuples : List (List ℕ)
  pub ascending : AscendStrictly tuples
  pub each : All P tuples
  pub longer : limit < length tuples

-- the order of tuples: by their names from left to right
abbrev pub tuple_cmp : List ℕ → List ℕ → Ordering
tuple_cmp = slice_cmp nat_cmp

-- a tuple stands at an index of a list
pub record StandsAt (xs : List (List ℕ)) (i : ℕ) (x : List ℕ) : Type 0 where
  pub inside : i < length xs
  pub is : slice_index_or xs i [] ≡ x

-- a tuple is before what stands at an index, if anything does
abbrev pub IsBefore : List (List ℕ) → ℕ → List ℕ → Type 0
IsBefore xs i x = i < length xs → tuple_cmp x (slice_index_or xs i []) ≡ Less

-- the next tuple of two lists, from an index of each on: `left` of the first, or `right` of the second or both
abbrev pub IsNext : Ordering → List (List ℕ) → ℕ → List (List ℕ) → ℕ → List ℕ → List ℕ
    → Type 0
IsNext Less xs i ys j left right = StandsAt xs i left × IsBefore ys j left
IsNext Equal xs i ys j left right = StandsAt xs i right × StandsAt ys j right
IsNext Greater xs i ys j left right = StandsAt ys j right × IsBefore xs i right

-- the one that is next has the width of its list
abbrev pub FitsWidth : Ordering → ℕ → ℕ → List ℕ → List ℕ → Type 0
FitsWidth Less w v left right = length left ≡ w
FitsWidth Equal w v left right = length right ≡ v
FitsWidth Greater w v left right = length right ≡ v

-- all tuples of a list are before another one
abbrev pub AllBefore : List (List ℕ) → List ℕ → Type 0
AllBefore xs x = All (λ y. tuple_cmp y x ≡ Less) xs

-- how a tuple compares with the last of a list that ascends: it is before it, or is there, or is after all
abbrev pub ComparesLast : Ordering → List (List ℕ) → List ℕ → Type 0
ComparesLast Less xs x = Unit {0}
ComparesLast Equal xs x = Contains xs x
ComparesLast Greater xs x = AllBefore xs x
