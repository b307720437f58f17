-- What a probe asks of the names for variables: a need. How needs stand, are moved and are narrowed in the search.
use Rattle.std.specs.Prelude.{◌≡◌, ◌≢◌, ℕ, ◌<◌, ◌≤◌, ◌⊎◌, ◌↔◌, List, [], ◌∷◌, ◌++◌, length, slice_index_or, Some, None}
use Rattle.std.specs.List.{All, Any, Contains}
use Rattle.std.specs.List.Sorted.{IsNonDecreasingBy}
use Rattle.dl_join.specs.declared.need.Column.{Column}
use Rattle.dl_join.specs.declared.need.Column.TheVariants.{First, Second}
use Rattle.dl_join.specs.declared.need.Need.{Need}

-- the name of a pair in a column
abbrev pub in_column : Column → ℕ × ℕ → ℕ
in_column First p = p.0
in_column Second p = p.1

-- pairs in order by a column, and those with one name there by the second column
pub record AreAscending (column : Column) (pairs : List (ℕ × ℕ)) : Type 0 where
  pub names : IsNonDecreasingBy (in_column column) pairs
  pub seconds : (i j : ℕ) (d : ℕ × ℕ) → i ≤ j → j < length pairs
      → in_column column (slice_index_or pairs i d) ≡ in_column column (slice_index_or pairs j d)
      → (slice_index_or pairs i d).1 ≤ (slice_index_or pairs j d).1

abbrev pub IsAscending : Need → Type 0
IsAscending need = AreAscending need.column need.pairs.now

-- a need holds: one of its pairs has the name for its variable, and the name for the other one where there is one
pub record NeedHolds (names : ℕ → ℕ) (need : Need) : Type 0 where
  pub pair : ℕ × ℕ
  pub among : Contains need.pairs.now pair
  pub here : in_column need.column pair ≡ names need.at
  pub there : (w : ℕ) → need.other ≡ Some w → pair.1 ≡ names w

-- a need allows a name for its variable
pub record Allows (name : ℕ) (need : Need) : Type 0 where
  pub pair : ℕ × ℕ
  pub among : Contains need.pairs.now pair
  pub here : in_column need.column pair ≡ name

-- a need stands between two names: no pair of it is below the lower one, and some pair isn't above the higher
pub record Stands (low high : ℕ) (need : Need) : Type 0 where
  pub ascending : IsAscending need
  pub floor : (p : ℕ × ℕ) → Contains need.pairs.now p → low ≤ in_column need.column p
  pub pair : ℕ × ℕ
  pub among : Contains need.pairs.now pair
  pub ceiling : in_column need.column pair ≤ high

-- a need without some of the pairs that are below a bound
pub record IsMoved (bound : ℕ) (old new : Need) : Type 0 where
  pub at : new.at ≡ old.at
  pub other : new.other ≡ old.other
  pub column : new.column ≡ old.column
  pub within : (p : ℕ × ℕ) → Contains new.pairs.now p → Contains old.pairs.now p
  pub kept : (p : ℕ × ℕ) → bound ≤ in_column old.column p → Contains old.pairs.now p
      → Contains new.pairs.now p

-- the same of each of two lists of needs
pub record AreMoved (bound : ℕ) (olds news : List Need) : Type 0 where
  pub count : length news ≡ length olds
  pub each : (k : ℕ) (d : Need) → k < length olds
      → IsMoved bound (slice_index_or olds k d) (slice_index_or news k d)

-- what a need for two variables asks of the second one at a name for the first
pub record IsNarrowed (name : ℕ) (wide narrow : Need) : Type 0 where
  pub at : wide.other ≡ Some narrow.at
  pub other : narrow.other ≡ None
  pub column : narrow.column ≡ Second
  pub ascending : IsAscending narrow
  pub pairs : (p : ℕ × ℕ) → Contains narrow.pairs.now p ↔ (Contains wide.pairs.now p × (in_column wide.column p ≡ name))

-- what some needs ask of other variables at a name for theirs
pub record AreNarrowed (name : ℕ) (wide narrow : List Need) : Type 0 where
  pub from : All (λ n. Any (λ a. IsNarrowed name a n) wide) narrow
  pub to : All (λ a. (w : ℕ) → a.other ≡ Some w → Any (λ n. IsNarrowed name a n) narrow) wide

-- they are added at the end of a list
pub record AddsNarrowed (name : ℕ) (wide old new : List Need) : Type 0 where
  pub added : List Need
  pub is : new ≡ old ++ added
  pub narrowed : AreNarrowed name wide added

-- a variable is in a need
abbrev pub Mentions : ℕ → Need → Type 0
Mentions v need = (need.at ≡ v) ⊎ (need.other ≡ Some v)

-- in the order of the search a need's variable is met before its other one, which is another
abbrev pub Fits : List ℕ → ℕ → (ℕ → Type 0) → Type 0
Fits [] at IsOther = ⊥
Fits (v ∷ rest) at IsOther =
    ((at ≡ v) × ((w : ℕ) → IsOther w → (w ≢ v) × Contains rest w))
    ⊎ ((at ≢ v) × ((w : ℕ) → IsOther w → w ≢ v) × Fits rest at IsOther)

abbrev pub FitsOrder : List ℕ → Need → Type 0
FitsOrder order need = Fits order need.at (λ w. need.other ≡ Some w)
