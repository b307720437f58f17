-- What the atoms of a query ask where some variables of a set stand at one role, as tests of bits. For private
-- functions.
use Rattle.std.specs.Prelude.{ℕ, ◌≡◌, ◌≤◌, Bool, true, not, ◌&&◌, ◌||◌, List, [], map, nat_eq, bit_and, slice_index_or}
use Rattle.std.specs.List.{Contains, list_all}
use Rattle.std.specs.Int.{bit_not, w8}
use Rattle.dl_reach.specs.Rows.{row_has}
use Rattle.dl_tree.specs.declared.atoms.AtomTest.{AtomTest}
use Rattle.dl_tree.specs.declared.atoms.AtomTest.TheVariants.{Is, Link}
use Rattle.dl_tree.specs.declared.atoms.AtomRows.{AtomRows}
use Rattle.dl_tree.specs.declared.atoms.AtomRows.TheVariants as rows

-- a bit is in a mask
abbrev pub has : ℕ → ℕ → Bool
has bit mask = not (nat_eq (bit_and bit mask) 0)

-- of the two terms of a role atom one is in the set
abbrev pub crosses : ℕ → ℕ × ℕ → Bool
crosses s e = (has e.0 s && not (has e.1 s)) || (has e.1 s && not (has e.0 s))

abbrev pub test_stands : ℕ → ℕ → AtomTest → Bool
test_stands s m (Is bit holds) = not (has bit m) || holds
test_stands s m (Link from to out into) =
    (not (has from m) || not (has to m)) && (not (has from s) || has to s || (has from m && out))
    && (not (has to s) || has from s || (has to m && into))

-- the members of m may stand at the role, and the rest of s folds below it
abbrev pub splits_at : List AtomTest → (ℕ → Bool) → ℕ → ℕ → Bool
splits_at tests below s m =
    nat_eq (bit_and m s) m && below (bit_and s (bit_not w8 m)) && list_all (test_stands s m) tests

-- what rows of a table say at one place
abbrev pub column : List (List ℕ) → ℕ → ℕ → Bool
column rows i m = row_has (slice_index_or rows m []) i

-- what the rows of an atom ask at one place
abbrev pub test_at : ℕ → AtomRows → AtomTest
test_at i (rows.Is bit holds) = Is bit (row_has holds i)
test_at i (rows.Link from to out into) = Link from to (row_has out i) (row_has into i)

abbrev pub tests_at : List AtomRows → ℕ → List AtomTest
tests_at atoms i = map (test_at i) atoms

-- the members of m may stand at a role as far as the role atoms ask, whatever the role
abbrev pub may_split : List (ℕ × ℕ) → ℕ → ℕ → Bool
may_split links s m = nat_eq (bit_and m s) m && list_all (λ e. test_stands s m (Link e.0 e.1 true true)) links

-- the sets of members of a set that may stand at a role at all
pub record AreTops (links : List (ℕ × ℕ)) (s : ℕ) (tops : List ℕ) : Type 0 where
  pub some : (m : ℕ) → Contains tops m → 1 ≤ m
  pub within : (m : ℕ) → Contains tops m → m ≤ s
  pub each : (m : ℕ) → 1 ≤ m → m ≤ s → may_split links s m ≡ true → Contains tops m

-- some of these sets of members may stand at the role
abbrev pub SomeSplit : List AtomTest → (ℕ → Bool) → List ℕ → ℕ → Type 0
SomeSplit tests below tops s = (m : ℕ) × Contains tops m × (splits_at tests below s m ≡ true)
