-- What numbers in depth-first order are good for (the semantic index of Rodríguez-Muro and Calvanese): each name has one
-- number, and in a forest the names below one have the numbers of one interval.
use Rattle.std.specs.Prelude.{◌≡◌, ℕ, ◌≤◌, ◌↔◌, ◌⊎◌, List, length, Contains}
use Rattle.dl_numbers.specs.Numbers.{HasNumber}

-- each of the names has exactly one number, and nothing else has one: they are 1 to the count of the names
pub record AreNumbered (names numbered : List ℕ) : Type 0 where
  pub each : (name : ℕ) → Contains names name → (number : ℕ) × HasNumber numbered name number
  pub only : (name number : ℕ) → HasNumber numbered name number → Contains names name
  pub one : (name m n : ℕ) → HasNumber numbered name m → HasNumber numbered name n → m ≡ n
  pub count : length numbered ≡ length names

-- the order is a forest: any two named predicates above one are comparable
abbrev pub IsForest : List ℕ → (ℕ → ℕ → Type 0) → Type 0
IsForest names Below =
    (a b c : ℕ) → Contains names a → Contains names b → Contains names c → Below a b → Below a c → Below b c ⊎ Below c b

-- the names of which something holds are those with the numbers of one interval, both ends included
pub record HasOneInterval (numbered : List ℕ) (IsThat : ℕ → Type 0) : Type 0 where
  pub first : ℕ
  pub last : ℕ
  pub exact : (name number : ℕ) → HasNumber numbered name number → IsThat name ↔ ((first ≤ number) × (number ≤ last))
