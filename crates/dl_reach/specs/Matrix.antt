-- Bit matrices in one list of words: each row has `width` words of 64 bits, the lowest bit first,
-- and the rows follow one another.
use Rattle.std.specs.Prelude.{◌≡◌, ℕ, ◌+◌, ◌*◌, ◌/◌, ◌%◌, ◌<◌, ◌≤◌, ◌↔◌, List, All, length, slice_index}
use Rattle.std.specs.Int.{bit_at}
use Rattle.dl_reach.specs.Chain.{Chain}
use Rattle.dl_reach.specs.Digraph.{Leads}

-- the bit of a row at a column is set
pub record HasBit (words : List ℕ) (width row column : ℕ) : Type 0 where
  pub in_row : column < 64 * width
  pub is_set : bit_at (slice_index words (row * width + column / 64)) (column % 64) ≡ 1

-- the words have a row of this number
abbrev pub HasRow : List ℕ → ℕ → ℕ → Type 0
HasRow words width row = row * width + width ≤ length words

-- both numbers of each pair are rows, and columns
abbrev pub AreRows : List ℕ → ℕ → List (ℕ × ℕ) → Type 0
AreRows words width pairs =
    All (λ p. HasRow words width p.0 × HasRow words width p.1 × (p.1 < 64 * width)) pairs

-- the bits that were set are, and each bit that is set is a chain of bits that were
pub record Extends (width : ℕ) (old new : List ℕ) : Type 0 where
  pub kept : (row column : ℕ) → HasBit old width row column → HasBit new width row column
  pub chained :
      (row column : ℕ) → HasBit new width row column → Chain (HasBit old width) row column

-- where the row has the bit of the other, it has all bits of the other
pub record IsFollowed (words : List ℕ) (width row other : ℕ) : Type 0 where
  pub follows :
      HasBit words width row other
      → (column : ℕ) → HasBit words width other column → HasBit words width row column

-- the bits of the rows below `nodes` are the chains of the edges
abbrev pub HasChains : List ℕ → ℕ → ℕ → List (ℕ × ℕ) → Type 0
HasChains words width nodes edges =
    (row column : ℕ) → row < nodes → HasBit words width row column ↔ Chain (Leads edges) row column
