-- Tuples gathered: those that are known to be distinct, and fresh ones.
use Rattle.std.specs.Prelude.{◌≡◌, ℕ, ◌≤◌, ◌⊎◌, List, length}
use Rattle.std.specs.List.{All, Contains}
use Rattle.dl_terms.specs.Answers.{AscendStrictly}
use Rattle.dl_join.specs.declared.gather.Gathered.{Gathered}

-- a tuple was gathered
abbrev pub Has : Gathered → List ℕ → Type 0
Has g tuple = Contains g.known.tuples tuple ⊎ Contains g.fresh tuple

-- those known ascend, and are within the limit
pub record IsGathered (g : Gathered) : Type 0 where
  pub ascending : AscendStrictly g.known.tuples
  pub within : length g.known.tuples ≤ g.limit
  pub widths : All (λ tuple. length tuple ≡ g.known.width) g.fresh

-- exactly the tuples of which P holds were gathered besides
pub record Gathers (P : List ℕ → Type 0) (old new : Gathered) : Type 0 where
  pub valid : IsGathered new
  pub limit : new.limit ≡ old.limit
  pub width : new.known.width ≡ old.known.width
  pub kept : (tuple : List ℕ) → Has old tuple → Has new tuple
  pub found : (tuple : List ℕ) → P tuple → Has new tuple
  pub only : (tuple : List ℕ) → Has new tuple → Has old tuple ⊎ P tuple
