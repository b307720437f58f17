-- Lists of so many items, of which each is as its place asks. For private functions.
use Rattle.std.specs.Prelude.{◌≡◌, ℕ, ◌<◌, List, length, slice_index_or}

pub record IsEach {X : Type 0} (d : X) (n : ℕ) (P : ℕ → X → Type 0) (xs : List X) : Type 0 where
  pub as_many : length xs ≡ n
  pub each : (k : ℕ) → k < n → P k (slice_index_or xs k d)
