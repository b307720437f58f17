-- Terms as the nodes of a graph: a term's node is its index in a list. For private functions.
use Rattle.std.specs.Prelude.{◌≡◌, ℕ, ◌<◌, List, length, slice_index_or}

-- the item stands at the index
pub record StandsAt {A : Type 0} (items : List A) (index : ℕ) (item : A) : Type 0 where
  pub within : index < length items
  pub is : slice_index_or items index item ≡ item

-- the items at both ends of an edge
abbrev pub ends_of : {A : Type 0} → A → List A → ℕ × ℕ → A × A
ends_of d items e = (slice_index_or items e.0 d, slice_index_or items e.1 d)
