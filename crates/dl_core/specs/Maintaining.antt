-- What maintenance makes of a root's entries and shards. This is this project's own.
use Rattle.std.specs.Prelude.{◌≡◌, ◌≢◌, ℕ, ◌+◌, ◌-◌, ◌<◌, ◌≤◌, cond, ◌==◌, List, [], length, slice_index_or}
use Rattle.dl_row.specs.Lists.{count}
use Rattle.dl_row.specs.Shards.{max_rows}
use Rattle.dl_row.specs.declared.row.Row.{Row}
use Rattle.dl_epoch.specs.Covering.{Kept}
use Rattle.dl_migrate.specs.Tallies.{carries, listed}
use Rattle.dl_core.specs.Root.{Root, shard}
use Rattle.dl_core.specs.Next.{with_rows}
use Rattle.dl_core.specs.Held.{IsSound, counting}

-- an entry that counts fewer rows by those that went, and more by those that came where they came to its epoch
abbrev pub recounted : List (ℕ × ℕ) → ℕ → ℕ → Kept → Kept
recounted gone id come k = counting (k.rows - listed k.epoch.id gone + cond (k.epoch.id == id) come 0) k

-- an entry counts no more rows than a root has at most, and no fewer than went
pub record HasThose (gone : List (ℕ × ℕ)) (k : Kept) : Type 0 where
  pub most : k.rows ≤ max_rows
  pub fewer : listed k.epoch.id gone ≤ k.rows

-- other rows, with which a root stands for some history: those of one shard are these; by epoch some went, others came
-- to the current one, and some were dropped
pub record IsRefill (root : Root) (i : ℕ) (rows this : List Row) (gone : List (ℕ × ℕ)) (come dropped : ℕ) : Type 0 where
  pub this_is : shard (with_rows root rows) i ≡ this
  pub others : (j : ℕ) → j ≢ i → shard (with_rows root rows) j ≡ shard root j
  pub kept : length rows + dropped ≡ length root.rows
  pub fewer : (id : ℕ) → listed id gone ≤ count (carries id) root.rows
  pub counts : (id : ℕ) → count (carries id) rows + listed id gone
      ≡ count (carries id) root.rows + cond (id == root.current.id) come 0
  pub few : come ≤ max_rows
  pub sound : IsSound (with_rows root rows)

-- the first shards of a root, so many of them, with other rows in the place of those of one
pub record AreShardsWith (root : Root) (i : ℕ) (this : List Row) (n : ℕ) (shards : List (List Row)) : Type 0 where
  pub as_many : length shards ≡ n
  pub each : (j : ℕ) → j < n → slice_index_or shards j [] ≡ cond (j == i) this (shard root j)
