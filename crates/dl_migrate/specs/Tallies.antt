-- How many of some rows carry each epoch.
use Rattle.std.specs.Prelude.{◌≡◌, ◌==◌, ℕ, ◌+◌, ◌≤◌, ◌<◌, Bool, cond, List, [], ◌∷◌}
use Rattle.std.specs.List.{All, AllPairs}
use Rattle.dl_row.specs.Lists.{count}
use Rattle.dl_row.specs.declared.row.Row.{Row}

-- a row carries the epoch with an id
abbrev pub carries : ℕ → Row → Bool
carries id r = r.epoch == id

-- what is listed for an id
abbrev pub listed : ℕ → List (ℕ × ℕ) → ℕ
listed id [] = 0
listed id (e ∷ tally) = cond (e.0 == id) e.1 0 + listed id tally

-- ascending by id, each epoch that one of some rows carries, with how many of them do
pub record IsTally (rows : List Row) (tally : List (ℕ × ℕ)) : Type 0 where
  pub ascending : AllPairs (λ d e. d.0 < e.0) tally
  pub counts : (id : ℕ) → listed id tally ≡ count (carries id) rows
  pub none_empty : All (λ e. 1 ≤ e.1) tally
