-- The rule by which names get their numbers. It is this project's own.
use Rattle.std.specs.Prelude.{ℕ, List}
use Rattle.dl_numbers.specs.DepthFirst.{IsDepthFirst}

-- names in number order, by which of them are below which: in depth-first order, from those above to those below
abbrev pub IsByRule : List ℕ → (ℕ → ℕ → Type 0) → List ℕ → Type 0
IsByRule names Below = IsDepthFirst names Below
