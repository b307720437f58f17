-- The number of a name, and the order of names that a graph of their places tells. They are this project's own.
use Rattle.std.specs.Prelude.{◌≡◌, ℕ, ◌-◌, ◌≤◌, List, slice_get}
use Rattle.std.specs.declared.option.Option.TheVariants.{Some}
use Rattle.dl_reach.specs.Chain.{Chain}
use Rattle.dl_reach.specs.Digraph.{Digraph, IsEdge}

-- of names in number order, the one with a number: numbers go from 1
pub record HasNumber (numbered : List ℕ) (name number : ℕ) : Type 0 where
  pub from_one : 1 ≤ number
  pub is : slice_get numbered (number - 1) ≡ Some name

-- a name is below another where a chain of edges leads from its place to that of the other
pub record IsBelow (names : List ℕ) (order : Digraph) (a b : ℕ) : Type 0 where
  pub place : ℕ
  pub above : ℕ
  pub here : slice_get names place ≡ Some a
  pub there : slice_get names above ≡ Some b
  pub chain : Chain (IsEdge order) place above
