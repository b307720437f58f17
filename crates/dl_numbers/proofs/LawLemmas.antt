-- The laws of depth-first numbers over the order that a graph tells, which is decided.
use Rattle.std.proofs.Common.{ℕ, inl, inr, Bool, true, false, List, refl, sym, true≢false}
use Rattle.std.specs.List.{Contains}
use Rattle.std.specs.List.Sorted.{IsStrictlyIncreasing}
use Rattle.dl_reach.specs.Digraph.{Digraph}
use Rattle.dl_numbers.specs.Numbers.{IsBelow}
use Rattle.dl_numbers.specs.DepthFirst.{IsDepthFirst}
use Rattle.dl_numbers.specs.Runs.{AreNumbered, IsForest, HasOneInterval}
use Rattle.dl_numbers.proofs.TestLemmas.{Tells}
use Rattle.dl_numbers.proofs.OrderLemmas.{IsDecided, below_same, below_through, below_decided}
use Rattle.dl_numbers.proofs.DepthFirstLemmas as depth_first
use Rattle.dl_numbers.proofs.RunLemmas.{each_numbered, one_interval}

-- what is decided, as a test
abbrev pub is_so : {P : Type 0} → IsDecided P → Bool
is_so (inl so) = true
is_so (inr never) = false

pub so_tells : (P : Type 0) (decided : IsDecided P) → Tells (is_so decided) P
so_tells P (inl so) = (λ h. refl, λ e. so)
so_tells P (inr never) = (λ h. absurd (never h), λ e. absurd (true≢false (sym e)))

module _ (names : List ℕ) (up : IsStrictlyIncreasing names) (order : Digraph) where
  test : ℕ → ℕ → Bool
  test a b = is_so (below_decided names up order a b)

  tells : (a b : ℕ) → Tells (test a b) (IsBelow names order a b)
  unfolding test
  tells a b = so_tells (IsBelow names order a b) (below_decided names up order a b)

  pub numbers_exist : (numbered : List ℕ) × IsDepthFirst names (IsBelow names order) numbered
  numbers_exist = depth_first.numbers_exist names up (IsBelow names order) (below_same names up order) (below_through names up order) test tells

  pub numbered_each : (numbered : List ℕ) → IsDepthFirst names (IsBelow names order) numbered → AreNumbered names numbered
  numbered_each = each_numbered names up (IsBelow names order) (below_same names up order) (below_through names up order) test tells

  pub below_one : IsForest names (IsBelow names order) → (numbered : List ℕ) → IsDepthFirst names (IsBelow names order) numbered
      → (name : ℕ) → Contains names name → HasOneInterval numbered (λ a. IsBelow names order a name)
  below_one = one_interval names up (IsBelow names order) (below_same names up order) (below_through names up order) test tells
