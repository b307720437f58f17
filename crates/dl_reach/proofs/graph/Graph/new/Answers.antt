use Rattle.std.proofs.Common.{ℕ, ◌<◌, rules}
use Rattle.std.proofs.lemmas.List.Sorted.{answers_always, IsNonDecreasingBy-from_sort, Contains-permutation, IsPermutation-sym, All-permutation}
use Rattle.dl_reach.proofs.graph.Graph.new.Goals as goal

pub invariant_of-result : goal.invariant_of-result
invariant_of-result c = record {
  few = search rules;
  ends = All-permutation (λ (e : ℕ × ℕ). (e.0 < c.args.nodes) × (e.1 < c.args.nodes)) c.in_ok-sorted.sorted.items c.sort_unstable_by_key.new.self.items c.sort_unstable_by_key.ensures.permutation (rw c.in_ok-sorted.ensures.items c.requires.in_range);
  sorted = IsNonDecreasingBy-from_sort (λ (e : ℕ × ℕ). e.0) _ (c.sort_unstable_by_key.ensures.sorted (λ (e : ℕ × ℕ). e.0) (answers_always _ _ _ (λ f a r g h. search rules)));
}

pub returns-clause-edges : goal.returns-clause-edges
returns-clause-edges c = λ a b. (λ h. rw c.in_ok-sorted.ensures.items at (Contains-permutation c.sort_unstable_by_key.new.self.items c.in_ok-sorted.sorted.items (a, b) (IsPermutation-sym _ _ c.sort_unstable_by_key.ensures.permutation) h), λ h. Contains-permutation c.in_ok-sorted.sorted.items c.sort_unstable_by_key.new.self.items (a, b) c.sort_unstable_by_key.ensures.permutation (rw c.in_ok-sorted.ensures.items h))
