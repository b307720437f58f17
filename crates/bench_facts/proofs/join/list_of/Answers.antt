use Rattle.std.proofs.Common.{ℕ, ◌+◌, List, get_or, ap, ◌∙◌, arith}
use Rattle.std.specs.Ordering.{is_lt, ordering_reverse}
use Rattle.std.specs.List.Sorted.{IsSorted, IsStrictlySortedBy}
use Rattle.dl_terms.specs.Order.{pair_cmp}
use Rattle.dl_join.proofs.MergeLemmas.{sorted_at}
use Rattle.dl_join.proofs.OrderLemmas.{pair_linear}
use Rattle.bench_facts.proofs.join.list_of.Goals as goal

-- a set of pairs is sorted
pairs_sorted : (pairs : List (ℕ × ℕ)) → IsStrictlySortedBy pair_cmp pairs → IsSorted pair_cmp pairs
pairs_sorted pairs up = λ k d low h.
    let less = sorted_at pair_cmp pairs k (k + 1) d up (omega arith) h in
    ap is_lt (pair_linear.total.antisymm (get_or pairs (k + 1) d) (get_or pairs k d) ∙ ap ordering_reverse less)

pub returns : goal.returns
returns c = pairs_sorted c.set_of.result c.set_of.ensures.ascending
