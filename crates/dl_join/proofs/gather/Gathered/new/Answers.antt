use Rattle.std.proofs.Common.{arith}
use Rattle.std.proofs.lemmas.List.Elements.{All-nil}
use Rattle.dl_join.specs.Tuples.{tuple_cmp}
use Rattle.dl_join.proofs.MergeLemmas.{sorted_nil}
use Rattle.dl_join.proofs.gather.Gathered.new.Goals as goal

pub returns-clause-valid : goal.returns-clause-valid
returns-clause-valid c = record {
  ascending = rw c.new.ensures.none (sorted_nil tuple_cmp);
  within = rw c.new.ensures.none (omega arith);
  widths = rw c.new-2.ensures (All-nil _);
}
