use Rattle.std.proofs.Common.{rules}
use Rattle.std.specs.Ordering.{is_lt}
use Rattle.std.proofs.lemmas.List.Sorted.{IsPartitionPoint-from_clause}
use Rattle.dl_row.specs.Rows.{row_cmp}
use Rattle.dl_row.proofs.SearchLemmas.{Divides-from_point, is_partitioned}
use Rattle.dl_row.proofs.search.place_of.Goals as goal

pub returns : goal.returns
returns c =
    Divides-from_point c.args.bound.now c.args.rows.now c.partition_point.result c.partition_point.ensures.bound
    (IsPartitionPoint-from_clause (λ r. is_lt (row_cmp r c.args.bound.now)) c.args.rows.now c.partition_point.result c.partition_point.ensures.partitioned
    (is_partitioned c.args.bound.now c.args.rows.now c.requires) (λ a r f h. search rules))
