use Rattle.std.proofs.Common.{ℕ, ltb, rules, tests}
use Rattle.std.proofs.lemmas.List.Sorted.{IsPartitionedBy-ltb, IsPartitionPoint-from_clause}
use Rattle.dl_reach.proofs.edges.first_from.Goals as goal

pub returns : goal.returns
returns c =
    let point = IsPartitionPoint-from_clause (λ (e : ℕ × ℕ). ltb e.0 c.args.node) c.args.edges.now c.partition_point.result c.partition_point.ensures.partitioned (IsPartitionedBy-ltb (λ (e : ℕ × ℕ). e.0) c.args.edges.now c.args.node c.requires) (λ a r f h. search rules) in
    record {
      bound = search rules;
      before = λ k d l h. let b = point.0 k d l h in search (rules, tests);
      after = λ k d l h. let b = point.1 k d l h in search (rules, tests);
    }
