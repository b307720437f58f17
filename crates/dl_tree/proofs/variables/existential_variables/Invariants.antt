use Rattle.std.proofs.Common.{◌≡◌}
use Rattle.std.specs.List.{filter, range_with_len}
use Rattle.dl_terms.specs.Queries.{is_existential}
use Rattle.dl_tree.proofs.variables.existential_variables.Given as goal

abbrev pub invariant-loop-v : goal.invariant-loop-v
invariant-loop-v l = l.found.items ≡ filter (is_existential l.query) (range_with_len 0 l.v)
