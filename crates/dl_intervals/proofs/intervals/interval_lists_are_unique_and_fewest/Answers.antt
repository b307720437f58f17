use Rattle.dl_intervals.proofs.Laws.{one_list, fewest}
use Rattle.dl_intervals.proofs.intervals.interval_lists_are_unique_and_fewest.Goals as goal

pub returns : goal.returns
returns c = record { unique = one_list; fewest = fewest }
