use Rattle.std.proofs.Common.{◌+◌, ◌-◌, ◌/◌, arith}
use Rattle.dl_join.specs.Needs.{in_column}
use Rattle.dl_join.proofs.PairLemmas.{below_upto, above_from}
use Rattle.dl_join.proofs.need.halve.Goals as goal

pub loop-low-preserved-then-from-bound : goal.loop-low-preserved-then-from-bound
loop-low-preserved-then-from-bound c =
    let middle = c.loop-low.low + (c.loop-low.high - c.loop-low.low) / 2 in
    let here = c.name_in.ensures in
    record {
      order = omega arith;
      range = c.loop-low.invariant.range;
      below = below_upto (in_column c.args.column) c.args.pairs.now middle c.args.bound (0, 0) c.requires.ascending (omega arith) (omega arith);
      others = c.loop-low.invariant.others;
    }

pub loop-low-preserved : goal.loop-low-preserved
loop-low-preserved c =
    let middle = c.loop-low.low + (c.loop-low.high - c.loop-low.low) / 2 in
    let here = c.name_in.ensures in
    record {
      order = omega arith;
      range = omega arith;
      below = c.loop-low.invariant.below;
      others = above_from (in_column c.args.column) c.args.pairs.now middle c.args.bound (0, 0) c.requires.ascending (omega arith) (omega arith);
    }
