use Rattle.std.proofs.Common.{◌+◌, ◌-◌, arith}
use Rattle.dl_join.specs.Needs.{in_column}
use Rattle.dl_join.proofs.PairLemmas.{below_upto, above_from}
use Rattle.dl_join.proofs.need.leap.Goals as goal

pub returns-then-from-bound-clause-others : goal.returns-then-from-bound-clause-others
returns-then-from-bound-clause-others c =
    let last = c.loop-step.low + (c.loop-step.step - 1) in
    let here = c.name_in.ensures in
    above_from (in_column c.args.column) c.args.pairs.now last c.args.bound (0, 0) c.requires (omega arith) (omega arith)

pub loop-step-preserved : goal.loop-step-preserved
loop-step-preserved c =
    let last = c.loop-step.low + (c.loop-step.step - 1) in
    let here = c.name_in.ensures in
    record {
      steps = grind arith;
      range = omega arith;
      below = below_upto (in_column c.args.column) c.args.pairs.now last c.args.bound (0, 0) c.requires (omega arith) (omega arith);
    }
