use Rattle.std.proofs.Common.{◌≡◌, ◌<◌, length, get_or, rules}
use Rattle.dl_join.proofs.ProbeLemmas.{second_missed}
use Rattle.dl_join.proofs.probe.has_second.Goals as goal

pub returns-in-Some-clause-missed : goal.returns-in-Some-clause-missed
returns-in-Some-clause-missed c = λ differs.
    let inside : c.passed-low.result < length c.args.run.now = search rules in
    let read : c.in-Some.pair.now ≡ get_or c.args.run.now c.passed-low.result c.in-Some.pair.now = search rules in
    second_missed c.args.run.now c.passed-low.result c.args.name c.in-Some.pair.now c.requires (rw c.from.ensures at c.passed-low.ensures.below) (rw c.from.ensures at c.passed-low.ensures.others) inside read differs
