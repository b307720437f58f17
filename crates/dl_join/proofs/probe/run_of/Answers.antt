use Rattle.std.proofs.lemmas.List.{take_rest}
use Rattle.dl_join.proofs.ProbeLemmas.{run_members, run_ascends}
use Rattle.dl_join.proofs.probe.run_of.Goals as goal

pub returns-clause-members : goal.returns-clause-members
returns-clause-members c =
    let pairs = c.args.pairs.now in
    let l = c.passed-low.result in
    let low = c.passed-low.ensures in
    let high = c.passed-high.ensures in
    rw (take_rest pairs l) (run_members pairs l c.passed-high.result c.args.name (rw c.from.ensures at low.below) (rw c.from.ensures at low.others)
    (rw (take_rest pairs l, c.from-2.ensures) at high.below) (rw (take_rest pairs l, c.from-2.ensures) at high.others))

pub returns-clause-ascending : goal.returns-clause-ascending
returns-clause-ascending c =
    let pairs = c.args.pairs.now in
    let l = c.passed-low.result in
    rw (take_rest pairs l) (run_ascends pairs l c.passed-high.result c.args.name c.requires (rw c.from.ensures at c.passed-low.ensures.others)
    (rw (take_rest pairs l, c.from-2.ensures) at c.passed-high.ensures.below))
