use Rattle.std.proofs.Common.{◌<◌, ◌^◌, All, sym, subst}
use Rattle.std.specs.List.Sorted.{IsStrictlyIncreasing}
use Rattle.dl_epoch.proofs.EpochLemmas.{set_up, set_small, numbers_are}
use Rattle.dl_epoch.proofs.numbers.ranges_of.Goals as goal

pub of-requires-clause-ascending : goal.of-requires-clause-ascending
of-requires-clause-ascending c =
    subst IsStrictlyIncreasing (sym c.as_slice.ensures) (set_up c.set_of-set.result c.in_ok-numbers.numbers c.set_of-set.ensures)

pub of-requires-clause-small : goal.of-requires-clause-small
of-requires-clause-small c =
    subst (All (λ n. n < 2 ^ 31)) (sym c.as_slice.ensures) (set_small c.set_of-set.result c.in_ok-numbers.numbers c.set_of-set.ensures c.in_ok-numbers.ensures.few)

pub returns-in-Ok : goal.returns-in-Ok
returns-in-Ok c =
    numbers_are c.args.numbering.now c.args.members.now c.set_of-set.result c.in_ok-numbers.numbers c.as_slice.result.now c.in-Ok.ranges c.set_of-set.ensures c.as_slice.ensures
    c.in_ok-numbers.ensures.exact c.in-Ok.ensures.sorted c.in-Ok.ensures.numbers
