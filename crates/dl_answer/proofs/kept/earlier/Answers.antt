use Rattle.dl_answer.proofs.KeptLemmas.{earlier_list, sorted_one}
use Rattle.dl_answer.proofs.kept.earlier.Goals as goal

pub returns-then-ask_alike-clause-list : goal.returns-then-ask_alike-clause-list
returns-then-ask_alike-clause-list c = λ axioms facts first.
    earlier_list axioms facts c.args.probes.now c.args.lists.now c.loop-k.k c.index-probes-k.result c.args.probe.now
    c.index-lists-k.result c.as_slice.result.now c.loop-k-test.true c.index-probes-k.is c.index-lists-k.is
    (c.ask_alike.ensures.0 c.if-ask_alike.true) c.as_slice.ensures first

pub returns-then-ask_alike-clause-sorted : goal.returns-then-ask_alike-clause-sorted
returns-then-ask_alike-clause-sorted c =
    sorted_one c.args.lists.now c.loop-k.k c.index-lists-k.result c.as_slice.result.now c.requires.sorted
    c.loop-k-test.true c.index-lists-k.is c.as_slice.ensures
