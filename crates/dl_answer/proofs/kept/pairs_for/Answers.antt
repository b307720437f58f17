use Rattle.dl_answer.proofs.KeptLemmas.{list_alike}
use Rattle.dl_answer.proofs.kept.pairs_for.Goals as goal

pub returns-then-ask_alike-clause-list : goal.returns-then-ask_alike-clause-list
returns-then-ask_alike-clause-list c = λ axioms facts is.
    list_alike axioms facts c.args.kept.probe c.args.probe.now c.args.kept.pairs
    (c.ask_alike.ensures.0 c.if-ask_alike.true) is
