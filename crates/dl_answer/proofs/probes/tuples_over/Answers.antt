use Rattle.std.proofs.Common.{◌∙◌, length}
use Rattle.dl_join.specs.Disjuncts.{IsTuple}
use Rattle.dl_rewrite.specs.OverNames.{HasOverNames}
use Rattle.dl_answer.specs.Kept.{AreFirst}
use Rattle.dl_answer.proofs.StepLemmas.{all_together, gives_together}
use Rattle.dl_answer.proofs.KeptLemmas.{some_empty, lists_whole, empty_gives, all_listed}
use Rattle.dl_answer.proofs.SearchLemmas.{finds_none, finds_exactly}
use Rattle.dl_answer.proofs.probes.tuples_over.Goals as goal

pub returns-then-some_is_empty : goal.returns-then-some_is_empty
returns-then-some_is_empty c =
    let d = c.args.disjunct.now in
    let lists = c.args.lists.now in
    finds_none (λ axioms facts. AreFirst axioms facts d.probes lists) (λ axioms facts. HasOverNames axioms facts d)
    (length d.head) c.args.limit c.new.result c.new.ensures.none (c.new.ensures.width ∙ c.len.ensures)
    (λ axioms facts first.
    empty_gives axioms facts d c.args.limit c.new.result
    (some_empty axioms facts d.probes lists first (c.some_is_empty.ensures.0 c.if-some_is_empty.true) c.requires.few)
    c.new.ensures.none)

pub join-requires-clause-lists : goal.join-requires-clause-lists
join-requires-clause-lists c =
    all_listed c.some_is_empty.result c.args.lists.now c.args.disjunct.now.probes c.if-some_is_empty.false
    c.some_is_empty.ensures c.requires.whole

pub returns : goal.returns
returns c =
    let d = c.args.disjunct.now in
    let lists = c.args.lists.now in
    let whole = all_listed c.some_is_empty.result lists d.probes c.if-some_is_empty.false c.some_is_empty.ensures
    c.requires.whole in
    finds_exactly (λ axioms facts. AreFirst axioms facts d.probes lists) (λ axioms facts. HasOverNames axioms facts d)
    (length d.head) c.args.limit c.join.result (IsTuple d lists) c.join.ensures.tuples c.join.ensures.width c.join.ensures.within
    (λ axioms facts first.
    gives_together d lists c.args.limit c.join.result whole c.requires.variables c.requires.safe c.join.ensures.tuples
    c.join.ensures.within c.join.ensures.many axioms facts
    (all_together d lists axioms facts (lists_whole axioms facts d.probes lists first whole)))
