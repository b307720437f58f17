use Rattle.std.proofs.Common.{ap, ◌∙◌}
use Rattle.std.proofs.lemmas.Result.{on_ok_weaker}
use Rattle.dl_names.specs.NameList.{names_after}
use Rattle.dl_triples.proofs.AddLemmas.{class_added, on_err_always}
use Rattle.dl_triples.proofs.triple.add_class.Goals as goal

pub returns-clause-ok : goal.returns-clause-ok
returns-clause-ok c = λ s p o kept kept'.
    let one = c.in_ok-who.ensures.ok s kept in
    let two = c.in_ok-class.ensures.ok o kept' in
    on_ok_weaker c.push.result
    (class_added c.args.names.now c.add.new.names c.add-2.new.names s p o c.in_ok-who.who c.in_ok-class.class c.args.facts.now c.push.new.facts one.0 one.1 two.0 two.1)
    c.push.ensures.ok

pub returns-clause-first : goal.returns-clause-first
returns-clause-first c = λ s o kept kept'.
    let one = c.in_ok-who.ensures.ok s kept in
    let two = c.in_ok-class.ensures.ok o kept' in
    on_err_always c.push.result (record { count = 2; is = two.0 ∙ ap (λ l. names_after l o) one.0 })
