use Rattle.std.proofs.Common.{ap, ◌∙◌}
use Rattle.std.proofs.lemmas.Result.{on_ok_weaker}
use Rattle.dl_names.specs.NameList.{names_after}
use Rattle.dl_triples.proofs.AddLemmas.{link_added, on_err_always}
use Rattle.dl_triples.proofs.triple.add_link.Goals as goal

pub returns-in_err-to-clause-first : goal.returns-in_err-to-clause-first
returns-in_err-to-clause-first c = λ s p o kept kept' kept''.
    let one = c.in_ok-from.ensures.ok s kept in
    let two = c.in_ok-role.ensures.ok p kept' in
    on_err_always c.from_residual-in_err-to.result (record { count = 2; is = c.in_err-to.ensures.err ∙ two.0 ∙ ap (λ l. names_after l p) one.0 })

pub returns-clause-ok : goal.returns-clause-ok
returns-clause-ok c = λ s p o kept kept' kept''.
    let one = c.in_ok-from.ensures.ok s kept in
    let two = c.in_ok-role.ensures.ok p kept' in
    let three = c.in_ok-to.ensures.ok o kept'' in
    on_ok_weaker c.push.result
    (link_added c.args.names.now c.add.new.names c.add-2.new.names c.add-3.new.names s p o c.in_ok-from.from c.in_ok-role.role c.in_ok-to.to c.args.facts.now c.push.new.facts
    one.0 one.1 two.0 two.1 three.0 three.1)
    c.push.ensures.ok

pub returns-clause-first : goal.returns-clause-first
returns-clause-first c = λ s p o kept kept' kept''.
    let one = c.in_ok-from.ensures.ok s kept in
    let two = c.in_ok-role.ensures.ok p kept' in
    let three = c.in_ok-to.ensures.ok o kept'' in
    on_err_always c.push.result (record { count = 3; is = three.0 ∙ ap (λ l. names_after l o) (two.0 ∙ ap (λ l. names_after l p) one.0) })
