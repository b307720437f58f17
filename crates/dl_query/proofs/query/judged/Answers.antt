use Rattle.std.proofs.Common.{◌∙◌, ◌-◌, sym, ap, refl, not, false, get_or, position, length}
use Rattle.dl_query.proofs.JudgeLemmas.{unsafe-fault, large-fault, kept-query, over-first, over-second, over-third}
use Rattle.dl_query.proofs.query.judged.Goals as goal
use Rattle.dl_query.proofs.query.judged.Goals.{then-body-gt16-via-then-body-gt16, then-body-gt16-via-else-body-gt16+then-existential-gt8, then-body-gt16-via-else-body-gt16+else-existential-gt8+then-head-gt16}

pub returns-in-Some-clause-fault : goal.returns-in-Some-clause-fault
returns-in-Some-clause-fault c = λ no m j.
    unsafe-fault m c.args.head.now c.args.body c.args.heads c.args.variables c.requires.numbers c.requires.more j c.in-Some.index
    (ap (λ b. position (λ v. not (get_or b v false)) c.args.head.now) (sym c.deref.ensures.value) ∙ sym c.in-Some.ensures)

pub returns-then-body-gt16-clause-fault : goal.returns-then-body-gt16-clause-fault
returns-then-body-gt16-clause-fault c = λ no m j.
    let a = c.args.body.count in
    let b = c.args.variables - c.args.heads in
    let h = length c.args.head.now in
    large-fault m c.args.head.now c.args.body c.args.heads c.args.variables c.requires.numbers c.requires.more j
    (ap (λ b. position (λ v. not (get_or b v false)) c.args.head.now) (sym c.deref.ensures.value) ∙ sym c.first_unbound.ensures ∙ c.in_default.is)
    (elim c.then-body-gt16.branch [
      | then-body-gt16-via-then-body-gt16 w ↦ over-first a b h w.if-body-gt16.true
      | then-body-gt16-via-else-body-gt16+then-existential-gt8 w ↦ over-second a b h w.if-existential-gt8.true
      | then-body-gt16-via-else-body-gt16+else-existential-gt8+then-head-gt16 w ↦ over-third a b h w.if-head-gt16.true
    ])

pub returns-clause-ok : goal.returns-clause-ok
returns-clause-ok c = λ m j.
    kept-query m c.args.head.now c.args.body c.args.heads c.args.variables c.requires.numbers c.requires.more j c.in_ok-head.head c.in_ok-head.ensures
    (ap (λ b. position (λ v. not (get_or b v false)) c.args.head.now) (sym c.deref.ensures.value) ∙ sym c.first_unbound.ensures ∙ c.in_default.is)
    c.if-body-gt16.false c.if-existential-gt8.false c.if-head-gt16.false _ refl
