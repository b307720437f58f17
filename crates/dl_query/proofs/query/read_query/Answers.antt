use Rattle.std.proofs.Common.{◌∙◌, [], sym, refl, subst, arith}
use Rattle.std.proofs.lemmas.Result.{err_from_is_err_and}
use Rattle.dl_query.specs.Grammar.{met}
use Rattle.dl_query.specs.Steps.{head_end, syntax}
use Rattle.dl_query.specs.Reading.{fails}
use Rattle.dl_query.specs.Queries.{at_token}
use Rattle.dl_query.specs.Parts.{next_symbol, AreNumbers}
use Rattle.dl_query.proofs.StepLemmas.{Leads-stops, Stops-here, other-head_end}
use Rattle.dl_query.proofs.HeadLemmas.{IfOk-map, IfErr-map}
use Rattle.dl_query.proofs.PlaceLemmas.{value-placed}
use Rattle.dl_query.proofs.QueryLemmas.{text-outcome, to-body, judged-value, judged-fault}
use Rattle.dl_query.proofs.query.read_query.Goals as goal

pub read_head-requires : goal.read_head-requires
read_head-requires c = c.new-variables.ensures

pub returns-in_err-head-clause-fault : goal.returns-in_err-head-clause-fault
returns-in_err-head-clause-fault c =
    let p = err_from_is_err_and c.from_residual.result c.from_residual.ensures.1 in
    rw (p.1, p.2) (λ other.
    at_token (text-outcome c.args.bytes.now c.args.names.now c.new-tokens.result (fails c.in_err-head.field-0.0 c.args.names.now) c.new-tokens.ensures.len c.new-tokens.ensures.rest
    (c.in_err-head.ensures.stops c.args.names.now other)))

pub returns-in_err-expect-clause-fault : goal.returns-in_err-expect-clause-fault
returns-in_err-expect-clause-fault c =
    let p = err_from_is_err_and c.from_residual-in_err-expect.result c.from_residual-in_err-expect.ensures.1 in
    rw (p.1, p.2) (λ other.
    let m = met c.read_head.new.variables c.args.names.now c.in_ok-head.head.items [] in
    at_token (text-outcome c.args.bytes.now c.args.names.now c.new-tokens.result (fails c.in_err-expect.field-0.0 c.args.names.now) c.new-tokens.ensures.len c.new-tokens.ensures.rest
    (Leads-stops (c.in_ok-head.ensures.ok c.args.names.now) c.in_err-expect.field-0.0 c.args.names.now
    (Stops-here head_end m c.read_head.new.tokens {cause = syntax}
    (other-head_end m (next_symbol c.read_head.new.tokens) c.in_err-expect.ensures.other) c.in_err-expect.ensures.fault refl) other)))

pub returns-in_err-body-clause-fault : goal.returns-in_err-body-clause-fault
returns-in_err-body-clause-fault c =
    let p = err_from_is_err_and c.from_residual-in_err-body.result c.from_residual-in_err-body.ensures.1 in
    rw (p.1, p.2) (λ other.
    at_token (text-outcome c.args.bytes.now c.args.names.now c.new-tokens.result (fails c.in_err-body.field-0.0 c.read_body.new.names) c.new-tokens.ensures.len c.new-tokens.ensures.rest
    (Leads-stops (to-body (c.in_ok-head.ensures.ok c.args.names.now) c.in_ok-expect.ensures.ok c.in_ok-expect.ensures.passes) c.in_err-body.field-0.0 c.read_body.new.names
    (c.in_err-body.ensures.stops c.in_ok-head.head.items) other)))

pub returns-in_err-body-clause-grows : goal.returns-in_err-body-clause-grows
returns-in_err-body-clause-grows c = c.in_err-body.ensures.grows

pub judged-requires-clause-numbers : goal.judged-requires-clause-numbers
judged-requires-clause-numbers c =
    subst (λ l. AreNumbers l c.len-heads.result) (sym c.deref.ensures.value)
    (subst (λ n. AreNumbers c.in_ok-head.head.items n) (sym c.len-heads.ensures) c.in_ok-head.ensures.numbers)

pub judged-requires-clause-marks : goal.judged-requires-clause-marks
judged-requires-clause-marks c = c.in_ok-body.body.bound.ok.0 ∙ c.in_ok-body.ensures.ok.keeps.marks ∙ sym c.len-heads.ensures

pub judged-requires-clause-more : goal.judged-requires-clause-more
judged-requires-clause-more c = omega (arith, c.len-heads.ensures, c.len.ensures, c.in_ok-body.ensures.more)

pub returns-clause-ok : goal.returns-clause-ok
returns-clause-ok c =
    IfOk-map _ _ c.judged.result (λ q judged.
    judged-value c.args.bytes.now c.args.names.now c.read_body.new.names c.read_head.new.variables c.read_body.new.variables c.in_ok-head.head.items c.in_ok-body.body
    c.new-tokens.result c.expect.new.self c.new-tokens.ensures.len c.new-tokens.ensures.rest
    (to-body (c.in_ok-head.ensures.ok c.args.names.now) c.in_ok-expect.ensures.ok c.in_ok-expect.ensures.passes)
    c.in_ok-body.ensures.ok c.in_ok-body.ensures.grows c.in_ok-body.ensures.fits c.len-heads.result c.len.result c.len-heads.ensures c.len.ensures
    c.deref.result.now c.deref.ensures.value q judged) c.judged.ensures.ok

pub returns-clause-places : goal.returns-clause-places
returns-clause-places c =
    IfOk-map _ _ c.judged.result (λ q judged.
    value-placed q (judged-value c.args.bytes.now c.args.names.now c.read_body.new.names c.read_head.new.variables c.read_body.new.variables c.in_ok-head.head.items c.in_ok-body.body
    c.new-tokens.result c.expect.new.self c.new-tokens.ensures.len c.new-tokens.ensures.rest
    (to-body (c.in_ok-head.ensures.ok c.args.names.now) c.in_ok-expect.ensures.ok c.in_ok-expect.ensures.passes)
    c.in_ok-body.ensures.ok c.in_ok-body.ensures.grows c.in_ok-body.ensures.fits c.len-heads.result c.len.result c.len-heads.ensures c.len.ensures
    c.deref.result.now c.deref.ensures.value q judged)) c.judged.ensures.ok

pub returns-clause-fault : goal.returns-clause-fault
returns-clause-fault c =
    IfErr-map _ _ c.judged.result (λ f judged other.
    judged-fault c.args.bytes.now c.args.names.now c.read_body.new.names c.read_head.new.variables c.read_body.new.variables c.in_ok-head.head.items c.in_ok-body.body
    c.new-tokens.result c.expect.new.self c.new-tokens.ensures.len c.new-tokens.ensures.rest
    (to-body (c.in_ok-head.ensures.ok c.args.names.now) c.in_ok-expect.ensures.ok c.in_ok-expect.ensures.passes)
    c.in_ok-body.ensures.ok c.in_ok-body.ensures.grows c.in_ok-body.ensures.fits c.len-heads.result c.len.result c.len-heads.ensures c.len.ensures
    c.deref.result.now c.deref.ensures.value f (judged other)) c.judged.ensures.fault

pub returns-clause-grows : goal.returns-clause-grows
returns-clause-grows c = c.in_ok-body.ensures.grows
