use Rattle.std.proofs.Common.{ap, refl}
use Rattle.std.proofs.lemmas.Result.{err_from_is_err_and}
use Rattle.dl_query.specs.Grammar.{nothing_met}
use Rattle.dl_query.specs.Steps.{query_word, head_opening, head_first, syntax, move_of}
use Rattle.dl_query.specs.Parts.{next_symbol}
use Rattle.dl_query.proofs.StepLemmas.{Leads-goes, Leads-then, Leads-stops, Stops-here, no-fault, other-query_word, other-head_opening, other-head_first}
use Rattle.dl_query.proofs.HeadLemmas.{head-opened, head-none, head-some, IfOk-map, IfErr-map}
use Rattle.dl_query.proofs.BodyLemmas.{AreNumbers-empty}
use Rattle.dl_query.proofs.head.read_head.Goals as goal

pub returns-in_err-expect-clause-stops : goal.returns-in_err-expect-clause-stops
returns-in_err-expect-clause-stops c =
    let p = err_from_is_err_and c.from_residual.result c.from_residual.ensures.1 in
    rw (p.1, p.2) (λ names.
    Stops-here query_word (nothing_met names) c.args.tokens.now {cause = syntax}
    (other-query_word (nothing_met names) (next_symbol c.args.tokens.now) c.in_err-expect.ensures.other) c.in_err-expect.ensures.fault refl)

pub returns-in_err-expect-2-clause-stops : goal.returns-in_err-expect-2-clause-stops
returns-in_err-expect-2-clause-stops c =
    let p = err_from_is_err_and c.from_residual-in_err-expect-2.result c.from_residual-in_err-expect-2.ensures.1 in
    rw (p.1, p.2) (λ names.
    let m = nothing_met names in
    Leads-stops
    (Leads-goes query_word m c.args.tokens.now {e' = head_opening} {m' = m} {new = c.expect.new.self} (ap (move_of query_word m) c.in_ok-expect.ensures.ok) c.in_ok-expect.ensures.passes)
    c.in_err-expect-2.field-0.0 names
    (Stops-here head_opening m c.expect.new.self {cause = syntax}
    (other-head_opening m (next_symbol c.expect.new.self) c.in_err-expect-2.ensures.other) c.in_err-expect-2.ensures.fault refl))

pub returns-in_err-name-clause-stops : goal.returns-in_err-name-clause-stops
returns-in_err-name-clause-stops c =
    let p = err_from_is_err_and c.from_residual-in_err-name.result c.from_residual-in_err-name.ensures.1 in
    rw (p.1, p.2) (λ names.
    let m = nothing_met names in
    Leads-stops
    (head-opened names c.args.tokens.now c.expect.new.self c.expect-2.new.self c.in_ok-expect.ensures.ok c.in_ok-expect.ensures.passes c.in_ok-expect-2.ensures.ok c.in_ok-expect-2.ensures.passes)
    c.in_err-name.field-0.0 names
    (Stops-here head_first m c.expect-2.new.self {cause = syntax}
    (other-head_first m (next_symbol c.expect-2.new.self) c.in_err-name.ensures.other.0 c.in_err-name.ensures.other.1) c.in_err-name.ensures.fault refl))

pub returns-in_default-clause-ok : goal.returns-in_default-clause-ok
returns-in_default-clause-ok c = λ names.
    head-none names c.args.tokens.now c.expect.new.self c.expect-2.new.self c.first_variable.new.tokens c.in_ok-expect.ensures.ok c.in_ok-expect.ensures.passes
    c.in_ok-expect-2.ensures.ok c.in_ok-expect-2.ensures.passes c.in_ok-name.ensures.passes c.args.variables.now c.new.result.items c.requires c.new.ensures.items
    (rw c.in_default.is at c.in_ok-name.ensures.ok)

pub returns-in_default-clause-numbers : goal.returns-in_default-clause-numbers
returns-in_default-clause-numbers c = AreNumbers-empty c.new.result.items c.args.variables.now c.new.ensures.items c.requires

pub add-requires : goal.add-requires
add-requires c = AreNumbers-empty c.new-head.result.items c.args.variables.now c.new-head.ensures.items c.requires

pub returns-in_err-add-clause-stops : goal.returns-in_err-add-clause-stops
returns-in_err-add-clause-stops c =
    let p = err_from_is_err_and c.from_residual-in_err-add.result c.from_residual-in_err-add.ensures.1 in
    rw (p.1, p.2) (λ names. no-fault query_word (nothing_met names) c.args.tokens.now c.in_err-add.ensures.err)

pub read_further-requires : goal.read_further-requires
read_further-requires c = c.in_ok-add.ensures.numbers

pub returns-clause-ok : goal.returns-clause-ok
returns-clause-ok c =
    IfOk-map _ _ c.read_further.result (λ all later names.
    Leads-then
    (head-some names c.args.tokens.now c.expect.new.self c.expect-2.new.self c.first_variable.new.tokens c.in_ok-expect.ensures.ok c.in_ok-expect.ensures.passes
    c.in_ok-expect-2.ensures.ok c.in_ok-expect-2.ensures.passes c.in_ok-name.ensures.passes c.requires c.new-head.ensures.items
    (rw c.in-Some.is at c.in_ok-name.ensures.ok) c.in_ok-add.ensures.ok)
    (later names)) c.read_further.ensures.ok

pub returns-clause-stops : goal.returns-clause-stops
returns-clause-stops c =
    IfErr-map _ _ c.read_further.result (λ fault later names.
    Leads-stops
    (head-some names c.args.tokens.now c.expect.new.self c.expect-2.new.self c.first_variable.new.tokens c.in_ok-expect.ensures.ok c.in_ok-expect.ensures.passes
    c.in_ok-expect-2.ensures.ok c.in_ok-expect-2.ensures.passes c.in_ok-name.ensures.passes c.requires c.new-head.ensures.items
    (rw c.in-Some.is at c.in_ok-name.ensures.ok) c.in_ok-add.ensures.ok)
    fault names (later names)) c.read_further.ensures.stops

pub returns-clause-numbers : goal.returns-clause-numbers
returns-clause-numbers c = c.read_further.ensures.numbers
