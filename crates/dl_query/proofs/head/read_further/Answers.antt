use Rattle.std.proofs.Common.{◌<◌, [], length, ap, refl, arith}
use Rattle.std.proofs.lemmas.Result.{err_from_is_err_and}
use Rattle.dl_query.specs.Symbols.{is_last}
use Rattle.dl_query.specs.Grammar.{met}
use Rattle.dl_query.specs.Steps.{head_more, head_variable, head_end, syntax, move_of}
use Rattle.dl_query.specs.Parts.{next_symbol}
use Rattle.dl_query.proofs.StepLemmas.{Leads-goes, Leads-then, Leads-stops, Stops-here, no-fault, other-head_more, other-head_variable}
use Rattle.dl_query.proofs.HeadLemmas.{FurtherReads-more, Leads-same, Passes-shorter}
use Rattle.dl_query.proofs.head.read_further.Goals as goal

pub more-init : goal.more-init
more-init c = record {
  leads = λ names. Leads-same head_more (met c.args.variables.now names c.args.head.items []) c.args.tokens.now;
  numbers = c.requires;
}

pub more-preserved : goal.more-preserved
more-preserved c =
    FurtherReads-more c.more.invariant (rw c.in-Some.is at c.in_ok-comma_or.ensures.ok).0 c.in_ok-comma_or.ensures.passes
    c.in_ok-name.ensures.ok c.in_ok-name.ensures.passes c.in_ok-add.ensures.ok c.in_ok-add.ensures.numbers

pub more-smaller : goal.more-smaller
more-smaller c =
    let comma = Passes-shorter c.more.tokens c.comma_or.new.self c.in_ok-comma_or.ensures.passes (ap is_last (rw c.in-Some.is at c.in_ok-comma_or.ensures.ok).0) in
    let name = Passes-shorter c.comma_or.new.self c.read_variable.new.tokens c.in_ok-name.ensures.passes (ap is_last c.in_ok-name.ensures.ok) in
    let shorter : length c.read_variable.new.tokens.rest.now < length c.more.tokens.rest.now = omega (arith, comma, name) in
    shorter

pub returns-clause-ok : goal.returns-clause-ok
returns-clause-ok c = λ names.
    let m = met c.more.variables names c.more.head.items [] in
    Leads-then (c.more.invariant.leads names)
    (Leads-goes head_more m c.more.tokens {e' = head_end} {m' = m} {new = c.comma_or.new.self}
    (ap (move_of head_more m) (rw c.in_default.is at c.in_ok-comma_or.ensures.ok)) c.in_ok-comma_or.ensures.passes)

pub returns-in_err-comma_or-clause-stops : goal.returns-in_err-comma_or-clause-stops
returns-in_err-comma_or-clause-stops c =
    let p = err_from_is_err_and c.from_residual.result c.from_residual.ensures.1 in
    rw (p.1, p.2) (λ names.
    let m = met c.more.variables names c.more.head.items [] in
    Leads-stops (c.more.invariant.leads names) c.in_err-comma_or.field-0.0 names
    (Stops-here head_more m c.more.tokens {cause = syntax}
    (other-head_more m (next_symbol c.more.tokens) c.in_err-comma_or.ensures.other.0 c.in_err-comma_or.ensures.other.1) c.in_err-comma_or.ensures.fault refl))

pub returns-in_err-name-clause-stops : goal.returns-in_err-name-clause-stops
returns-in_err-name-clause-stops c =
    let p = err_from_is_err_and c.from_residual-in_err-name.result c.from_residual-in_err-name.ensures.1 in
    rw (p.1, p.2) (λ names.
    let m = met c.more.variables names c.more.head.items [] in
    Leads-stops (c.more.invariant.leads names) c.in_err-name.field-0.0 names
    (Leads-stops
    (Leads-goes head_more m c.more.tokens {e' = head_variable} {m' = m} {new = c.comma_or.new.self}
    (ap (move_of head_more m) (rw c.in-Some.is at c.in_ok-comma_or.ensures.ok).0) c.in_ok-comma_or.ensures.passes)
    c.in_err-name.field-0.0 names
    (Stops-here head_variable m c.comma_or.new.self {cause = syntax}
    (other-head_variable m (next_symbol c.comma_or.new.self) c.in_err-name.ensures.other) c.in_err-name.ensures.fault refl)))

pub returns-in_err-add-clause-stops : goal.returns-in_err-add-clause-stops
returns-in_err-add-clause-stops c =
    let p = err_from_is_err_and c.from_residual-in_err-add.result c.from_residual-in_err-add.ensures.1 in
    rw (p.1, p.2) (λ names. no-fault head_more (met c.args.variables.now names c.args.head.items []) c.args.tokens.now c.in_err-add.ensures.err)
