use Rattle.std.proofs.Common.{ap, refl, length, arith}
use Rattle.std.proofs.lemmas.Result.{err_from_is_err_and}
use Rattle.dl_names.proofs.NameListLemmas.{Extends-trans}
use Rattle.dl_query.specs.declared.fault.QueryFault.TheVariants.{Reserved}
use Rattle.dl_query.specs.Symbols.{is_last}
use Rattle.dl_query.specs.Grammar.{met}
use Rattle.dl_query.specs.Steps.{terms_opening, first_term, first_more, second_term, second_closing, syntax, move_of}
use Rattle.dl_query.specs.Parts.{next_symbol, term_of}
use Rattle.dl_query.proofs.StepLemmas.{Leads-goes, Leads-then, Leads-stops, Stops-here, other-terms_opening, other-first_more, other-second_closing}
use Rattle.dl_query.proofs.StatementLemmas.{term-stops, first-leads, class-leads, comma-leads, comma-stops, role-leads, closed-leads, is-true, is-false}
use Rattle.dl_query.proofs.BodyLemmas.{IsBelow-more}
use Rattle.dl_query.proofs.HeadLemmas.{Passes-shorter, Passes-no-longer}
use Rattle.dl_query.proofs.statement.read_statement.Goals as goal

pub returns-in_err-predicate-clause-stops : goal.returns-in_err-predicate-clause-stops
returns-in_err-predicate-clause-stops c =
    let p = err_from_is_err_and c.from_residual.result c.from_residual.ensures.1 in
    rw (p.1, p.2) (λ head atoms.
    c.in_err-predicate.ensures.stops c.args.variables.now head atoms)

pub returns-in_err-expect-clause-stops : goal.returns-in_err-expect-clause-stops
returns-in_err-expect-clause-stops c =
    let p = err_from_is_err_and c.from_residual-in_err-expect.result c.from_residual-in_err-expect.ensures.1 in
    rw (p.1, p.2) (λ head atoms.
    Leads-stops (c.in_ok-predicate.ensures.ok c.args.variables.now head atoms) c.in_err-expect.field-0.0 c.read_predicate.new.names
    (Stops-here (terms_opening c.in_ok-predicate.predicate.place c.in_ok-predicate.predicate.is_role) (met c.args.variables.now c.read_predicate.new.names head atoms) c.read_predicate.new.tokens {cause = syntax}
    (other-terms_opening (met c.args.variables.now c.read_predicate.new.names head atoms) c.in_ok-predicate.predicate.place c.in_ok-predicate.predicate.is_role (next_symbol c.read_predicate.new.tokens) c.in_err-expect.ensures.other) c.in_err-expect.ensures.fault refl))

pub returns-in_err-first-clause-stops : goal.returns-in_err-first-clause-stops
returns-in_err-first-clause-stops c =
    let p = err_from_is_err_and c.from_residual-in_err-first.result c.from_residual-in_err-first.ensures.1 in
    rw (p.1, p.2) (λ head atoms.
    Leads-stops
    (Leads-then (c.in_ok-predicate.ensures.ok c.args.variables.now head atoms)
    (Leads-goes (terms_opening c.in_ok-predicate.predicate.place c.in_ok-predicate.predicate.is_role) (met c.args.variables.now c.read_predicate.new.names head atoms) c.read_predicate.new.tokens {e' = first_term c.in_ok-predicate.predicate.place c.in_ok-predicate.predicate.is_role} {m' = (met c.args.variables.now c.read_predicate.new.names head atoms)} {new = c.expect.new.self}
    (ap (move_of (terms_opening c.in_ok-predicate.predicate.place c.in_ok-predicate.predicate.is_role) (met c.args.variables.now c.read_predicate.new.names head atoms)) c.in_ok-expect.ensures.ok) c.in_ok-expect.ensures.passes))
    c.in_err-first.field-0.0 c.read_term.new.names
    (term-stops (first_term c.in_ok-predicate.predicate.place c.in_ok-predicate.predicate.is_role) (met c.args.variables.now c.read_predicate.new.names head atoms) c.expect.new.self c.in_err-first.field-0.0 c.read_term.new.names
    (c.in_err-first.ensures.refuses head atoms (first_more c.in_ok-predicate.predicate.place c.in_ok-predicate.predicate.is_role)) c.in_err-first.ensures.kept))

pub returns-in_err-at-clause-stops : goal.returns-in_err-at-clause-stops
returns-in_err-at-clause-stops c =
    let p = err_from_is_err_and c.from_residual-in_err-at.result c.from_residual-in_err-at.ensures.1 in
    rw (p.1, p.2) (λ head atoms.
    Leads-stops (first-leads (c.in_ok-predicate.ensures.ok c.args.variables.now head atoms) c.in_ok-expect.ensures.ok c.in_ok-expect.ensures.passes (c.in_ok-first.ensures.ok head atoms (first_more c.in_ok-predicate.predicate.place c.in_ok-predicate.predicate.is_role)) c.in_ok-first.ensures.passes) c.in_err-at.field-0.0 c.read_term.new.names
    (Stops-here (first_more c.in_ok-predicate.predicate.place c.in_ok-predicate.predicate.is_role (term_of c.in_ok-first.first)) (met c.read_term.new.variables c.read_term.new.names head atoms) c.read_term.new.tokens {cause = syntax}
    (other-first_more (met c.read_term.new.variables c.read_term.new.names head atoms) c.in_ok-predicate.predicate.place c.in_ok-predicate.predicate.is_role (term_of c.in_ok-first.first) (next_symbol c.read_term.new.tokens) c.in_err-at.ensures.other.0 c.in_err-at.ensures.other.1) c.in_err-at.ensures.fault refl))

pub returns-in_err-second-clause-stops : goal.returns-in_err-second-clause-stops
returns-in_err-second-clause-stops c =
    let p = err_from_is_err_and c.from_residual-in_err-second.result c.from_residual-in_err-second.ensures.1 in
    rw (p.1, p.2) (λ head atoms.
    Leads-stops (comma-leads (first-leads (c.in_ok-predicate.ensures.ok c.args.variables.now head atoms) c.in_ok-expect.ensures.ok c.in_ok-expect.ensures.passes (c.in_ok-first.ensures.ok head atoms (first_more c.in_ok-predicate.predicate.place c.in_ok-predicate.predicate.is_role)) c.in_ok-first.ensures.passes) (rw c.in-Some.is at c.in_ok-at.ensures.ok).0 (is-true c.in_ok-predicate.predicate.is_role c.if-not-predicate.false) c.in_ok-at.ensures.passes) c.in_err-second.field-0.0 c.read_term-2.new.names
    (term-stops (second_term c.in_ok-predicate.predicate.place (term_of c.in_ok-first.first)) (met c.read_term.new.variables c.read_term.new.names head atoms) c.comma_or.new.self c.in_err-second.field-0.0 c.read_term-2.new.names
    (c.in_err-second.ensures.refuses head atoms (second_closing c.in_ok-predicate.predicate.place (term_of c.in_ok-first.first))) c.in_err-second.ensures.kept))

pub returns-in_err-expect-2-clause-stops : goal.returns-in_err-expect-2-clause-stops
returns-in_err-expect-2-clause-stops c =
    let p = err_from_is_err_and c.from_residual-in_err-expect-2.result c.from_residual-in_err-expect-2.ensures.1 in
    rw (p.1, p.2) (λ head atoms.
    Leads-stops (role-leads (comma-leads (first-leads (c.in_ok-predicate.ensures.ok c.args.variables.now head atoms) c.in_ok-expect.ensures.ok c.in_ok-expect.ensures.passes (c.in_ok-first.ensures.ok head atoms (first_more c.in_ok-predicate.predicate.place c.in_ok-predicate.predicate.is_role)) c.in_ok-first.ensures.passes) (rw c.in-Some.is at c.in_ok-at.ensures.ok).0 (is-true c.in_ok-predicate.predicate.is_role c.if-not-predicate.false) c.in_ok-at.ensures.passes) (c.in_ok-second.ensures.ok head atoms (second_closing c.in_ok-predicate.predicate.place (term_of c.in_ok-first.first))) c.in_ok-second.ensures.passes) c.in_err-expect-2.field-0.0 c.read_term-2.new.names
    (Stops-here (second_closing c.in_ok-predicate.predicate.place (term_of c.in_ok-first.first) (term_of c.in_ok-second.second)) (met c.read_term-2.new.variables c.read_term-2.new.names head atoms) c.read_term-2.new.tokens {cause = syntax}
    (other-second_closing (met c.read_term-2.new.variables c.read_term-2.new.names head atoms) c.in_ok-predicate.predicate.place (term_of c.in_ok-first.first) (term_of c.in_ok-second.second) (next_symbol c.read_term-2.new.tokens) c.in_err-expect-2.ensures.other) c.in_err-expect-2.ensures.fault refl))

pub returns-then-not-predicate-clause-stops : goal.returns-then-not-predicate-clause-stops
returns-then-not-predicate-clause-stops c = λ head atoms.
    comma-stops (first-leads (c.in_ok-predicate.ensures.ok c.args.variables.now head atoms) c.in_ok-expect.ensures.ok c.in_ok-expect.ensures.passes (c.in_ok-first.ensures.ok head atoms (first_more c.in_ok-predicate.predicate.place c.in_ok-predicate.predicate.is_role)) c.in_ok-first.ensures.passes) (rw c.in-Some.is at c.in_ok-at.ensures.ok).0 (is-false c.in_ok-predicate.predicate.is_role c.if-not-predicate.true)
    (Reserved c.in-Some.at) (ap Reserved (rw c.in-Some.is at c.in_ok-at.ensures.ok).1)

pub returns-in_default-clause-ok : goal.returns-in_default-clause-ok
returns-in_default-clause-ok c = λ head atoms.
    class-leads (first-leads (c.in_ok-predicate.ensures.ok c.args.variables.now head atoms) c.in_ok-expect.ensures.ok c.in_ok-expect.ensures.passes (c.in_ok-first.ensures.ok head atoms (first_more c.in_ok-predicate.predicate.place c.in_ok-predicate.predicate.is_role)) c.in_ok-first.ensures.passes) (rw c.in_default.is at c.in_ok-at.ensures.ok) c.in_ok-at.ensures.passes

pub returns-clause-ok : goal.returns-clause-ok
returns-clause-ok c = λ head atoms.
    closed-leads (role-leads (comma-leads (first-leads (c.in_ok-predicate.ensures.ok c.args.variables.now head atoms) c.in_ok-expect.ensures.ok c.in_ok-expect.ensures.passes (c.in_ok-first.ensures.ok head atoms (first_more c.in_ok-predicate.predicate.place c.in_ok-predicate.predicate.is_role)) c.in_ok-first.ensures.passes) (rw c.in-Some.is at c.in_ok-at.ensures.ok).0 (is-true c.in_ok-predicate.predicate.is_role c.if-not-predicate.false) c.in_ok-at.ensures.passes) (c.in_ok-second.ensures.ok head atoms (second_closing c.in_ok-predicate.predicate.place (term_of c.in_ok-first.first))) c.in_ok-second.ensures.passes) c.in_ok-expect-2.ensures.ok c.in_ok-expect-2.ensures.passes

pub returns-in_default-clause-below : goal.returns-in_default-clause-below
returns-in_default-clause-below c = c.in_ok-first.ensures.below

pub returns-clause-below : goal.returns-clause-below
returns-clause-below c =
    (IsBelow-more (length c.read_term.new.variables) (length c.read_term-2.new.variables) c.in_ok-first.first c.in_ok-second.ensures.more c.in_ok-first.ensures.below, c.in_ok-second.ensures.below)

pub returns-in_default-clause-more : goal.returns-in_default-clause-more
returns-in_default-clause-more c = c.in_ok-first.ensures.more

pub returns-clause-more : goal.returns-clause-more
returns-clause-more c = omega (arith, c.in_ok-first.ensures.more, c.in_ok-second.ensures.more)

pub returns-in_default-clause-shorter : goal.returns-in_default-clause-shorter
returns-in_default-clause-shorter c =
    omega (
      arith,
      Passes-no-longer c.args.tokens.now c.read_predicate.new.tokens c.in_ok-predicate.ensures.passes,
      Passes-shorter c.read_predicate.new.tokens c.expect.new.self c.in_ok-expect.ensures.passes (ap is_last c.in_ok-expect.ensures.ok),
      Passes-no-longer c.expect.new.self c.read_term.new.tokens c.in_ok-first.ensures.passes,
      Passes-no-longer c.read_term.new.tokens c.comma_or.new.self c.in_ok-at.ensures.passes,
    )

pub returns-clause-shorter : goal.returns-clause-shorter
returns-clause-shorter c =
    omega (
      arith,
      Passes-no-longer c.args.tokens.now c.read_predicate.new.tokens c.in_ok-predicate.ensures.passes,
      Passes-shorter c.read_predicate.new.tokens c.expect.new.self c.in_ok-expect.ensures.passes (ap is_last c.in_ok-expect.ensures.ok),
      Passes-no-longer c.expect.new.self c.read_term.new.tokens c.in_ok-first.ensures.passes,
      Passes-no-longer c.read_term.new.tokens c.comma_or.new.self c.in_ok-at.ensures.passes,
      Passes-no-longer c.comma_or.new.self c.read_term-2.new.tokens c.in_ok-second.ensures.passes,
      Passes-no-longer c.read_term-2.new.tokens c.expect-2.new.self c.in_ok-expect-2.ensures.passes,
    )

pub returns-in_err-predicate-clause-grows : goal.returns-in_err-predicate-clause-grows
returns-in_err-predicate-clause-grows c = c.in_err-predicate.ensures.grows

pub returns-in_err-expect-clause-grows : goal.returns-in_err-expect-clause-grows
returns-in_err-expect-clause-grows c = c.in_ok-predicate.ensures.grows

pub returns-in_err-first-clause-grows : goal.returns-in_err-first-clause-grows
returns-in_err-first-clause-grows c = (Extends-trans c.args.names.now c.read_predicate.new.names c.read_term.new.names c.in_ok-predicate.ensures.grows c.in_err-first.ensures.grows)

pub returns-in_err-at-clause-grows : goal.returns-in_err-at-clause-grows
returns-in_err-at-clause-grows c = (Extends-trans c.args.names.now c.read_predicate.new.names c.read_term.new.names c.in_ok-predicate.ensures.grows c.in_ok-first.ensures.grows)

pub returns-in_default-clause-grows : goal.returns-in_default-clause-grows
returns-in_default-clause-grows c = (Extends-trans c.args.names.now c.read_predicate.new.names c.read_term.new.names c.in_ok-predicate.ensures.grows c.in_ok-first.ensures.grows)

pub returns-then-not-predicate-clause-grows : goal.returns-then-not-predicate-clause-grows
returns-then-not-predicate-clause-grows c = (Extends-trans c.args.names.now c.read_predicate.new.names c.read_term.new.names c.in_ok-predicate.ensures.grows c.in_ok-first.ensures.grows)

pub returns-in_err-second-clause-grows : goal.returns-in_err-second-clause-grows
returns-in_err-second-clause-grows c =
    Extends-trans c.args.names.now c.read_term.new.names c.read_term-2.new.names (Extends-trans c.args.names.now c.read_predicate.new.names c.read_term.new.names c.in_ok-predicate.ensures.grows c.in_ok-first.ensures.grows) c.in_err-second.ensures.grows

pub returns-in_err-expect-2-clause-grows : goal.returns-in_err-expect-2-clause-grows
returns-in_err-expect-2-clause-grows c =
    Extends-trans c.args.names.now c.read_term.new.names c.read_term-2.new.names (Extends-trans c.args.names.now c.read_predicate.new.names c.read_term.new.names c.in_ok-predicate.ensures.grows c.in_ok-first.ensures.grows) c.in_ok-second.ensures.grows

pub returns-clause-grows : goal.returns-clause-grows
returns-clause-grows c =
    Extends-trans c.args.names.now c.read_term.new.names c.read_term-2.new.names (Extends-trans c.args.names.now c.read_predicate.new.names c.read_term.new.names c.in_ok-predicate.ensures.grows c.in_ok-first.ensures.grows) c.in_ok-second.ensures.grows

pub returns-in_default-clause-fits : goal.returns-in_default-clause-fits
returns-in_default-clause-fits c = c.in_ok-first.ensures.fits c.in_ok-predicate.ensures.fits

pub returns-clause-fits : goal.returns-clause-fits
returns-clause-fits c = c.in_ok-second.ensures.fits (c.in_ok-first.ensures.fits c.in_ok-predicate.ensures.fits)
