use Rattle.std.proofs.Common.{◌∙◌, sym, ap}
use Rattle.std.proofs.lemmas.Result.{err_from_is_err_and}
use Rattle.dl_query.specs.declared.fault.QueryFault.TheVariants.{Syntax, Reserved, TooManyNames}
use Rattle.dl_query.specs.Grammar.{met}
use Rattle.dl_query.specs.Steps.{syntax}
use Rattle.dl_query.specs.Parts.{next_symbol, next_at, symbol_of}
use Rattle.dl_query.proofs.StatementLemmas.{iri-goes, iri-reserved, iri-full, variable-goes, variable-below, variable-more, not-iri, not-variable, named-grows, kept-grows}
use Rattle.dl_query.proofs.StepLemmas.{other-term}
use Rattle.dl_query.proofs.statement.read_term.Goals as goal

pub returns-then-not-is_free-clause-refuses : goal.returns-then-not-is_free-clause-refuses
returns-then-not-is_free-clause-refuses c = λ head atoms expected.
    iri-reserved (next_symbol c.args.tokens.now) c.in-Iri.text.now (sym c.next-at.ensures.token ∙ ap symbol_of c.in-Iri.is) c.args.variables.now c.args.names.now head atoms expected
    (next_at c.args.tokens.now) (Reserved c.next-at.result.1) (sym c.if-not-is_free.ensures) (ap Reserved c.next-at.ensures.at)

pub returns-in_err-place-in-Iri-clause-refuses : goal.returns-in_err-place-in-Iri-clause-refuses
returns-in_err-place-in-Iri-clause-refuses c =
    let p = err_from_is_err_and c.from_residual.result c.from_residual.ensures.1 in
    rw (p.1, p.2) (λ head atoms expected.
    iri-full (next_symbol c.args.tokens.now) c.in-Iri.text.now (sym c.next-at.ensures.token ∙ ap symbol_of c.in-Iri.is) c.args.variables.now c.args.names.now head atoms expected
    (next_at c.args.tokens.now) c.in_err-place-in-Iri.field-0.0 (sym c.if-not-is_free.ensures)
    (λ no. let full = c.in_err-place-in-Iri.ensures.full no in (full.0 ∙ ap TooManyNames c.next-at.ensures.at, full.1)))

pub returns-in_err-place-in-Iri-clause-grows : goal.returns-in_err-place-in-Iri-clause-grows
returns-in_err-place-in-Iri-clause-grows c = kept-grows c.args.names.now c.place_of.new.names c.in_err-place-in-Iri.ensures.kept

pub returns-in-Ok-clause-ok : goal.returns-in-Ok-clause-ok
returns-in-Ok-clause-ok c =
    variable-goes (next_symbol c.args.tokens.now) c.in-Variable.name.now (sym c.next-at.ensures.token ∙ ap symbol_of c.in-Variable.is) c.args.variables.now c.number.new.self c.args.names.now
    c.in-Ok.number c.in-Ok.ensures.met c.in-Ok.ensures.number

pub returns-in-Ok-clause-below : goal.returns-in-Ok-clause-below
returns-in-Ok-clause-below c =
    variable-below c.args.variables.now c.number.new.self c.in-Variable.name.now c.in-Ok.number c.in-Ok.ensures.met c.in-Ok.ensures.number

pub returns-in-Ok-clause-more : goal.returns-in-Ok-clause-more
returns-in-Ok-clause-more c = variable-more c.args.variables.now c.number.new.self c.in-Variable.name.now c.in-Ok.ensures.met

pub returns-in_ok-place-in-Iri-clause-ok : goal.returns-in_ok-place-in-Iri-clause-ok
returns-in_ok-place-in-Iri-clause-ok c = λ head atoms expected.
    iri-goes (next_symbol c.args.tokens.now) c.in-Iri.text.now (sym c.next-at.ensures.token ∙ ap symbol_of c.in-Iri.is) c.args.variables.now c.args.names.now head atoms expected
    c.place_of.new.names c.in_ok-place-in-Iri.place (sym c.if-not-is_free.ensures)
    c.in_ok-place-in-Iri.ensures.room c.in_ok-place-in-Iri.ensures.named c.in_ok-place-in-Iri.ensures.place

pub returns-in_ok-place-in-Iri-clause-grows : goal.returns-in_ok-place-in-Iri-clause-grows
returns-in_ok-place-in-Iri-clause-grows c = named-grows c.args.names.now c.place_of.new.names c.in-Iri.text.now c.in_ok-place-in-Iri.ensures.named

pub returns-in_default-clause-refuses : goal.returns-in_default-clause-refuses
returns-in_default-clause-refuses c = λ head atoms expected no. (
  syntax,
  ap Syntax c.next-at.ensures.at,
  other-term (met c.args.variables.now c.args.names.now head atoms) (next_symbol c.args.tokens.now) expected
      (λ x h. not-variable c.next-at.result.0 c.in_default.not-Variable x (c.next-at.ensures.token ∙ h))
      (λ x h. not-iri c.next-at.result.0 c.in_default.not-Iri x (c.next-at.ensures.token ∙ h)),
)
