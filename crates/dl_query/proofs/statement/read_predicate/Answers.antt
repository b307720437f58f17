use Rattle.std.proofs.Common.{◌∙◌, ◌≢◌, sym, ap, refl}
use Rattle.std.proofs.lemmas.Result.{err_from_is_err_and}
use Rattle.dl_names.specs.NameList.{Text}
use Rattle.dl_names.proofs.NameListLemmas.{Extends-same}
use Rattle.dl_query.specs.declared.fault.QueryFault.TheVariants.{Syntax, Reserved, TooManyNames}
use Rattle.dl_query.specs.Symbols.{iri}
use Rattle.dl_query.specs.Grammar.{met}
use Rattle.dl_query.specs.Steps.{predicate, syntax}
use Rattle.dl_query.specs.Parts.{next_symbol, symbol_of}
use Rattle.dl_query.proofs.StatementLemmas.{predicate-leads, predicate-reserved, predicate-full, not-iri, named-grows, kept-grows}
use Rattle.dl_query.proofs.StepLemmas.{other-predicate, Stops-here}
use Rattle.dl_query.proofs.statement.read_predicate.Goals as goal

pub returns-in_default : goal.returns-in_default
returns-in_default c =
    let no : (text : Text) → next_symbol c.args.tokens.now ≢ iri text =
    λ text h. not-iri c.next-at.result.0 c.in_default.not-Iri text (c.next-at.ensures.token ∙ h)
    in
    record {
      ok = tt;
      stops = λ variables head atoms.
          let m = met variables c.args.names.now head atoms in
          Stops-here predicate m c.args.tokens.now {cause = syntax} (other-predicate m (next_symbol c.args.tokens.now) no) (ap Syntax c.next-at.ensures.at) refl;
      fits = tt;
      grows = Extends-same c.args.names.now;
      passes = c.next-at.ensures.passes;
    }

pub returns-then-not-may_be_class-clause-stops : goal.returns-then-not-may_be_class-clause-stops
returns-then-not-may_be_class-clause-stops c =
    predicate-reserved c.args.tokens.now c.in-Iri.text.now (sym c.next-at.ensures.token ∙ ap symbol_of c.in-Iri.is) c.args.names.now
    (Reserved c.next-at.result.1) c.args.names.now (sym c.if-not-may_be_class.ensures) (ap Reserved c.next-at.ensures.at) refl

pub returns-in_err-place-clause-stops : goal.returns-in_err-place-clause-stops
returns-in_err-place-clause-stops c =
    let p = err_from_is_err_and c.from_residual.result c.from_residual.ensures.1 in
    rw (p.1, p.2)
    (predicate-full c.args.tokens.now c.in-Iri.text.now (sym c.next-at.ensures.token ∙ ap symbol_of c.in-Iri.is) c.args.names.now
    c.in_err-place.field-0.0 c.place_of.new.names (sym c.if-not-may_be_class.ensures)
    (λ no. let full = c.in_err-place.ensures.full no in (full.0 ∙ ap TooManyNames c.next-at.ensures.at, full.1)) c.in_err-place.ensures.kept)

pub returns-in_err-place-clause-grows : goal.returns-in_err-place-clause-grows
returns-in_err-place-clause-grows c = kept-grows c.args.names.now c.place_of.new.names c.in_err-place.ensures.kept

pub returns-clause-ok : goal.returns-clause-ok
returns-clause-ok c =
    predicate-leads c.args.tokens.now c.in-Iri.text.now (sym c.next-at.ensures.token ∙ ap symbol_of c.in-Iri.is) c.args.names.now
    c.next-at.new.self c.place_of.new.names c.in_ok-place.place c.is_free-is_role.result c.next-at.ensures.passes
    (sym c.if-not-may_be_class.ensures) c.in_ok-place.ensures.room c.in_ok-place.ensures.named c.in_ok-place.ensures.place
    c.is_free-is_role.ensures

pub returns-clause-grows : goal.returns-clause-grows
returns-clause-grows c = named-grows c.args.names.now c.place_of.new.names c.in-Iri.text.now c.in_ok-place.ensures.named
