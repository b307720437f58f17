use Rattle.std.proofs.Common.{◌∙◌, sym, subst}
use Rattle.std.specs.Str.{IsUtf8}
use Rattle.dl_names.specs.Iris.{is_iri_byte}
use Rattle.dl_query.specs.Symbols.{run, behind}
use Rattle.dl_query.proofs.TokenLemmas.{iri-found, iri-none}
use Rattle.dl_query.proofs.token.iri.Goals as goal

pub returns-in-Ok : goal.returns-in-Ok
returns-in-Ok c =
    iri-found (run is_iri_byte c.args.bytes.now) c.in-Ok.text.now c.in-Some.rest.now c.in-Some.first.now (behind is_iri_byte c.args.bytes.now)
    (sym c.split.ensures.rest ∙ c.in-Some.ensures.cases.0) c.if-first-ne62.false (c.in-Ok.ensures.cases.0 ∙ c.split.ensures.front)
    (subst IsUtf8 c.split.ensures.front c.in-Ok.ensures.cases.1)

pub returns-in-Err : goal.returns-in-Err
returns-in-Err c =
    iri-none (run is_iri_byte c.args.bytes.now) c.in-Some.rest.now c.in-Some.first.now (behind is_iri_byte c.args.bytes.now)
    (sym c.split.ensures.rest ∙ c.in-Some.ensures.cases.0) (λ u. c.in-Err.ensures.cases.0 (subst IsUtf8 (sym c.split.ensures.front) u))
