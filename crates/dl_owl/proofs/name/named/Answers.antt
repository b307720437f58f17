use Rattle.std.proofs.Common.{sym, subst}
use Rattle.dl_owl.specs.NamesNext.{IsIri}
use Rattle.dl_names.specs.Iris.{is_free}
use Rattle.dl_owl.specs.Expected.{refuses}
use Rattle.dl_owl.specs.Steps.{name_next, named_next}
use Rattle.dl_owl.specs.Walk.{here, symbol_at}
use Rattle.dl_owl.proofs.IriLemmas.{at_iri-is}
use Rattle.dl_owl.proofs.TakenLemmas.{exit_follows, follows_as}
use Rattle.dl_owl.proofs.name.named.Goals as goal

pub returns-in_err-expect_iri : goal.returns-in_err-expect_iri
returns-in_err-expect_iri c =
    λ cause same.
    exit_follows (λ k. named_next c.args.prefixes.now is_free k (refuses cause) (symbol_at c.args.at.now))
    (here c.args.at.now c.args.prefixes.now c.args.names.now) (here c.args.at.now c.args.prefixes.now c.args.names.now)
    c.from_residual.result c.in_err-expect_iri.field-0.0 c.from_residual.ensures.1
    (λ e k is. c.in_err-expect_iri.ensures c.args.names.now e (λ t. name_next is_free t k) cause same is)

pub returns : goal.returns
returns c =
    λ cause same.
    let iri : IsIri c.args.prefixes.now (symbol_at c.args.at.now) c.as_str.result.now =
    subst (IsIri c.args.prefixes.now (symbol_at c.args.at.now)) (sym c.as_str.ensures.value) c.in_ok-expect_iri.ensures in
    follows_as (λ k. name_next is_free c.as_str.result.now k)
    (λ k. named_next c.args.prefixes.now is_free k (refuses cause) (symbol_at c.args.at.now))
    (here c.args.at.now c.args.prefixes.now c.args.names.now) (here c.take_free.new.at c.args.prefixes.now c.take_free.new.names)
    c.take_free.result
    (λ k. at_iri-is c.args.prefixes.now (symbol_at c.args.at.now) c.as_str.result.now (λ t. name_next is_free t k) (refuses cause) iri)
    (c.take_free.ensures c.args.prefixes.now iri)
