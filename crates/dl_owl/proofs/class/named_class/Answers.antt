use Rattle.std.proofs.Common.{if◌then◌else◌, sym, ap, ◌∙◌, subst}
use Rattle.std.specs.Str.{bytes_eq}
use Rattle.dl_owl.specs.declared.fault.Construct.TheVariants.{Thing}
use Rattle.dl_owl.specs.declared.fault.OwlFault.TheVariants as fault
use Rattle.dl_owl.specs.NamesNext.{owl_thing, IsIri}
use Rattle.dl_names.specs.Iris.{may_be_class}
use Rattle.dl_owl.specs.Causes.{syntax, left_out}
use Rattle.dl_owl.specs.Expected.{refuses}
use Rattle.dl_owl.specs.Steps.{name_next, class_or_thing}
use Rattle.dl_owl.specs.Walk.{here, symbol_at, Faults}
use Rattle.dl_owl.proofs.WalkLemmas.{faults-refused}
use Rattle.dl_owl.proofs.TakenLemmas.{exit_follows, follows_as}
use Rattle.dl_owl.proofs.ReaderLemmas.{class_thing, class_other}
use Rattle.dl_owl.proofs.class.named_class.Goals as goal

pub returns-in_err-expect_iri : goal.returns-in_err-expect_iri
returns-in_err-expect_iri c =
    exit_follows
    (λ k. class_or_thing c.args.prefixes.now (refuses (left_out Thing)) k (refuses syntax) (symbol_at c.args.at.now))
    (here c.args.at.now c.args.prefixes.now c.args.names.now) (here c.args.at.now c.args.prefixes.now c.args.names.now)
    c.from_residual.result c.in_err-expect_iri.field-0.0 c.from_residual.ensures.1
    (λ e k is.
    c.in_err-expect_iri.ensures c.args.names.now e
    (λ t. if bytes_eq owl_thing t then refuses (left_out Thing) else name_next may_be_class t k) syntax
    (ap fault.Syntax c.start-start.ensures) is)

pub returns-then-is_thing : goal.returns-then-is_thing
returns-then-is_thing c =
    λ e k is.
    let p = c.args.prefixes.now in
    let text = c.as_str-iri.result.now in
    let iri : IsIri p (symbol_at c.args.at.now) text =
    subst (IsIri p (symbol_at c.args.at.now)) (sym c.as_str-iri.ensures.value) c.in_ok-expect_iri.ensures in
    subst (λ n. Faults e (here c.args.at.now p c.args.names.now) c.args.names.now (fault.LeftOut n Thing)) (sym c.start-start.ensures)
    (faults-refused e c.args.at.now p c.args.names.now (left_out Thing)
    (is
    ∙ class_thing p (symbol_at c.args.at.now) text iri (refuses (left_out Thing)) k (refuses syntax)
    (sym c.is_thing.ensures ∙ c.if-is_thing.true)))

pub returns : goal.returns
returns c =
    let p = c.args.prefixes.now in
    let text = c.as_str-iri.result.now in
    let iri : IsIri p (symbol_at c.args.at.now) text =
    subst (IsIri p (symbol_at c.args.at.now)) (sym c.as_str-iri.ensures.value) c.in_ok-expect_iri.ensures in
    follows_as (λ k. name_next may_be_class text k)
    (λ k. class_or_thing p (refuses (left_out Thing)) k (refuses syntax) (symbol_at c.args.at.now))
    (here c.args.at.now p c.args.names.now) (here c.take_class.new.at p c.take_class.new.names) c.take_class.result
    (λ k.
    class_other p (symbol_at c.args.at.now) text iri (refuses (left_out Thing)) k (refuses syntax)
    (sym c.is_thing.ensures ∙ c.if-is_thing.false))
    (c.take_class.ensures p iri)
