use Rattle.std.proofs.Common.{Some, None, if◌then◌else◌, sym, ◌∙◌, subst}
use Rattle.std.specs.Str.{bytes_eq}
use Rattle.dl_owl.specs.NamesNext.{owl_thing, IsIri}
use Rattle.dl_names.specs.Iris.{may_be_class}
use Rattle.dl_owl.specs.Expected.{goes, refuses}
use Rattle.dl_owl.specs.Steps.{name_next, class_or_thing}
use Rattle.dl_owl.specs.Walk.{here, symbol_at}
use Rattle.dl_owl.proofs.TakenLemmas.{exit_follows, passed, passed_faults}
use Rattle.dl_owl.proofs.ReaderLemmas.{class_thing, class_other}
use Rattle.dl_owl.proofs.name.class_or_thing.Goals as goal

pub returns-in_err-advance : goal.returns-in_err-advance
returns-in_err-advance c =
    λ cause same.
    let p = c.args.prefixes.now in
    let text = c.as_str-iri.result.now in
    let iri : IsIri p (symbol_at c.args.at.now) text =
    subst (IsIri p (symbol_at c.args.at.now)) (sym c.as_str-iri.ensures.value) c.in_ok-expect_iri.ensures in
    exit_follows (λ k. class_or_thing p (goes (k None)) (λ n. k (Some n)) (refuses cause) (symbol_at c.args.at.now))
    (here c.args.at.now p c.args.names.now) (here c.advance.new.self p c.args.names.now) c.from_residual-in_err-advance.result
    c.in_err-advance.field-0.0 c.from_residual-in_err-advance.ensures.1
    (λ e k is.
    passed_faults c.args.at.now p c.args.names.now text iri e (k None)
    (is
    ∙ class_thing p (symbol_at c.args.at.now) text iri (goes (k None)) (λ n. k (Some n)) (refuses cause)
    (sym c.is_thing.ensures ∙ c.if-is_thing.true))
    c.in_err-advance.field-0.0 c.in_err-advance.ensures)

pub returns-then-is_thing : goal.returns-then-is_thing
returns-then-is_thing c =
    λ cause same e k is.
    let p = c.args.prefixes.now in
    let text = c.as_str-iri.result.now in
    let iri : IsIri p (symbol_at c.args.at.now) text =
    subst (IsIri p (symbol_at c.args.at.now)) (sym c.as_str-iri.ensures.value) c.in_ok-expect_iri.ensures in
    passed c.args.at.now p c.args.names.now text iri e (k None)
    (is
    ∙ class_thing p (symbol_at c.args.at.now) text iri (goes (k None)) (λ n. k (Some n)) (refuses cause)
    (sym c.is_thing.ensures ∙ c.if-is_thing.true))
    c.advance.new.self c.in_ok-advance.ensures

pub returns-in_err-class : goal.returns-in_err-class
returns-in_err-class c =
    λ cause same.
    let p = c.args.prefixes.now in
    let text = c.as_str-iri.result.now in
    let iri : IsIri p (symbol_at c.args.at.now) text =
    subst (IsIri p (symbol_at c.args.at.now)) (sym c.as_str-iri.ensures.value) c.in_ok-expect_iri.ensures in
    exit_follows (λ k. class_or_thing p (goes (k None)) (λ n. k (Some n)) (refuses cause) (symbol_at c.args.at.now))
    (here c.args.at.now p c.args.names.now) (here c.take_class.new.at p c.take_class.new.names) c.from_residual-in_err-class.result
    c.in_err-class.field-0.0 c.from_residual-in_err-class.ensures.1
    (λ e k is.
    c.in_err-class.ensures p iri e (λ n. k (Some n))
    (is
    ∙ class_other p (symbol_at c.args.at.now) text iri (goes (k None)) (λ n. k (Some n)) (refuses cause)
    (sym c.is_thing.ensures ∙ c.if-is_thing.false)))

pub returns : goal.returns
returns c =
    λ cause same e k is.
    let p = c.args.prefixes.now in
    let text = c.as_str-iri.result.now in
    let iri : IsIri p (symbol_at c.args.at.now) text =
    subst (IsIri p (symbol_at c.args.at.now)) (sym c.as_str-iri.ensures.value) c.in_ok-expect_iri.ensures in
    c.in_ok-class.ensures p iri e (λ n. k (Some n))
    (is
    ∙ class_other p (symbol_at c.args.at.now) text iri (goes (k None)) (λ n. k (Some n)) (refuses cause)
    (sym c.is_thing.ensures ∙ c.if-is_thing.false))

pub returns-in_err-expect_iri : goal.returns-in_err-expect_iri
returns-in_err-expect_iri c =
    λ cause same.
    let p = c.args.prefixes.now in
    exit_follows (λ k. class_or_thing p (goes (k None)) (λ n. k (Some n)) (refuses cause) (symbol_at c.args.at.now))
    (here c.args.at.now p c.args.names.now) (here c.args.at.now p c.args.names.now) c.from_residual.result
    c.in_err-expect_iri.field-0.0 c.from_residual.ensures.1
    (λ e k is.
    c.in_err-expect_iri.ensures c.args.names.now e
    (λ t. if bytes_eq owl_thing t then goes (k None) else name_next may_be_class t (λ n. k (Some n))) cause same is)
