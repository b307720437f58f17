use Rattle.std.proofs.Common.{true, false, if◌then◌else◌, refl, sym, ◌∙◌, subst}
use Rattle.std.specs.Str.{bytes_eq}
use Rattle.dl_lex.specs.declared.keyword.Keyword.TheVariants.{ObjectSomeValuesFrom}
use Rattle.dl_owl.specs.declared.fault.Construct.TheVariants as construct
use Rattle.dl_owl.specs.declared.fault.OwlFault.TheVariants as fault
use Rattle.dl_owl.specs.NamesNext.{owl_thing, IsIri}
use Rattle.dl_owl.specs.Causes.{not_ql}
use Rattle.dl_owl.specs.Expected.{thing_then, goes, refuses}
use Rattle.dl_owl.specs.Steps.{refused_class}
use Rattle.dl_owl.specs.Walk.{here, symbol_at, Faults}
use Rattle.dl_owl.proofs.WalkLemmas.{faults-refused}
use Rattle.dl_owl.proofs.CursorLemmas.{exit_passes}
use Rattle.dl_owl.proofs.TakenLemmas.{passed, passed_faults}
use Rattle.dl_owl.proofs.ReaderLemmas.{thing_by}
use Rattle.dl_owl.proofs.class.thing.Goals as goal

pub returns-in_err-expect_iri : goal.returns-in_err-expect_iri
returns-in_err-expect_iri c =
    λ names.
    exit_passes thing_then (here c.args.at.now c.args.prefixes.now names) (here c.args.at.now c.args.prefixes.now names)
    c.from_residual.result c.in_err-expect_iri.field-0.0 c.from_residual.ensures.1
    (λ k.
    c.in_err-expect_iri.ensures names (thing_then k)
    (λ t. if bytes_eq owl_thing t then goes k else refuses (not_ql ObjectSomeValuesFrom))
    (refused_class ObjectSomeValuesFrom (symbol_at c.args.at.now)) c.no_class-other.ensures refl)

pub returns-then-not-is_thing : goal.returns-then-not-is_thing
returns-then-not-is_thing c =
    λ names k.
    let p = c.args.prefixes.now in
    let text = c.as_str-iri.result.now in
    let iri : IsIri p (symbol_at c.args.at.now) text =
    subst (IsIri p (symbol_at c.args.at.now)) (sym c.as_str-iri.ensures.value) c.in_ok-expect_iri.ensures in
    subst (λ n. Faults (thing_then k) (here c.args.at.now p names) names (fault.NotQl n (construct.Keyword ObjectSomeValuesFrom)))
    (sym c.start-start.ensures)
    (faults-refused (thing_then k) c.args.at.now p names (not_ql ObjectSomeValuesFrom)
    (thing_by p (symbol_at c.args.at.now) text iri k (refuses (refused_class ObjectSomeValuesFrom (symbol_at c.args.at.now))) false
    (sym c.is_thing.ensures ∙ c.if-not-is_thing.true)))

pub returns-in_err-advance : goal.returns-in_err-advance
returns-in_err-advance c =
    λ names.
    let p = c.args.prefixes.now in
    let text = c.as_str-iri.result.now in
    let iri : IsIri p (symbol_at c.args.at.now) text =
    subst (IsIri p (symbol_at c.args.at.now)) (sym c.as_str-iri.ensures.value) c.in_ok-expect_iri.ensures in
    exit_passes thing_then (here c.args.at.now p names) (here c.advance.new.self p names)
    c.from_residual-in_err-advance.result c.in_err-advance.field-0.0 c.from_residual-in_err-advance.ensures.1
    (λ k.
    passed_faults c.args.at.now p names text iri (thing_then k) k
    (thing_by p (symbol_at c.args.at.now) text iri k (refuses (refused_class ObjectSomeValuesFrom (symbol_at c.args.at.now))) true
    (sym c.is_thing.ensures ∙ c.if-not-is_thing.false))
    c.in_err-advance.field-0.0 c.in_err-advance.ensures)

pub returns : goal.returns
returns c =
    λ names k.
    let p = c.args.prefixes.now in
    let text = c.as_str-iri.result.now in
    let iri : IsIri p (symbol_at c.args.at.now) text =
    subst (IsIri p (symbol_at c.args.at.now)) (sym c.as_str-iri.ensures.value) c.in_ok-expect_iri.ensures in
    passed c.args.at.now p names text iri (thing_then k) k
    (thing_by p (symbol_at c.args.at.now) text iri k (refuses (refused_class ObjectSomeValuesFrom (symbol_at c.args.at.now))) true
    (sym c.is_thing.ensures ∙ c.if-not-is_thing.false))
    c.advance.new.self c.in_ok-advance.ensures
