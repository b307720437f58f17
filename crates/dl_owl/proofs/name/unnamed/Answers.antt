use Rattle.std.proofs.Common.{true, false, if◌then◌else◌, refl, sym, ◌∙◌, subst}
use Rattle.dl_owl.specs.declared.fault.OwlFault.TheVariants as fault
use Rattle.dl_owl.specs.NamesNext.{IsIri}
use Rattle.dl_names.specs.Iris.{is_free}
use Rattle.dl_owl.specs.Causes.{reserved}
use Rattle.dl_owl.specs.Expected.{unnamed_then, goes, refuses}
use Rattle.dl_owl.specs.Steps.{refused_individual}
use Rattle.dl_owl.specs.Walk.{here, symbol_at, Faults}
use Rattle.dl_owl.proofs.WalkLemmas.{faults-refused}
use Rattle.dl_owl.proofs.CursorLemmas.{exit_passes}
use Rattle.dl_owl.proofs.TakenLemmas.{passed, passed_faults}
use Rattle.dl_owl.proofs.PairLemmas.{unnamed_by}
use Rattle.dl_owl.proofs.name.unnamed.Goals as goal

pub returns-in_err-expect_iri : goal.returns-in_err-expect_iri
returns-in_err-expect_iri c =
    λ names.
    exit_passes unnamed_then (here c.args.at.now c.args.prefixes.now names) (here c.args.at.now c.args.prefixes.now
    names)
    c.from_residual.result c.in_err-expect_iri.field-0.0 c.from_residual.ensures.1
    (λ k.
    c.in_err-expect_iri.ensures names (unnamed_then k) (λ t. if is_free t then goes k else refuses reserved)
    (refused_individual (symbol_at c.args.at.now)) c.no_individual-other.ensures refl)

pub returns-then-not-is_free : goal.returns-then-not-is_free
returns-then-not-is_free c =
    λ names k.
    let p = c.args.prefixes.now in
    let text = c.as_str-iri.result.now in
    let iri : IsIri p (symbol_at c.args.at.now) text =
    subst (IsIri p (symbol_at c.args.at.now)) (sym c.as_str-iri.ensures.value) c.in_ok-expect_iri.ensures in
    subst (λ n. Faults (unnamed_then k) (here c.args.at.now p names) names (fault.Reserved n)) (sym c.start-start.ensures)
    (faults-refused (unnamed_then k) c.args.at.now p names reserved
    (unnamed_by p (symbol_at c.args.at.now) text iri k (refuses (refused_individual (symbol_at c.args.at.now))) false
    (sym c.is_free.ensures ∙ c.if-not-is_free.true)))

pub returns-in_err-advance : goal.returns-in_err-advance
returns-in_err-advance c =
    λ names.
    let p = c.args.prefixes.now in
    let text = c.as_str-iri.result.now in
    let iri : IsIri p (symbol_at c.args.at.now) text =
    subst (IsIri p (symbol_at c.args.at.now)) (sym c.as_str-iri.ensures.value) c.in_ok-expect_iri.ensures in
    exit_passes unnamed_then (here c.args.at.now p names) (here c.advance.new.self p names)
    c.from_residual-in_err-advance.result c.in_err-advance.field-0.0 c.from_residual-in_err-advance.ensures.1
    (λ k.
    passed_faults c.args.at.now p names text iri (unnamed_then k) k
    (unnamed_by p (symbol_at c.args.at.now) text iri k (refuses (refused_individual (symbol_at c.args.at.now))) true
    (sym c.is_free.ensures ∙ c.if-not-is_free.false))
    c.in_err-advance.field-0.0 c.in_err-advance.ensures)

pub returns : goal.returns
returns c =
    λ names k.
    let p = c.args.prefixes.now in
    let text = c.as_str-iri.result.now in
    let iri : IsIri p (symbol_at c.args.at.now) text =
    subst (IsIri p (symbol_at c.args.at.now)) (sym c.as_str-iri.ensures.value) c.in_ok-expect_iri.ensures in
    passed c.args.at.now p names text iri (unnamed_then k) k
    (unnamed_by p (symbol_at c.args.at.now) text iri k (refuses (refused_individual (symbol_at c.args.at.now))) true
    (sym c.is_free.ensures ∙ c.if-not-is_free.false))
    c.advance.new.self c.in_ok-advance.ensures
