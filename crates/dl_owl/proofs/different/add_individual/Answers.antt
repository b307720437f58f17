use Rattle.std.proofs.Common.{true, false, inl, ◌∷◌, sym, ◌∙◌, subst}
use Rattle.dl_lex.specs.declared.keyword.Keyword.TheVariants.{DifferentIndividuals}
use Rattle.dl_names.proofs.NameListLemmas.{Extends-same}
use Rattle.dl_owl.specs.declared.fault.Construct.TheVariants as construct
use Rattle.dl_owl.specs.declared.fault.OwlFault.TheVariants as fault
use Rattle.dl_owl.specs.NamesNext.{IsIri}
use Rattle.dl_owl.specs.Causes.{reserved}
use Rattle.dl_owl.specs.Refused.{keyword_left_out}
use Rattle.dl_owl.specs.Steps.{refused_individual}
use Rattle.dl_owl.specs.Different.{HaveSame, ReadsDifferent}
use Rattle.dl_owl.specs.Walk.{here, symbol_at, Faults}
use Rattle.dl_owl.proofs.WalkLemmas.{faults-refused}
use Rattle.dl_owl.proofs.TakenLemmas.{passed, passed_faults}
use Rattle.dl_owl.proofs.SeriesLemmas.{exit_by}
use Rattle.dl_owl.proofs.DifferentLemmas.{was_new, was_there, same_after, individual_by, individual_twice, individual_once}
use Rattle.dl_owl.proofs.different.add_individual.Goals as goal

pub returns-in_err-expect_iri : goal.returns-in_err-expect_iri
returns-in_err-expect_iri c =
    λ names.
    exit_by (ReadsDifferent (here c.args.at.now c.args.prefixes.now names)
    (here c.args.at.now c.args.prefixes.now names) c.args.before.now c.args.before.now)
    c.from_residual.result c.in_err-expect_iri.field-0.0 c.from_residual.ensures.1
    (λ before same e k is.
    c.in_err-expect_iri.ensures names e (individual_by before k) (refused_individual (symbol_at c.args.at.now))
    c.no_individual-other.ensures is)

pub returns-in_err-new : goal.returns-in_err-new
returns-in_err-new c =
    λ names.
    exit_by (ReadsDifferent (here c.args.at.now c.args.prefixes.now names)
    (here c.args.at.now c.args.prefixes.now names) c.args.before.now c.add.new.self)
    c.from_residual-in_err-new.result c.in_err-new.field-0.0 c.from_residual-in_err-new.ensures.1
    (λ before same e k is. record { grows = Extends-same names; why = inl c.in_err-new.ensures.fault })

pub returns-then-not-new : goal.returns-then-not-new
returns-then-not-new c =
    λ names before same e k is.
    let p = c.args.prefixes.now in
    let text = c.as_str-iri.result.now in
    let iri : IsIri p (symbol_at c.args.at.now) text =
    subst (IsIri p (symbol_at c.args.at.now)) (sym c.as_str-iri.ensures.value) c.in_ok-expect_iri.ensures in
    subst (λ n. Faults e (here c.args.at.now p names) names (fault.LeftOut n (construct.Keyword DifferentIndividuals)))
    (sym c.start-start.ensures)
    (faults-refused e c.args.at.now p names (keyword_left_out DifferentIndividuals)
    (is
    ∙ individual_twice p (symbol_at c.args.at.now) text iri before k
    (same text ∙ was_there c.args.before.now text c.in_ok-new.new c.in_ok-new.ensures.is_new c.if-not-new.true)))

pub returns-then-not-is_free : goal.returns-then-not-is_free
returns-then-not-is_free c =
    λ names before same e k is.
    let p = c.args.prefixes.now in
    let text = c.as_str-iri.result.now in
    let iri : IsIri p (symbol_at c.args.at.now) text =
    subst (IsIri p (symbol_at c.args.at.now)) (sym c.as_str-iri.ensures.value) c.in_ok-expect_iri.ensures in
    subst (λ n. Faults e (here c.args.at.now p names) names (fault.Reserved n)) (sym c.start-start.ensures)
    (faults-refused e c.args.at.now p names reserved
    (is
    ∙ individual_once p (symbol_at c.args.at.now) text iri before k
    (same text ∙ was_new c.args.before.now text c.in_ok-new.new c.in_ok-new.ensures.is_new c.if-not-new.false) false
    (sym c.is_free.ensures ∙ c.if-not-is_free.true)))

pub returns-in_err-advance : goal.returns-in_err-advance
returns-in_err-advance c =
    λ names.
    let p = c.args.prefixes.now in
    let text = c.as_str-iri.result.now in
    let iri : IsIri p (symbol_at c.args.at.now) text =
    subst (IsIri p (symbol_at c.args.at.now)) (sym c.as_str-iri.ensures.value) c.in_ok-expect_iri.ensures in
    exit_by (ReadsDifferent (here c.args.at.now c.args.prefixes.now names)
    (here c.advance.new.self c.args.prefixes.now names) c.args.before.now c.add.new.self)
    c.from_residual-in_err-advance.result c.in_err-advance.field-0.0 c.from_residual-in_err-advance.ensures.1
    (λ before same e k is.
    passed_faults c.args.at.now p names text iri e (k (text ∷ before))
    (is
    ∙ individual_once p (symbol_at c.args.at.now) text iri before k
    (same text ∙ was_new c.args.before.now text c.in_ok-new.new c.in_ok-new.ensures.is_new c.if-not-new.false) true
    (sym c.is_free.ensures ∙ c.if-not-is_free.false))
    c.in_err-advance.field-0.0 c.in_err-advance.ensures)

pub returns : goal.returns
returns c =
    λ names before same.
    let p = c.args.prefixes.now in
    let text = c.as_str-iri.result.now in
    let iri : IsIri p (symbol_at c.args.at.now) text =
    subst (IsIri p (symbol_at c.args.at.now)) (sym c.as_str-iri.ensures.value) c.in_ok-expect_iri.ensures in
    let new = was_new c.args.before.now text c.in_ok-new.new c.in_ok-new.ensures.is_new c.if-not-new.false in (
      text,
      subst (HaveSame (text ∷ before)) (sym c.in_ok-new.ensures.added) (same_after before c.args.before.now text same
          new),
      λ e k is.
          passed c.args.at.now p names text iri e (k (text ∷ before))
          (is
          ∙ individual_once p (symbol_at c.args.at.now) text iri before k (same text ∙ new) true
          (sym c.is_free.ensures ∙ c.if-not-is_free.false))
          c.advance.new.self c.in_ok-advance.ensures,
    )
