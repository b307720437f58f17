use Rattle.std.proofs.Common.{Some, None, sym, ap, ◌∙◌, subst, slice_range}
use Rattle.dl_terms.specs.Roles.{named}
use Rattle.dl_owl.specs.declared.fault.OwlFault.TheVariants as fault
use Rattle.dl_owl.specs.NamesNext.{IsIri}
use Rattle.dl_owl.specs.Causes.{syntax}
use Rattle.dl_owl.specs.Expected.{role_then, second_role}
use Rattle.dl_owl.specs.Walk.{here, symbol_at, Reads}
use Rattle.dl_owl.proofs.WalkLemmas.{goes_alike, faults_alike}
use Rattle.dl_owl.proofs.CursorLemmas.{not_kind}
use Rattle.dl_owl.proofs.TakenLemmas.{passed, passed_faults}
use Rattle.dl_owl.proofs.SeriesLemmas.{exit_by}
use Rattle.dl_owl.proofs.PairLemmas.{second_inverse, second_by, second_plain, second_top, second_other}
use Rattle.dl_owl.proofs.pair.second_role.Goals as goal

pub returns-in_err-over : goal.returns-in_err-over
returns-in_err-over c =
    exit_by (Reads (λ k. second_role (λ r. k (Some r)) (k None)) (here c.args.at.now c.args.prefixes.now
    c.args.names.now)
    (here c.role.new.at c.args.prefixes.now c.role.new.names))
    c.from_residual.result c.in_err-over.field-0.0 c.from_residual.ensures.1
    (λ k.
    faults_alike (second_role (λ r. k (Some r)) (k None)) (role_then (λ r. k (Some r)))
    (here c.args.at.now c.args.prefixes.now c.args.names.now) c.in_err-over.field-0.0
    (second_inverse c.args.at.now.token.kind
    (slice_range c.args.at.now.bytes c.args.at.now.token.start c.args.at.now.token.end) c.args.prefixes.now
    (λ r. k (Some r)) (k None)
    (c.is_word.ensures.0 c.if-is_word.true))
    (c.in_err-over.ensures (λ r. k (Some r))))

pub returns-then-is_word : goal.returns-then-is_word
returns-then-is_word c =
    λ k.
    goes_alike (second_role (λ r. k (Some r)) (k None)) (role_then (λ r. k (Some r)))
    (here c.args.at.now c.args.prefixes.now c.args.names.now) (k (Some c.in_ok-over.over))
    (here c.role.new.at c.args.prefixes.now c.role.new.names)
    (second_inverse c.args.at.now.token.kind
    (slice_range c.args.at.now.bytes c.args.at.now.token.start c.args.at.now.token.end) c.args.prefixes.now
    (λ r. k (Some r)) (k None)
    (c.is_word.ensures.0 c.if-is_word.true))
    (c.in_ok-over.ensures (λ r. k (Some r)))

pub returns-in_err-expect_iri : goal.returns-in_err-expect_iri
returns-in_err-expect_iri c =
    exit_by (Reads (λ k. second_role (λ r. k (Some r)) (k None)) (here c.args.at.now c.args.prefixes.now
    c.args.names.now)
    (here c.args.at.now c.args.prefixes.now c.args.names.now))
    c.from_residual-in_err-expect_iri.result c.in_err-expect_iri.field-0.0
    c.from_residual-in_err-expect_iri.ensures.1
    (λ k.
    c.in_err-expect_iri.ensures c.args.names.now (second_role (λ r. k (Some r)) (k None))
    (second_by (λ r. k (Some r)) (k None)) syntax (ap fault.Syntax c.start-start.ensures)
    (second_plain c.args.at.now.token.kind
    (slice_range c.args.at.now.bytes c.args.at.now.token.start c.args.at.now.token.end) c.args.prefixes.now
    (λ r. k (Some r)) (k None)
    (not_kind c.is_word.result _ c.is_word.ensures c.if-is_word.false)))

pub returns-in_err-advance : goal.returns-in_err-advance
returns-in_err-advance c =
    let p = c.args.prefixes.now in
    let text = c.as_str-iri.result.now in
    let iri : IsIri p (symbol_at c.args.at.now) text =
    subst (IsIri p (symbol_at c.args.at.now)) (sym c.as_str-iri.ensures.value) c.in_ok-expect_iri.ensures in
    exit_by (Reads (λ k. second_role (λ r. k (Some r)) (k None)) (here c.args.at.now c.args.prefixes.now
    c.args.names.now)
    (here c.advance.new.self p c.args.names.now))
    c.from_residual-in_err-advance.result c.in_err-advance.field-0.0 c.from_residual-in_err-advance.ensures.1
    (λ k.
    passed_faults c.args.at.now p c.args.names.now text iri (second_role (λ r. k (Some r)) (k None)) (k None)
    (second_plain c.args.at.now.token.kind
    (slice_range c.args.at.now.bytes c.args.at.now.token.start c.args.at.now.token.end) c.args.prefixes.now
    (λ r. k (Some r)) (k None)
    (not_kind c.is_word.result _ c.is_word.ensures c.if-is_word.false)
    ∙ second_top p (symbol_at c.args.at.now) text iri (λ r. k (Some r)) (k None)
    (sym c.is_top.ensures ∙ c.if-is_top.true))
    c.in_err-advance.field-0.0 c.in_err-advance.ensures)

pub returns-then-is_top : goal.returns-then-is_top
returns-then-is_top c =
    λ k.
    let p = c.args.prefixes.now in
    let text = c.as_str-iri.result.now in
    let iri : IsIri p (symbol_at c.args.at.now) text =
    subst (IsIri p (symbol_at c.args.at.now)) (sym c.as_str-iri.ensures.value) c.in_ok-expect_iri.ensures in
    passed c.args.at.now p c.args.names.now text iri (second_role (λ r. k (Some r)) (k None)) (k None)
    (second_plain c.args.at.now.token.kind
    (slice_range c.args.at.now.bytes c.args.at.now.token.start c.args.at.now.token.end) c.args.prefixes.now
    (λ r. k (Some r)) (k None)
    (not_kind c.is_word.result _ c.is_word.ensures c.if-is_word.false)
    ∙ second_top p (symbol_at c.args.at.now) text iri (λ r. k (Some r)) (k None)
    (sym c.is_top.ensures ∙ c.if-is_top.true))
    c.advance.new.self c.in_ok-advance.ensures

pub returns-in_err-place : goal.returns-in_err-place
returns-in_err-place c =
    let p = c.args.prefixes.now in
    let text = c.as_str-iri.result.now in
    let iri : IsIri p (symbol_at c.args.at.now) text =
    subst (IsIri p (symbol_at c.args.at.now)) (sym c.as_str-iri.ensures.value) c.in_ok-expect_iri.ensures in
    exit_by (Reads (λ k. second_role (λ r. k (Some r)) (k None)) (here c.args.at.now c.args.prefixes.now
    c.args.names.now)
    (here c.take_free.new.at p c.take_free.new.names))
    c.from_residual-in_err-place.result c.in_err-place.field-0.0 c.from_residual-in_err-place.ensures.1
    (λ k.
    c.in_err-place.ensures p iri (second_role (λ r. k (Some r)) (k None)) (λ n. k (Some (named n)))
    (second_plain c.args.at.now.token.kind
    (slice_range c.args.at.now.bytes c.args.at.now.token.start c.args.at.now.token.end) c.args.prefixes.now
    (λ r. k (Some r)) (k None)
    (not_kind c.is_word.result _ c.is_word.ensures c.if-is_word.false)
    ∙ second_other p (symbol_at c.args.at.now) text iri (λ r. k (Some r)) (k None)
    (sym c.is_top.ensures ∙ c.if-is_top.false)))

pub returns : goal.returns
returns c =
    λ k.
    let p = c.args.prefixes.now in
    let text = c.as_str-iri.result.now in
    let iri : IsIri p (symbol_at c.args.at.now) text =
    subst (IsIri p (symbol_at c.args.at.now)) (sym c.as_str-iri.ensures.value) c.in_ok-expect_iri.ensures in
    c.in_ok-place.ensures p iri (second_role (λ r. k (Some r)) (k None)) (λ n. k (Some (named n)))
    (second_plain c.args.at.now.token.kind
    (slice_range c.args.at.now.bytes c.args.at.now.token.start c.args.at.now.token.end) c.args.prefixes.now
    (λ r. k (Some r)) (k None)
    (not_kind c.is_word.result _ c.is_word.ensures c.if-is_word.false)
    ∙ second_other p (symbol_at c.args.at.now) text iri (λ r. k (Some r)) (k None)
    (sym c.is_top.ensures ∙ c.if-is_top.false))
