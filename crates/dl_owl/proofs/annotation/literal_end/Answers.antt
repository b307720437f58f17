use Rattle.std.proofs.Common.{refl, sym, subst, slice_range}
use Rattle.dl_lex.specs.declared.token.TokenKind.TheVariants.{Caret, Lang}
use Rattle.dl_owl.specs.declared.fault.OwlFault.TheVariants as fault
use Rattle.dl_owl.specs.Symbols.{caret, language}
use Rattle.dl_owl.specs.Causes.{syntax}
use Rattle.dl_owl.specs.Expected.{close_then, iri_then, value_end}
use Rattle.dl_owl.specs.Walk.{here, Faults}
use Rattle.dl_owl.proofs.WalkLemmas.{goes-then, goes-faults, faults-refused, passes_behind, passes_alike}
use Rattle.dl_owl.proofs.CursorLemmas.{exit_passes, not_kind}
use Rattle.dl_owl.proofs.AnnotationLemmas.{token-goes, token-faults, language_says, caret_says, literal_closed, literal_refused}
use Rattle.dl_owl.proofs.annotation.literal_end.Goals as goal

pub returns-then-is_close : goal.returns-then-is_close
returns-then-is_close c =
    λ names.
    passes_alike value_end close_then (here c.args.at.now c.args.prefixes.now names) (here c.close.new.at
    c.args.prefixes.now names) c.close.result
    (λ k. literal_closed c.args.at.now.token.kind (slice_range c.args.at.now.bytes c.args.at.now.token.start
    c.args.at.now.token.end) c.args.prefixes.now k (c.is_close.ensures.0 c.if-is_close.true))
    (c.close.ensures c.args.prefixes.now names)

pub returns-in_err-advance : goal.returns-in_err-advance
returns-in_err-advance c =
    λ names.
    exit_passes value_end (here c.args.at.now c.args.prefixes.now names) (here c.advance.new.self c.args.prefixes.now
    names) c.from_residual.result c.in_err-advance.field-0.0 c.from_residual.ensures.1
    (λ k.
    token-faults Lang language language_says (value_end k) (close_then k) c.args.at.now c.args.prefixes.now names
    (c.is_language.ensures.0 c.if-is_language.true) refl c.in_err-advance.field-0.0 c.in_err-advance.ensures)

pub returns-then-is_language : goal.returns-then-is_language
returns-then-is_language c =
    λ names.
    passes_behind value_end close_then (here c.args.at.now c.args.prefixes.now names) (here c.advance.new.self
    c.args.prefixes.now names) (here c.close-then-is_language.new.at c.args.prefixes.now names)
    c.close-then-is_language.result
    (λ k. token-goes Lang language language_says (value_end k) (close_then k) c.args.at.now c.args.prefixes.now names
    (c.is_language.ensures.0 c.if-is_language.true) refl c.advance.new.self c.in_ok-advance.ensures)
    (c.close-then-is_language.ensures c.args.prefixes.now names)

pub returns-then-not-is_caret : goal.returns-then-not-is_caret
returns-then-not-is_caret c =
    λ names k.
    subst (λ n. Faults (value_end k) (here c.args.at.now c.args.prefixes.now names) names (fault.Syntax n)) (sym
    c.start-start.ensures)
    (faults-refused (value_end k) c.args.at.now c.args.prefixes.now names syntax
    (literal_refused c.args.at.now.token.kind (slice_range c.args.at.now.bytes c.args.at.now.token.start
    c.args.at.now.token.end) c.args.prefixes.now k (not_kind c.is_close.result _ c.is_close.ensures
    c.if-is_close.false)
    (not_kind c.is_language.result _ c.is_language.ensures c.if-is_language.false) (not_kind c.is_caret.result _
    c.is_caret.ensures c.if-not-is_caret.true)))

pub returns-in_err-advance-2 : goal.returns-in_err-advance-2
returns-in_err-advance-2 c =
    λ names.
    exit_passes value_end (here c.args.at.now c.args.prefixes.now names) (here c.advance-2.new.self
    c.args.prefixes.now names) c.from_residual-in_err-advance-2.result c.in_err-advance-2.field-0.0
    c.from_residual-in_err-advance-2.ensures.1
    (λ k.
    token-faults Caret caret caret_says (value_end k) (iri_then (close_then k)) c.args.at.now c.args.prefixes.now
    names (c.is_caret.ensures.0 c.if-not-is_caret.false) refl c.in_err-advance-2.field-0.0 c.in_err-advance-2.ensures)

pub returns-in_err-iri : goal.returns-in_err-iri
returns-in_err-iri c =
    λ names.
    exit_passes value_end (here c.args.at.now c.args.prefixes.now names) (here c.iri.new.at c.args.prefixes.now
    names) c.from_residual-in_err-iri.result c.in_err-iri.field-0.0 c.from_residual-in_err-iri.ensures.1
    (λ k.
    goes-faults (value_end k) (here c.args.at.now c.args.prefixes.now names) (iri_then (close_then k)) (here
    c.advance-2.new.self c.args.prefixes.now names) c.in_err-iri.field-0.0
    (token-goes Caret caret caret_says (value_end k) (iri_then (close_then k)) c.args.at.now c.args.prefixes.now
    names (c.is_caret.ensures.0 c.if-not-is_caret.false) refl c.advance-2.new.self c.in_ok-advance-2.ensures)
    (c.in_err-iri.ensures names (close_then k)))

pub returns : goal.returns
returns c =
    λ names.
    passes_behind value_end close_then (here c.args.at.now c.args.prefixes.now names) (here c.iri.new.at
    c.args.prefixes.now names) (here c.close-2.new.at c.args.prefixes.now names) c.close-2.result
    (λ k.
    goes-then (value_end k) (here c.args.at.now c.args.prefixes.now names) (iri_then (close_then k)) (here
    c.advance-2.new.self c.args.prefixes.now names) (close_then k) (here c.iri.new.at c.args.prefixes.now names)
    (token-goes Caret caret caret_says (value_end k) (iri_then (close_then k)) c.args.at.now c.args.prefixes.now
    names (c.is_caret.ensures.0 c.if-not-is_caret.false) refl c.advance-2.new.self c.in_ok-advance-2.ensures)
    (c.in_ok-iri.ensures names (close_then k)))
    (c.close-2.ensures c.args.prefixes.now names)
