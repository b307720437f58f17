use Rattle.std.proofs.Common.{sym, ap, ◌∙◌, subst, slice_range}
use Rattle.dl_lex.specs.declared.token.TokenKind.TheVariants.{Iri}
use Rattle.dl_owl.specs.declared.fault.OwlFault.TheVariants as fault
use Rattle.dl_owl.specs.Causes.{syntax}
use Rattle.dl_owl.specs.Documents.{known_move}
use Rattle.dl_owl.specs.Expected.{prologue, prefix_iri, close_then}
use Rattle.dl_owl.specs.Steps.{prefix_iri_next}
use Rattle.dl_owl.specs.Walk.{here, Goes, Faults}
use Rattle.dl_owl.proofs.WalkLemmas.{faults-refused}
use Rattle.dl_owl.proofs.CursorLemmas.{not_kind}
use Rattle.dl_owl.proofs.DocumentLemmas.{exit_leads, iri_plain, plain-goes, plain-faults, declares-goes, declares-faults}
use Rattle.dl_owl.proofs.PrologueLemmas.{iri_refused, iri_symbol}
use Rattle.dl_names.proofs.NameListLemmas.{Extends-same}
use Rattle.dl_owl.proofs.WalkLemmas.{no_memory}
use Rattle.dl_owl.proofs.prologue.declare.Goals as goal

pub returns-then-not-is_full_iri : goal.returns-then-not-is_full_iri
returns-then-not-is_full_iri c =
    λ names.
    subst (λ n. Faults (prefix_iri c.args.name.now) (here c.args.at.now c.args.prefixes.now names) names (fault.Syntax n))
    (sym c.start-start.ensures)
    (faults-refused (prefix_iri c.args.name.now) c.args.at.now c.args.prefixes.now names syntax
    (iri_refused c.args.at.now.token.kind (slice_range c.args.at.now.bytes c.args.at.now.token.start
    c.args.at.now.token.end) c.args.prefixes.now c.args.name.now
    (not_kind c.is_full_iri.result _ c.is_full_iri.ensures c.if-not-is_full_iri.true)))

pub returns-in_err-advance-in-Same : goal.returns-in_err-advance-in-Same
returns-in_err-advance-in-Same c =
    λ names.
    exit_leads (prefix_iri c.args.name.now) (close_then prologue) (here c.args.at.now c.args.prefixes.now names)
    (here c.advance.new.self c.args.prefixes.now names) c.from_residual.result c.in_err-advance-in-Same.field-0.0
    c.from_residual.ensures.1
    (plain-faults Iri iri_plain (prefix_iri c.args.name.now) c.args.at.now c.args.prefixes.now names
    (c.is_full_iri.ensures.0 c.if-not-is_full_iri.false) (close_then prologue)
    (ap (prefix_iri_next c.args.prefixes.now c.args.name.now) (iri_symbol c.args.at.now c.full_iri-iri.result.now
    (c.is_full_iri.ensures.0 c.if-not-is_full_iri.false) c.full_iri-iri.ensures)
    ∙ c.knowledge.ensures.fits ∙ ap (λ w. known_move w c.args.name.now c.full_iri-iri.result.now) c.in-Same.is)
    c.in_err-advance-in-Same.field-0.0 c.in_err-advance-in-Same.ensures)

pub returns-in_err-advance-in-New : goal.returns-in_err-advance-in-New
returns-in_err-advance-in-New c =
    λ names.
    exit_leads (prefix_iri c.args.name.now) (close_then prologue) (here c.args.at.now c.args.prefixes.now names)
    (here c.advance-in-New.new.self c.args.prefixes.now names) c.from_residual-in_err-advance-in-New.result
    c.in_err-advance-in-New.field-0.0 c.from_residual-in_err-advance-in-New.ensures.1
    (declares-faults Iri iri_plain (prefix_iri c.args.name.now) c.args.at.now c.args.prefixes.now names
    (c.is_full_iri.ensures.0 c.if-not-is_full_iri.false) c.args.name.now c.full_iri-iri.result.now (close_then
    prologue)
    (ap (prefix_iri_next c.args.prefixes.now c.args.name.now) (iri_symbol c.args.at.now c.full_iri-iri.result.now
    (c.is_full_iri.ensures.0 c.if-not-is_full_iri.false) c.full_iri-iri.ensures)
    ∙ c.knowledge.ensures.fits ∙ ap (λ w. known_move w c.args.name.now c.full_iri-iri.result.now) c.in-New.is)
    c.in_err-advance-in-New.field-0.0 c.in_err-advance-in-New.ensures)

pub returns-in-Differs : goal.returns-in-Differs
returns-in-Differs c =
    λ names.
    subst (λ n. Faults (prefix_iri c.args.name.now) (here c.args.at.now c.args.prefixes.now names) names (fault.Syntax n))
    (sym c.start-start.ensures)
    (faults-refused (prefix_iri c.args.name.now) c.args.at.now c.args.prefixes.now names syntax
    (ap (prefix_iri_next c.args.prefixes.now c.args.name.now) (iri_symbol c.args.at.now c.full_iri-iri.result.now
    (c.is_full_iri.ensures.0 c.if-not-is_full_iri.false) c.full_iri-iri.ensures)
    ∙ c.knowledge.ensures.fits ∙ ap (λ w. known_move w c.args.name.now c.full_iri-iri.result.now) c.in-Differs.is))

pub returns-in_ok-advance-in-Same : goal.returns-in_ok-advance-in-Same
returns-in_ok-advance-in-Same c =
    λ names.
    plain-goes Iri iri_plain (prefix_iri c.args.name.now) c.args.at.now c.args.prefixes.now names
    (c.is_full_iri.ensures.0 c.if-not-is_full_iri.false) (close_then prologue)
    (ap (prefix_iri_next c.args.prefixes.now c.args.name.now) (iri_symbol c.args.at.now c.full_iri-iri.result.now
    (c.is_full_iri.ensures.0 c.if-not-is_full_iri.false) c.full_iri-iri.ensures)
    ∙ c.knowledge.ensures.fits ∙ ap (λ w. known_move w c.args.name.now c.full_iri-iri.result.now) c.in-Same.is)
    c.advance.new.self c.in_ok-advance-in-Same.ensures

pub returns-in_ok-add-in-New : goal.returns-in_ok-add-in-New
returns-in_ok-add-in-New c =
    λ names.
    subst (λ q. Goes (prefix_iri c.args.name.now) (here c.args.at.now c.args.prefixes.now names) (close_then
    prologue) (here c.advance-in-New.new.self q names)) (sym c.in_ok-add-in-New.ensures)
    (declares-goes Iri iri_plain (prefix_iri c.args.name.now) c.args.at.now c.args.prefixes.now names
    (c.is_full_iri.ensures.0 c.if-not-is_full_iri.false) c.args.name.now c.full_iri-iri.result.now (close_then
    prologue)
    (ap (prefix_iri_next c.args.prefixes.now c.args.name.now) (iri_symbol c.args.at.now c.full_iri-iri.result.now
    (c.is_full_iri.ensures.0 c.if-not-is_full_iri.false) c.full_iri-iri.ensures)
    ∙ c.knowledge.ensures.fits ∙ ap (λ w. known_move w c.args.name.now c.full_iri-iri.result.now) c.in-New.is)
    c.advance-in-New.new.self c.in_ok-advance-in-New.ensures)

pub returns-in_err-add-in-New : goal.returns-in_err-add-in-New
returns-in_err-add-in-New c =
    λ names.
    exit_leads (prefix_iri c.args.name.now) (close_then prologue) (here c.args.at.now c.args.prefixes.now names)
    (here c.advance-in-New.new.self c.add.new.self names) c.from_residual-in_err-add-in-New.result fault.NoMemory
    c.from_residual-in_err-add-in-New.ensures.1
    (no_memory (prefix_iri c.args.name.now) (here c.args.at.now c.args.prefixes.now names) names (Extends-same names))
