use Rattle.std.proofs.Common.{string_bytes, refl, ap}
use Rattle.dl_owl.specs.declared.fault.OwlFault.TheVariants as fault
use Rattle.dl_owl.specs.Causes.{syntax}
use Rattle.dl_owl.specs.Expected.{iri_then, goes, refuses}
use Rattle.dl_owl.specs.Walk.{here, symbol_at}
use Rattle.dl_owl.proofs.IriLemmas.{at_iri-is}
use Rattle.dl_owl.proofs.CursorLemmas.{exit_passes}
use Rattle.dl_owl.proofs.TakenLemmas.{passed, passed_faults}
use Rattle.dl_owl.proofs.name.iri.Goals as goal

pub returns-in_err-expect_iri : goal.returns-in_err-expect_iri
returns-in_err-expect_iri c =
    λ names.
    exit_passes iri_then (here c.args.at.now c.args.prefixes.now names) (here c.args.at.now c.args.prefixes.now names)
    c.from_residual.result c.in_err-expect_iri.field-0.0 c.from_residual.ensures.1
    (λ k. c.in_err-expect_iri.ensures names (iri_then k) (λ _. goes k) syntax (ap fault.Syntax c.start-start.ensures) refl)

pub returns-in_err-advance : goal.returns-in_err-advance
returns-in_err-advance c =
    λ names.
    exit_passes iri_then (here c.args.at.now c.args.prefixes.now names) (here c.advance.new.self c.args.prefixes.now names)
    c.from_residual-in_err-advance.result c.in_err-advance.field-0.0 c.from_residual-in_err-advance.ensures.1
    (λ k.
    passed_faults c.args.at.now c.args.prefixes.now names (string_bytes c.expect_iri.new.text) c.in_ok-expect_iri.ensures (iri_then k) k
    (at_iri-is c.args.prefixes.now (symbol_at c.args.at.now) (string_bytes c.expect_iri.new.text) (λ _. goes k) (refuses syntax)
    c.in_ok-expect_iri.ensures)
    c.in_err-advance.field-0.0 c.in_err-advance.ensures)

pub returns : goal.returns
returns c =
    λ names k.
    passed c.args.at.now c.args.prefixes.now names (string_bytes c.expect_iri.new.text) c.in_ok-expect_iri.ensures (iri_then k) k
    (at_iri-is c.args.prefixes.now (symbol_at c.args.at.now) (string_bytes c.expect_iri.new.text) (λ _. goes k) (refuses syntax)
    c.in_ok-expect_iri.ensures)
    c.advance.new.self c.in_ok-advance.ensures
