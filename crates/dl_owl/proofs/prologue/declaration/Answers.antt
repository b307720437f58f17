use Rattle.std.proofs.Common.{refl, sym, subst, slice_range}
use Rattle.dl_lex.specs.declared.token.TokenKind.TheVariants.{Short, Equals}
use Rattle.dl_owl.specs.declared.fault.OwlFault.TheVariants as fault
use Rattle.dl_owl.specs.Symbols.{equals}
use Rattle.dl_owl.specs.Causes.{syntax}
use Rattle.dl_owl.specs.Expected.{prologue, prefix_name, prefix_equals, prefix_iri, open_then, close_then}
use Rattle.dl_owl.specs.Walk.{here, Faults}
use Rattle.dl_owl.proofs.WalkLemmas.{goes-then, goes-faults, faults-refused}
use Rattle.dl_owl.proofs.CursorLemmas.{not_kind}
use Rattle.dl_owl.proofs.AnnotationLemmas.{token-goes, token-faults}
use Rattle.dl_owl.proofs.DocumentLemmas.{exit_leads, leads_behind, passes_lead, short_plain, equals_says, plain-goes, plain-faults}
use Rattle.dl_owl.proofs.PrologueLemmas.{equals_refused}
use Rattle.dl_owl.proofs.prologue.declaration.Goals as goal

pub returns-in_err-open : goal.returns-in_err-open
returns-in_err-open c =
    λ names.
    exit_leads (open_then prefix_name) prologue (here c.args.at.now c.args.prefixes.now names) (here c.open.new.at
    c.args.prefixes.now names) c.from_residual.result c.in_err-open.field-0.0 c.from_residual.ensures.1
    (c.in_err-open.ensures c.args.prefixes.now names prefix_name)

pub returns-in_default : goal.returns-in_default
returns-in_default c =
    λ names.
    subst (λ n. Faults (open_then prefix_name) (here c.args.at.now c.args.prefixes.now names) names (fault.Syntax n)) (sym
    c.start-start.ensures)
    (goes-faults (open_then prefix_name) (here c.args.at.now c.args.prefixes.now names) prefix_name (here
    c.open.new.at c.args.prefixes.now names) (fault.Syntax c.open.new.at.token.start)
    (c.in_ok-open.ensures c.args.prefixes.now names prefix_name)
    (faults-refused prefix_name c.open.new.at c.args.prefixes.now names syntax c.in_default.ensures))

pub returns-in_err-advance : goal.returns-in_err-advance
returns-in_err-advance c =
    λ names.
    exit_leads (open_then prefix_name) prologue (here c.args.at.now c.args.prefixes.now names) (here
    c.advance.new.self c.args.prefixes.now names) c.from_residual-in_err-advance.result c.in_err-advance.field-0.0
    c.from_residual-in_err-advance.ensures.1
    (goes-faults (open_then prefix_name) (here c.args.at.now c.args.prefixes.now names) prefix_name (here
    c.open.new.at c.args.prefixes.now names) c.in_err-advance.field-0.0
    (c.in_ok-open.ensures c.args.prefixes.now names prefix_name)
    (plain-faults Short short_plain prefix_name c.open.new.at c.args.prefixes.now names c.in-Some.ensures.0
    (prefix_equals c.in-Some.name.now) c.in-Some.ensures.1 c.in_err-advance.field-0.0 c.in_err-advance.ensures))

pub returns-then-not-is_equals : goal.returns-then-not-is_equals
returns-then-not-is_equals c =
    λ names.
    subst (λ n. Faults (open_then prefix_name) (here c.args.at.now c.args.prefixes.now names) names (fault.Syntax n)) (sym
    c.start-behind.ensures)
    (goes-faults (open_then prefix_name) (here c.args.at.now c.args.prefixes.now names) (prefix_equals
    c.in-Some.name.now) (here c.advance.new.self c.args.prefixes.now names) (fault.Syntax
    c.advance.new.self.token.start)
    (goes-then (open_then prefix_name) (here c.args.at.now c.args.prefixes.now names) prefix_name (here c.open.new.at
    c.args.prefixes.now names) (prefix_equals c.in-Some.name.now) (here c.advance.new.self c.args.prefixes.now names)
    (c.in_ok-open.ensures c.args.prefixes.now names prefix_name)
    (plain-goes Short short_plain prefix_name c.open.new.at c.args.prefixes.now names c.in-Some.ensures.0
    (prefix_equals c.in-Some.name.now) c.in-Some.ensures.1 c.advance.new.self c.in_ok-advance.ensures))
    (faults-refused (prefix_equals c.in-Some.name.now) c.advance.new.self c.args.prefixes.now names syntax
    (equals_refused c.advance.new.self.token.kind (slice_range c.advance.new.self.bytes
    c.advance.new.self.token.start c.advance.new.self.token.end) c.in-Some.name.now (not_kind c.is_equals.result _
    c.is_equals.ensures c.if-not-is_equals.true))))

pub returns-in_err-advance-2 : goal.returns-in_err-advance-2
returns-in_err-advance-2 c =
    λ names.
    exit_leads (open_then prefix_name) prologue (here c.args.at.now c.args.prefixes.now names) (here
    c.advance-2.new.self c.args.prefixes.now names) c.from_residual-in_err-advance-2.result
    c.in_err-advance-2.field-0.0 c.from_residual-in_err-advance-2.ensures.1
    (goes-faults (open_then prefix_name) (here c.args.at.now c.args.prefixes.now names) (prefix_equals
    c.in-Some.name.now) (here c.advance.new.self c.args.prefixes.now names) c.in_err-advance-2.field-0.0
    (goes-then (open_then prefix_name) (here c.args.at.now c.args.prefixes.now names) prefix_name (here c.open.new.at
    c.args.prefixes.now names) (prefix_equals c.in-Some.name.now) (here c.advance.new.self c.args.prefixes.now names)
    (c.in_ok-open.ensures c.args.prefixes.now names prefix_name)
    (plain-goes Short short_plain prefix_name c.open.new.at c.args.prefixes.now names c.in-Some.ensures.0
    (prefix_equals c.in-Some.name.now) c.in-Some.ensures.1 c.advance.new.self c.in_ok-advance.ensures))
    (token-faults Equals equals equals_says (prefix_equals c.in-Some.name.now) (prefix_iri c.in-Some.name.now)
    c.advance.new.self c.args.prefixes.now names (c.is_equals.ensures.0 c.if-not-is_equals.false) refl
    c.in_err-advance-2.field-0.0 c.in_err-advance-2.ensures))

pub returns-in_err-declare : goal.returns-in_err-declare
returns-in_err-declare c =
    λ names.
    exit_leads (open_then prefix_name) prologue (here c.args.at.now c.args.prefixes.now names) (here c.declare.new.at
    c.declare.new.prefixes names) c.from_residual-in_err-declare.result c.in_err-declare.field-0.0
    c.from_residual-in_err-declare.ensures.1
    (goes-faults (open_then prefix_name) (here c.args.at.now c.args.prefixes.now names) (prefix_iri
    c.in-Some.name.now) (here c.advance-2.new.self c.args.prefixes.now names) c.in_err-declare.field-0.0
    (goes-then (open_then prefix_name) (here c.args.at.now c.args.prefixes.now names) (prefix_equals
    c.in-Some.name.now) (here c.advance.new.self c.args.prefixes.now names) (prefix_iri c.in-Some.name.now) (here
    c.advance-2.new.self c.args.prefixes.now names)
    (goes-then (open_then prefix_name) (here c.args.at.now c.args.prefixes.now names) prefix_name (here c.open.new.at
    c.args.prefixes.now names) (prefix_equals c.in-Some.name.now) (here c.advance.new.self c.args.prefixes.now names)
    (c.in_ok-open.ensures c.args.prefixes.now names prefix_name)
    (plain-goes Short short_plain prefix_name c.open.new.at c.args.prefixes.now names c.in-Some.ensures.0
    (prefix_equals c.in-Some.name.now) c.in-Some.ensures.1 c.advance.new.self c.in_ok-advance.ensures))
    (token-goes Equals equals equals_says (prefix_equals c.in-Some.name.now) (prefix_iri c.in-Some.name.now)
    c.advance.new.self c.args.prefixes.now names (c.is_equals.ensures.0 c.if-not-is_equals.false) refl
    c.advance-2.new.self c.in_ok-advance-2.ensures))
    (c.in_err-declare.ensures names))

pub returns : goal.returns
returns c =
    λ names.
    leads_behind (open_then prefix_name) (close_then prologue) prologue (here c.args.at.now c.args.prefixes.now
    names) (here c.declare.new.at c.declare.new.prefixes names) (here c.close.new.at c.declare.new.prefixes names)
    c.close.result
    (goes-then (open_then prefix_name) (here c.args.at.now c.args.prefixes.now names) (prefix_iri c.in-Some.name.now)
    (here c.advance-2.new.self c.args.prefixes.now names) (close_then prologue) (here c.declare.new.at
    c.declare.new.prefixes names)
    (goes-then (open_then prefix_name) (here c.args.at.now c.args.prefixes.now names) (prefix_equals
    c.in-Some.name.now) (here c.advance.new.self c.args.prefixes.now names) (prefix_iri c.in-Some.name.now) (here
    c.advance-2.new.self c.args.prefixes.now names)
    (goes-then (open_then prefix_name) (here c.args.at.now c.args.prefixes.now names) prefix_name (here c.open.new.at
    c.args.prefixes.now names) (prefix_equals c.in-Some.name.now) (here c.advance.new.self c.args.prefixes.now names)
    (c.in_ok-open.ensures c.args.prefixes.now names prefix_name)
    (plain-goes Short short_plain prefix_name c.open.new.at c.args.prefixes.now names c.in-Some.ensures.0
    (prefix_equals c.in-Some.name.now) c.in-Some.ensures.1 c.advance.new.self c.in_ok-advance.ensures))
    (token-goes Equals equals equals_says (prefix_equals c.in-Some.name.now) (prefix_iri c.in-Some.name.now)
    c.advance.new.self c.args.prefixes.now names (c.is_equals.ensures.0 c.if-not-is_equals.false) refl
    c.advance-2.new.self c.in_ok-advance-2.ensures))
    (c.in_ok-declare.ensures names))
    (passes_lead close_then prologue (here c.declare.new.at c.declare.new.prefixes names) (here c.close.new.at
    c.declare.new.prefixes names) c.close.result (c.close.ensures c.declare.new.prefixes names))
