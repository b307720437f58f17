use Rattle.std.proofs.Common.{[], refl, sym, subst, slice_range}
use Rattle.dl_lex.specs.declared.keyword.Keyword.TheVariants.{Prefix, Ontology}
use Rattle.dl_owl.specs.declared.fault.OwlFault.TheVariants as fault
use Rattle.dl_owl.specs.Causes.{syntax}
use Rattle.dl_owl.specs.Expected.{prologue, prefix_name, title, open_then}
use Rattle.dl_owl.specs.Walk.{here, Goes, Faults}
use Rattle.dl_owl.proofs.WalkLemmas.{goes-then, goes-faults, faults-refused}
use Rattle.dl_owl.proofs.CursorLemmas.{not_kind}
use Rattle.dl_owl.proofs.ReaderLemmas.{keyword-goes, keyword-faults}
use Rattle.dl_owl.proofs.DocumentLemmas.{exit_leads, behind_start, behind_then}
use Rattle.dl_owl.proofs.PrologueLemmas.{prologue_refused}
use Rattle.dl_owl.proofs.prologue.prologue.Goals as goal

pub loop-at-init : goal.loop-at-init
loop-at-init c =
    λ names. behind_start prologue (here c.args.at.now c.args.prefixes.now names)

pub returns-in_err-advance : goal.returns-in_err-advance
returns-in_err-advance c =
    λ names.
    exit_leads prologue (open_then (title 2)) (here c.args.at.now c.args.prefixes.now names) (here c.advance.new.self
    c.loop-at.prefixes names) c.from_residual.result c.in_err-advance.field-0.0 c.from_residual.ensures.1
    ((c.loop-at.invariant names).faults names c.in_err-advance.field-0.0
    (keyword-faults Prefix prologue (open_then prefix_name) c.loop-at.at c.loop-at.prefixes names
    (c.is_word.ensures.0 c.loop-at-test.true) refl c.in_err-advance.field-0.0 c.in_err-advance.ensures))

pub returns-in_err-declaration : goal.returns-in_err-declaration
returns-in_err-declaration c =
    λ names.
    exit_leads prologue (open_then (title 2)) (here c.args.at.now c.args.prefixes.now names) (here
    c.declaration.new.at c.declaration.new.prefixes names) c.from_residual-in_err-declaration.result
    c.in_err-declaration.field-0.0 c.from_residual-in_err-declaration.ensures.1
    ((c.loop-at.invariant names).faults names c.in_err-declaration.field-0.0
    (goes-faults prologue (here c.loop-at.at c.loop-at.prefixes names) (open_then prefix_name) (here
    c.advance.new.self c.loop-at.prefixes names) c.in_err-declaration.field-0.0
    (keyword-goes Prefix prologue (open_then prefix_name) c.loop-at.at c.loop-at.prefixes names
    (c.is_word.ensures.0 c.loop-at-test.true) refl c.advance.new.self c.in_ok-advance.ensures)
    (c.in_err-declaration.ensures names)))

pub loop-at-smaller : goal.loop-at-smaller
loop-at-smaller c =
    let round : Goes prologue (here c.loop-at.at c.loop-at.prefixes []) prologue (here c.declaration.new.at
    c.declaration.new.prefixes []) =
    goes-then prologue (here c.loop-at.at c.loop-at.prefixes []) (open_then prefix_name) (here c.advance.new.self
    c.loop-at.prefixes []) prologue (here c.declaration.new.at c.declaration.new.prefixes [])
    (keyword-goes Prefix prologue (open_then prefix_name) c.loop-at.at c.loop-at.prefixes [] (c.is_word.ensures.0
    c.loop-at-test.true) refl c.advance.new.self c.in_ok-advance.ensures)
    (c.in_ok-declaration.ensures []) in
    round.ahead

pub loop-at-preserved : goal.loop-at-preserved
loop-at-preserved c =
    λ names.
    behind_then prologue (here c.args.at.now c.args.prefixes.now names) prologue (here c.loop-at.at
    c.loop-at.prefixes names) prologue (here c.declaration.new.at c.declaration.new.prefixes names)
    (c.loop-at.invariant names)
    (goes-then prologue (here c.loop-at.at c.loop-at.prefixes names) (open_then prefix_name) (here c.advance.new.self
    c.loop-at.prefixes names) prologue (here c.declaration.new.at c.declaration.new.prefixes names)
    (keyword-goes Prefix prologue (open_then prefix_name) c.loop-at.at c.loop-at.prefixes names
    (c.is_word.ensures.0 c.loop-at-test.true) refl c.advance.new.self c.in_ok-advance.ensures)
    (c.in_ok-declaration.ensures names))

pub returns-then-not-is_word : goal.returns-then-not-is_word
returns-then-not-is_word c =
    λ names.
    subst (λ n. Faults prologue (here c.args.at.now c.args.prefixes.now names) names (fault.Syntax n)) (sym
    c.start-start.ensures)
    ((c.loop-at.invariant names).faults names (fault.Syntax c.loop-at.at.token.start)
    (faults-refused prologue c.loop-at.at c.loop-at.prefixes names syntax
    (prologue_refused c.loop-at.at.token.kind (slice_range c.loop-at.at.bytes c.loop-at.at.token.start
    c.loop-at.at.token.end) (not_kind c.is_word.result _ c.is_word.ensures c.loop-at-test.false)
    (not_kind c.is_word-2.result _ c.is_word-2.ensures c.if-not-is_word.true))))

pub returns-in_err-advance-2 : goal.returns-in_err-advance-2
returns-in_err-advance-2 c =
    λ names.
    exit_leads prologue (open_then (title 2)) (here c.args.at.now c.args.prefixes.now names) (here
    c.advance-2.new.self c.loop-at.prefixes names) c.from_residual-in_err-advance-2.result
    c.in_err-advance-2.field-0.0 c.from_residual-in_err-advance-2.ensures.1
    ((c.loop-at.invariant names).faults names c.in_err-advance-2.field-0.0
    (keyword-faults Ontology prologue (open_then (title 2)) c.loop-at.at c.loop-at.prefixes names
    (c.is_word-2.ensures.0 c.if-not-is_word.false) refl c.in_err-advance-2.field-0.0
    c.in_err-advance-2.ensures))

pub returns : goal.returns
returns c =
    λ names.
    (c.loop-at.invariant names).goes_on (open_then (title 2)) (here c.advance-2.new.self c.loop-at.prefixes names)
    (keyword-goes Ontology prologue (open_then (title 2)) c.loop-at.at c.loop-at.prefixes names
    (c.is_word-2.ensures.0 c.if-not-is_word.false) refl c.advance-2.new.self c.in_ok-advance-2.ensures)
