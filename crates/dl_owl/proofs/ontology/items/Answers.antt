use Rattle.std.proofs.Common.{sym, subst, slice_range}
use Rattle.dl_lex.specs.declared.keyword.Keyword.TheVariants.{Import}
use Rattle.dl_owl.specs.declared.fault.Construct.TheVariants as construct
use Rattle.dl_owl.specs.declared.fault.OwlFault.TheVariants as fault
use Rattle.dl_owl.specs.Documents.{Finishes}
use Rattle.dl_owl.specs.Expected.{items, finish, close_then}
use Rattle.dl_owl.specs.Items.{empty_document, with_item}
use Rattle.dl_owl.specs.Refused.{keyword_left_out}
use Rattle.dl_owl.specs.Walk.{here, Goes, Faults}
use Rattle.dl_owl.proofs.WalkLemmas.{goes_alike, faults_alike, faults-refused}
use Rattle.dl_owl.proofs.CursorLemmas.{not_kind}
use Rattle.dl_owl.proofs.DocumentLemmas.{behind_then}
use Rattle.dl_owl.proofs.OntologyLemmas.{exit_by, items_closed, items_import, items_axiom}
use Rattle.dl_owl.proofs.WalkLemmas.{no_memory}
use Rattle.dl_owl.proofs.ontology.items.Goals as goal

pub returns-then-is_word : goal.returns-then-is_word
returns-then-is_word c =
    subst (λ n. Faults (items empty_document) (here c.args.at.now c.args.prefixes.now c.args.names.now) c.stated.names
    (fault.LeftOut n (construct.Keyword Import))) (sym c.start-start.ensures)
    (c.stated.invariant.faults c.stated.names (fault.LeftOut c.stated.at.token.start (construct.Keyword Import))
    (faults-refused (items c.stated.document) c.stated.at c.args.prefixes.now c.stated.names (keyword_left_out Import)
    (items_import c.stated.at.token.kind (slice_range c.stated.at.bytes c.stated.at.token.start
    c.stated.at.token.end) c.stated.document (c.is_word.ensures.0 c.if-is_word.true))))

pub returns-in_err-item : goal.returns-in_err-item
returns-in_err-item c =
    exit_by (Finishes (items empty_document) (here c.args.at.now c.args.prefixes.now c.args.names.now) (here
    c.axiom.new.at c.args.prefixes.now c.axiom.new.names)) c.from_residual.result c.in_err-item.field-0.0
    c.from_residual.ensures.1
    (c.stated.invariant.faults c.axiom.new.names c.in_err-item.field-0.0
    (c.in_err-item.ensures (items c.stated.document) (λ i. items (with_item c.stated.document i))
    (items_axiom c.stated.at.token.kind (slice_range c.stated.at.bytes c.stated.at.token.start c.stated.at.token.end)
    c.stated.document (not_kind c.is_close.result _ c.is_close.ensures c.stated-test.true)
    (not_kind c.is_word.result _ c.is_word.ensures c.if-is_word.false))))

pub stated-smaller : goal.stated-smaller
stated-smaller c =
    let round : Goes (items c.stated.document) (here c.stated.at c.args.prefixes.now c.stated.names) (items
    c.add.new.self) (here c.axiom.new.at c.args.prefixes.now c.axiom.new.names) =
    subst (λ d. Goes (items c.stated.document) (here c.stated.at c.args.prefixes.now c.stated.names) (items d) (here
    c.axiom.new.at c.args.prefixes.now c.axiom.new.names)) (sym c.in_ok-add.ensures)
    (c.in_ok-item.ensures (items c.stated.document) (λ i. items (with_item c.stated.document i))
    (items_axiom c.stated.at.token.kind (slice_range c.stated.at.bytes c.stated.at.token.start c.stated.at.token.end)
    c.stated.document (not_kind c.is_close.result _ c.is_close.ensures c.stated-test.true)
    (not_kind c.is_word.result _ c.is_word.ensures c.if-is_word.false))) in
    round.ahead

pub stated-preserved : goal.stated-preserved
stated-preserved c =
    behind_then (items empty_document) (here c.args.at.now c.args.prefixes.now c.args.names.now) (items
    c.stated.document) (here c.stated.at c.args.prefixes.now c.stated.names) (items c.add.new.self) (here
    c.axiom.new.at c.args.prefixes.now c.axiom.new.names) c.stated.invariant
    (subst (λ d. Goes (items c.stated.document) (here c.stated.at c.args.prefixes.now c.stated.names) (items d) (here
    c.axiom.new.at c.args.prefixes.now c.axiom.new.names)) (sym c.in_ok-add.ensures)
    (c.in_ok-item.ensures (items c.stated.document) (λ i. items (with_item c.stated.document i))
    (items_axiom c.stated.at.token.kind (slice_range c.stated.at.bytes c.stated.at.token.start c.stated.at.token.end)
    c.stated.document (not_kind c.is_close.result _ c.is_close.ensures c.stated-test.true)
    (not_kind c.is_word.result _ c.is_word.ensures c.if-is_word.false))))

pub returns-in_err-close : goal.returns-in_err-close
returns-in_err-close c =
    exit_by (Finishes (items empty_document) (here c.args.at.now c.args.prefixes.now c.args.names.now) (here
    c.close.new.at c.args.prefixes.now c.stated.names)) c.from_residual-in_err-close.result c.in_err-close.field-0.0
    c.from_residual-in_err-close.ensures.1
    (c.stated.invariant.faults c.stated.names c.in_err-close.field-0.0
    (faults_alike (items c.stated.document) (close_then (finish c.stated.document)) (here c.stated.at
    c.args.prefixes.now c.stated.names) c.in_err-close.field-0.0
    (items_closed c.stated.at.token.kind (slice_range c.stated.at.bytes c.stated.at.token.start
    c.stated.at.token.end) c.args.prefixes.now c.stated.document (c.is_close.ensures.0 c.stated-test.false))
    (c.in_err-close.ensures c.args.prefixes.now c.stated.names (finish c.stated.document))))

pub returns : goal.returns
returns c =
    c.stated.invariant.goes_on (finish c.stated.document) (here c.close.new.at c.args.prefixes.now c.stated.names)
    (goes_alike (items c.stated.document) (close_then (finish c.stated.document)) (here c.stated.at
    c.args.prefixes.now c.stated.names) (finish c.stated.document) (here c.close.new.at c.args.prefixes.now
    c.stated.names)
    (items_closed c.stated.at.token.kind (slice_range c.stated.at.bytes c.stated.at.token.start
    c.stated.at.token.end) c.args.prefixes.now c.stated.document (c.is_close.ensures.0 c.stated-test.false))
    (c.in_ok-close.ensures c.args.prefixes.now c.stated.names (finish c.stated.document)))

pub returns-in_err-add : goal.returns-in_err-add
returns-in_err-add c =
    exit_by (Finishes (items empty_document) (here c.args.at.now c.args.prefixes.now c.args.names.now) (here
    c.axiom.new.at c.args.prefixes.now c.axiom.new.names)) c.from_residual-in_err-add.result fault.NoMemory
    c.from_residual-in_err-add.ensures.1
    (c.stated.invariant.faults c.axiom.new.names fault.NoMemory
    (no_memory (items c.stated.document) (here c.stated.at c.args.prefixes.now c.stated.names) c.axiom.new.names
    (c.in_ok-item.ensures (items c.stated.document) (λ i. items (with_item c.stated.document i))
    (items_axiom c.stated.at.token.kind (slice_range c.stated.at.bytes c.stated.at.token.start c.stated.at.token.end)
    c.stated.document (not_kind c.is_close.result _ c.is_close.ensures c.stated-test.true)
    (not_kind c.is_word.result _ c.is_word.ensures c.if-is_word.false))).grows))
