use Rattle.std.proofs.Common.{refl, sym, ap, ◌∙◌, subst}
use Rattle.dl_owl.specs.declared.fault.OwlFault.TheVariants.{NoMemory}
use Rattle.dl_owl.specs.Documents.{Ends}
use Rattle.dl_owl.specs.Expected.{lone_axiom, finish}
use Rattle.dl_owl.specs.Items.{empty_document, with_item}
use Rattle.dl_owl.specs.Prefixes.{predefined}
use Rattle.dl_owl.specs.Walk.{here, Goes, Faults}
use Rattle.dl_owl.proofs.OntologyLemmas.{exit_by, ends_behind}
use Rattle.dl_names.proofs.NameListLemmas.{Extends-same}
use Rattle.dl_owl.proofs.WalkLemmas.{no_memory}
use Rattle.dl_owl.proofs.ontology.lone.Goals as goal

pub returns-in_err-item : goal.returns-in_err-item
returns-in_err-item c =
    exit_by (Ends lone_axiom (here c.args.at.now predefined c.args.names.now) c.axiom.new.names)
    c.from_residual-in_err-item.result c.in_err-item.field-0.0 c.from_residual-in_err-item.ensures.1
    (subst (λ q. Faults lone_axiom (here c.args.at.now q c.args.names.now) c.axiom.new.names c.in_err-item.field-0.0) c.in_ok-prefixes.ensures
    (c.in_err-item.ensures lone_axiom (λ i. finish (with_item empty_document i)) refl))

pub returns : goal.returns
returns c =
    ends_behind lone_axiom (finish c.add.new.self) (here c.args.at.now predefined c.args.names.now) (here
    c.axiom.new.at predefined c.axiom.new.names) c.axiom.new.names c.end.result
    (subst (λ d. Goes lone_axiom (here c.args.at.now predefined c.args.names.now) (finish d) (here c.axiom.new.at
    predefined c.axiom.new.names))
    (ap (λ d. with_item d c.in_ok-item.item) (sym c.new-document.ensures) ∙ sym c.in_ok-add.ensures)
    (subst (λ q. Goes lone_axiom (here c.args.at.now q c.args.names.now) (finish (with_item empty_document
    c.in_ok-item.item)) (here c.axiom.new.at q c.axiom.new.names)) c.in_ok-prefixes.ensures
    (c.in_ok-item.ensures lone_axiom (λ i. finish (with_item empty_document i)) refl)))
    (c.end.ensures predefined c.axiom.new.names)

pub returns-in_err-prefixes : goal.returns-in_err-prefixes
returns-in_err-prefixes c =
    exit_by (Ends lone_axiom (here c.args.at.now predefined c.args.names.now) c.args.names.now)
    c.from_residual.result NoMemory c.from_residual.ensures.1
    (no_memory lone_axiom (here c.args.at.now predefined c.args.names.now) c.args.names.now (Extends-same
    c.args.names.now))

pub returns-in_err-add : goal.returns-in_err-add
returns-in_err-add c =
    exit_by (Ends lone_axiom (here c.args.at.now predefined c.args.names.now) c.axiom.new.names)
    c.from_residual-in_err-add.result NoMemory c.from_residual-in_err-add.ensures.1
    (no_memory lone_axiom (here c.args.at.now predefined c.args.names.now) c.axiom.new.names
    (c.in_ok-item.ensures lone_axiom (λ i. finish (with_item empty_document i)) refl).grows)
