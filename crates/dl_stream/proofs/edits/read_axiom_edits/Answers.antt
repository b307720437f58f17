use Rattle.dl_owl.specs.declared.fault.OwlFault.TheVariants as owl_faults
use Rattle.dl_stream.specs.Edits.{document_edits, of_axiom, axiom_kind, in_axiom}
use Rattle.dl_stream.specs.Parts.{wants_memory}
use Rattle.dl_stream.proofs.SaidLemmas.{told_by, owl_memory_or_not}
use Rattle.dl_stream.proofs.edits.read_axiom_edits.Goals as goal

pub returns-in-Ok-add_document-clause-ok : goal.returns-in-Ok-add_document-clause-ok
returns-in-Ok-add_document-clause-ok c = record {
  more = document_edits c.args.add c.in-Ok.document;
  gives = of_axiom c.requires c.in-Ok.ensures.value;
  is = c.in-Ok-add_document.ensures;
}

pub returns-in-Err-add_document-clause-fault : goal.returns-in-Err-add_document-clause-fault
returns-in-Err-add_document-clause-fault c = wants_memory

pub returns-in-Err-clause-fault : goal.returns-in-Err-clause-fault
returns-in-Err-clause-fault c =
    told_by c.in-Err.fault owl_faults.NoMemory (axiom_kind c.in-Err.fault) c.axiom_fault.result (owl_memory_or_not c.in-Err.fault) c.axiom_fault.ensures.none c.axiom_fault.ensures.some
    (λ other. in_axiom c.requires (c.in-Err.ensures.fault other))
