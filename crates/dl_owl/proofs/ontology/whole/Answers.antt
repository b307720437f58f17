use Rattle.std.proofs.Common.{subst}
use Rattle.dl_owl.specs.declared.fault.OwlFault.TheVariants.{NoMemory}
use Rattle.dl_owl.specs.Documents.{Ends}
use Rattle.dl_owl.specs.Expected.{prologue, title, items, finish, open_then}
use Rattle.dl_owl.specs.Items.{empty_document}
use Rattle.dl_owl.specs.Prefixes.{predefined}
use Rattle.dl_owl.specs.Walk.{here, Goes}
use Rattle.dl_owl.proofs.WalkLemmas.{goes-then, goes-faults}
use Rattle.dl_owl.proofs.OntologyLemmas.{exit_by, ends_behind}
use Rattle.dl_names.proofs.NameListLemmas.{Extends-same}
use Rattle.dl_owl.proofs.WalkLemmas.{no_memory}
use Rattle.dl_owl.proofs.ontology.whole.Goals as goal

pub returns-in_err-head : goal.returns-in_err-head
returns-in_err-head c =
    exit_by (Ends prologue (here c.args.at.now predefined c.args.names.now) c.args.names.now)
    c.from_residual-in_err-head.result c.in_err-head.field-0.0 c.from_residual-in_err-head.ensures.1
    (goes-faults prologue (here c.args.at.now predefined c.args.names.now) (open_then (title 2)) (here
    c.prologue.new.at c.prologue.new.prefixes c.args.names.now) c.in_err-head.field-0.0
    (subst (λ q. Goes prologue (here c.args.at.now q c.args.names.now) (open_then (title 2)) (here c.prologue.new.at
    c.prologue.new.prefixes c.args.names.now)) c.in_ok-prefixes.ensures (c.in_ok-prologue.ensures c.args.names.now))
    (c.in_err-head.ensures c.args.names.now))

pub returns-in_err-document : goal.returns-in_err-document
returns-in_err-document c =
    exit_by (Ends prologue (here c.args.at.now predefined c.args.names.now) c.items.new.names)
    c.from_residual-in_err-document.result c.in_err-document.field-0.0 c.from_residual-in_err-document.ensures.1
    (goes-faults prologue (here c.args.at.now predefined c.args.names.now) (items empty_document) (here c.head.new.at
    c.prologue.new.prefixes c.args.names.now) c.in_err-document.field-0.0
    (goes-then prologue (here c.args.at.now predefined c.args.names.now) (open_then (title 2)) (here
    c.prologue.new.at c.prologue.new.prefixes c.args.names.now) (items empty_document) (here c.head.new.at
    c.prologue.new.prefixes c.args.names.now)
    (subst (λ q. Goes prologue (here c.args.at.now q c.args.names.now) (open_then (title 2)) (here c.prologue.new.at
    c.prologue.new.prefixes c.args.names.now)) c.in_ok-prefixes.ensures (c.in_ok-prologue.ensures c.args.names.now))
    (c.in_ok-head.ensures c.args.names.now))
    c.in_err-document.ensures)

pub returns : goal.returns
returns c =
    ends_behind prologue (finish c.in_ok-document.document) (here c.args.at.now predefined c.args.names.now) (here
    c.items.new.at c.prologue.new.prefixes c.items.new.names) c.items.new.names c.end.result
    (goes-then prologue (here c.args.at.now predefined c.args.names.now) (items empty_document) (here c.head.new.at
    c.prologue.new.prefixes c.args.names.now) (finish c.in_ok-document.document) (here c.items.new.at
    c.prologue.new.prefixes c.items.new.names)
    (goes-then prologue (here c.args.at.now predefined c.args.names.now) (open_then (title 2)) (here
    c.prologue.new.at c.prologue.new.prefixes c.args.names.now) (items empty_document) (here c.head.new.at
    c.prologue.new.prefixes c.args.names.now)
    (subst (λ q. Goes prologue (here c.args.at.now q c.args.names.now) (open_then (title 2)) (here c.prologue.new.at
    c.prologue.new.prefixes c.args.names.now)) c.in_ok-prefixes.ensures (c.in_ok-prologue.ensures c.args.names.now))
    (c.in_ok-head.ensures c.args.names.now))
    c.in_ok-document.ensures)
    (c.end.ensures c.prologue.new.prefixes c.items.new.names)

pub returns-in_err-prefixes : goal.returns-in_err-prefixes
returns-in_err-prefixes c =
    exit_by (Ends prologue (here c.args.at.now predefined c.args.names.now) c.args.names.now)
    c.from_residual.result NoMemory c.from_residual.ensures.1
    (no_memory prologue (here c.args.at.now predefined c.args.names.now) c.args.names.now (Extends-same
    c.args.names.now))
