use Rattle.dl_owl.specs.Expected.{items}
use Rattle.dl_owl.specs.Items.{empty_document}
use Rattle.dl_owl.specs.Walk.{here, left}
use Rattle.dl_owl.proofs.DocumentLemmas.{Behind}
use Rattle.dl_owl.proofs.ontology.items.Given as goal

abbrev pub invariant-stated : goal.invariant-stated
invariant-stated l =
    Behind (items empty_document) (here l.fn.at l.fn.prefixes l.fn.names) (items l.document) (here l.at l.fn.prefixes
    l.names)

abbrev pub decreases-stated : goal.decreases-stated
decreases-stated l = left l.at
