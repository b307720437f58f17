use Rattle.dl_edits.proofs.AxiomEditLemmas.{key_next}
use Rattle.dl_edits.proofs.axiom_edits.axiom_set.Goals as goal

pub loop-axiom-preserved : goal.loop-axiom-preserved
loop-axiom-preserved c =
    key_next c.axioms_are_ordered.ensures.derived c.args.axioms.now c.loop-axiom.set.keys c.insert.new.self.keys c.loop-axiom.axiom-index
    c.axiom-item.result c.in_ok-copy.copy c.requires c.loop-axiom-test.true c.axiom-item.is c.in_ok-copy.ensures c.loop-axiom.invariant
    c.in-Ok.ensures.keys
