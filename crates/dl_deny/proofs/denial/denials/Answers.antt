use Rattle.dl_deny.proofs.DenialLemmas.{found-axiom, found-whole}
use Rattle.dl_deny.proofs.denial.denials.Goals as goal

pub loop-axiom-preserved : goal.loop-axiom-preserved
loop-axiom-preserved c =
    found-axiom c.loop-axiom.found c.push_axiom.new.found c.args.axioms.now c.loop-axiom.axiom-index c.axiom-item.result c.loop-axiom-test.true
    c.axiom-item.is c.loop-axiom.invariant c.in_ok-push_axiom.ensures

pub returns : goal.returns
returns c =
    found-whole c.loop-axiom.found c.push_nothing.new.found c.args.axioms.now c.args.nothing c.loop-axiom.axiom-index c.loop-axiom-test.false
    c.loop-axiom.invariant c.in_ok-push_nothing.ensures
