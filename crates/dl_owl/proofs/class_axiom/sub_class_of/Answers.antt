use Rattle.dl_terms.specs.declared.axiom.Axiom.TheVariants as axioms
use Rattle.dl_owl.specs.declared.item.Item.TheVariants as item
use Rattle.dl_owl.specs.Expected.{close_then, sub_then, sup_then}
use Rattle.dl_owl.specs.Walk.{here}
use Rattle.dl_owl.proofs.WalkLemmas.{goes-then, goes-faults}
use Rattle.dl_owl.proofs.CursorLemmas.{exit_reads}
use Rattle.dl_owl.proofs.class_axiom.sub_class_of.Goals as goal

pub returns-in_err-basic : goal.returns-in_err-basic
returns-in_err-basic c =
    exit_reads (λ k. sub_then (λ b. sup_then (λ ps. close_then (k (item.Axiom (axioms.SubClass b ps)))))) (here
    c.args.at.now c.args.prefixes.now c.args.names.now) (here c.sub.new.at c.args.prefixes.now c.sub.new.names)
    c.from_residual.result c.in_err-basic.field-0.0 c.from_residual.ensures.1
    (λ k.
    (c.in_err-basic.ensures (λ b. sup_then (λ ps. close_then (k (item.Axiom (axioms.SubClass b ps)))))))

pub returns-in_err-parts : goal.returns-in_err-parts
returns-in_err-parts c =
    exit_reads (λ k. sub_then (λ b. sup_then (λ ps. close_then (k (item.Axiom (axioms.SubClass b ps)))))) (here
    c.args.at.now c.args.prefixes.now c.args.names.now) (here c.sup.new.at c.args.prefixes.now c.sup.new.names)
    c.from_residual-in_err-parts.result c.in_err-parts.field-0.0 c.from_residual-in_err-parts.ensures.1
    (λ k.
    goes-faults (sub_then (λ b. sup_then (λ ps. close_then (k (item.Axiom (axioms.SubClass b ps)))))) (here
    c.args.at.now c.args.prefixes.now c.args.names.now) (sup_then (λ ps. close_then (k (item.Axiom (axioms.SubClass
    c.in_ok-basic.basic ps))))) (here c.sub.new.at c.args.prefixes.now c.sub.new.names) c.in_err-parts.field-0.0
    (c.in_ok-basic.ensures (λ b. sup_then (λ ps. close_then (k (item.Axiom (axioms.SubClass b ps))))))
    (c.in_err-parts.ensures (λ ps. close_then (k (item.Axiom (axioms.SubClass c.in_ok-basic.basic ps))))))

pub returns-in_err-close : goal.returns-in_err-close
returns-in_err-close c =
    exit_reads (λ k. sub_then (λ b. sup_then (λ ps. close_then (k (item.Axiom (axioms.SubClass b ps)))))) (here
    c.args.at.now c.args.prefixes.now c.args.names.now) (here c.close.new.at c.args.prefixes.now c.sup.new.names)
    c.from_residual-in_err-close.result c.in_err-close.field-0.0 c.from_residual-in_err-close.ensures.1
    (λ k.
    goes-faults (sub_then (λ b. sup_then (λ ps. close_then (k (item.Axiom (axioms.SubClass b ps)))))) (here
    c.args.at.now c.args.prefixes.now c.args.names.now) (close_then (k (item.Axiom (axioms.SubClass
    c.in_ok-basic.basic c.in_ok-parts.parts)))) (here c.sup.new.at c.args.prefixes.now c.sup.new.names)
    c.in_err-close.field-0.0
    (goes-then (sub_then (λ b. sup_then (λ ps. close_then (k (item.Axiom (axioms.SubClass b ps)))))) (here
    c.args.at.now c.args.prefixes.now c.args.names.now) (sup_then (λ ps. close_then (k (item.Axiom (axioms.SubClass
    c.in_ok-basic.basic ps))))) (here c.sub.new.at c.args.prefixes.now c.sub.new.names) (close_then (k (item.Axiom
    (axioms.SubClass c.in_ok-basic.basic c.in_ok-parts.parts)))) (here c.sup.new.at c.args.prefixes.now
    c.sup.new.names)
    (c.in_ok-basic.ensures (λ b. sup_then (λ ps. close_then (k (item.Axiom (axioms.SubClass b ps))))))
    (c.in_ok-parts.ensures (λ ps. close_then (k (item.Axiom (axioms.SubClass c.in_ok-basic.basic ps))))))
    (c.in_err-close.ensures c.args.prefixes.now c.sup.new.names (k (item.Axiom (axioms.SubClass c.in_ok-basic.basic
    c.in_ok-parts.parts)))))

pub returns : goal.returns
returns c =
    λ k.
    goes-then (sub_then (λ b. sup_then (λ ps. close_then (k (item.Axiom (axioms.SubClass b ps)))))) (here
    c.args.at.now c.args.prefixes.now c.args.names.now) (close_then (k (item.Axiom (axioms.SubClass
    c.in_ok-basic.basic c.in_ok-parts.parts)))) (here c.sup.new.at c.args.prefixes.now c.sup.new.names) (k
    (item.Axiom (axioms.SubClass c.in_ok-basic.basic c.in_ok-parts.parts))) (here c.close.new.at c.args.prefixes.now
    c.sup.new.names)
    (goes-then (sub_then (λ b. sup_then (λ ps. close_then (k (item.Axiom (axioms.SubClass b ps)))))) (here
    c.args.at.now c.args.prefixes.now c.args.names.now) (sup_then (λ ps. close_then (k (item.Axiom (axioms.SubClass
    c.in_ok-basic.basic ps))))) (here c.sub.new.at c.args.prefixes.now c.sub.new.names) (close_then (k (item.Axiom
    (axioms.SubClass c.in_ok-basic.basic c.in_ok-parts.parts)))) (here c.sup.new.at c.args.prefixes.now
    c.sup.new.names)
    (c.in_ok-basic.ensures (λ b. sup_then (λ ps. close_then (k (item.Axiom (axioms.SubClass b ps))))))
    (c.in_ok-parts.ensures (λ ps. close_then (k (item.Axiom (axioms.SubClass c.in_ok-basic.basic ps))))))
    (c.in_ok-close.ensures c.args.prefixes.now c.sup.new.names (k (item.Axiom (axioms.SubClass c.in_ok-basic.basic
    c.in_ok-parts.parts))))
