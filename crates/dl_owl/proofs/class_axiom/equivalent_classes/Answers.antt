use Rattle.std.proofs.Common.{[]}
use Rattle.dl_terms.specs.declared.axiom.Axiom.TheVariants as axioms
use Rattle.dl_owl.specs.declared.item.Item.TheVariants as item
use Rattle.dl_owl.specs.Expected.{subs_close}
use Rattle.dl_owl.specs.Walk.{here}
use Rattle.dl_owl.proofs.CursorLemmas.{exit_reads}
use Rattle.dl_owl.proofs.class_axiom.equivalent_classes.Goals as goal

pub returns-in_err-classes : goal.returns-in_err-classes
returns-in_err-classes c =
    exit_reads (λ k. subs_close 2 [] (λ bs. k (item.Axiom (axioms.EquivalentClasses bs)))) (here c.args.at.now
    c.args.prefixes.now c.args.names.now) (here c.subs.new.at c.args.prefixes.now c.subs.new.names)
    c.from_residual.result c.in_err-classes.field-0.0 c.from_residual.ensures.1
    (λ k.
    (c.in_err-classes.ensures (λ bs. k (item.Axiom (axioms.EquivalentClasses bs)))))

pub returns : goal.returns
returns c =
    λ k.
    c.in_ok-classes.ensures (λ bs. k (item.Axiom (axioms.EquivalentClasses bs)))
