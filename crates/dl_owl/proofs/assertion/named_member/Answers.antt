use Rattle.dl_terms.specs.declared.axiom.Fact.TheVariants as facts
use Rattle.dl_owl.specs.declared.item.Item.TheVariants as item
use Rattle.dl_owl.specs.Expected.{close_then, individual_then}
use Rattle.dl_owl.specs.Walk.{here}
use Rattle.dl_owl.proofs.WalkLemmas.{goes-then, goes-faults}
use Rattle.dl_owl.proofs.CursorLemmas.{exit_reads}
use Rattle.dl_owl.proofs.assertion.named_member.Goals as goal

pub returns-in_err-who : goal.returns-in_err-who
returns-in_err-who c =
    exit_reads (λ k. individual_then (λ a. close_then (k (item.Fact (facts.Is c.args.class a))))) (here c.args.at.now
    c.args.prefixes.now c.args.names.now) (here c.individual.new.at c.args.prefixes.now c.individual.new.names)
    c.from_residual.result c.in_err-who.field-0.0 c.from_residual.ensures.1
    (λ k.
    (c.in_err-who.ensures (λ a. close_then (k (item.Fact (facts.Is c.args.class a))))))

pub returns-in_err-close : goal.returns-in_err-close
returns-in_err-close c =
    exit_reads (λ k. individual_then (λ a. close_then (k (item.Fact (facts.Is c.args.class a))))) (here c.args.at.now
    c.args.prefixes.now c.args.names.now) (here c.close.new.at c.args.prefixes.now c.individual.new.names)
    c.from_residual-in_err-close.result c.in_err-close.field-0.0 c.from_residual-in_err-close.ensures.1
    (λ k.
    goes-faults (individual_then (λ a. close_then (k (item.Fact (facts.Is c.args.class a))))) (here c.args.at.now
    c.args.prefixes.now c.args.names.now) (close_then (k (item.Fact (facts.Is c.args.class c.in_ok-who.who)))) (here
    c.individual.new.at c.args.prefixes.now c.individual.new.names) c.in_err-close.field-0.0
    (c.in_ok-who.ensures (λ a. close_then (k (item.Fact (facts.Is c.args.class a)))))
    (c.in_err-close.ensures c.args.prefixes.now c.individual.new.names (k (item.Fact (facts.Is c.args.class
    c.in_ok-who.who)))))

pub returns : goal.returns
returns c =
    λ k.
    goes-then (individual_then (λ a. close_then (k (item.Fact (facts.Is c.args.class a))))) (here c.args.at.now
    c.args.prefixes.now c.args.names.now) (close_then (k (item.Fact (facts.Is c.args.class c.in_ok-who.who)))) (here
    c.individual.new.at c.args.prefixes.now c.individual.new.names)
    (k (item.Fact (facts.Is c.args.class c.in_ok-who.who)))
    (here c.close.new.at c.args.prefixes.now c.individual.new.names)
    (c.in_ok-who.ensures (λ a. close_then (k (item.Fact (facts.Is c.args.class a)))))
    (c.in_ok-close.ensures c.args.prefixes.now c.individual.new.names (k (item.Fact (facts.Is c.args.class
    c.in_ok-who.who))))
