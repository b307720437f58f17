use Rattle.dl_owl.specs.Expected.{close_then, entity_then}
use Rattle.dl_owl.specs.Walk.{here}
use Rattle.dl_owl.proofs.WalkLemmas.{goes-then, goes-faults}
use Rattle.dl_owl.proofs.CursorLemmas.{exit_reads}
use Rattle.dl_owl.proofs.assertion.declaration.Goals as goal

pub returns-in_err-declared : goal.returns-in_err-declared
returns-in_err-declared c =
    exit_reads (λ k. entity_then (λ i. close_then (k i))) (here c.args.at.now c.args.prefixes.now c.args.names.now)
    (here c.entity.new.at c.args.prefixes.now c.entity.new.names)
    c.from_residual.result c.in_err-declared.field-0.0 c.from_residual.ensures.1
    (λ k.
    (c.in_err-declared.ensures (λ i. close_then (k i))))

pub returns-in_err-close : goal.returns-in_err-close
returns-in_err-close c =
    exit_reads (λ k. entity_then (λ i. close_then (k i))) (here c.args.at.now c.args.prefixes.now c.args.names.now)
    (here c.close.new.at c.args.prefixes.now c.entity.new.names)
    c.from_residual-in_err-close.result c.in_err-close.field-0.0 c.from_residual-in_err-close.ensures.1
    (λ k.
    goes-faults (entity_then (λ i. close_then (k i))) (here c.args.at.now c.args.prefixes.now c.args.names.now)
    (close_then (k c.in_ok-declared.declared)) (here c.entity.new.at c.args.prefixes.now c.entity.new.names)
    c.in_err-close.field-0.0
    (c.in_ok-declared.ensures (λ i. close_then (k i)))
    (c.in_err-close.ensures c.args.prefixes.now c.entity.new.names (k c.in_ok-declared.declared)))

pub returns : goal.returns
returns c =
    λ k.
    goes-then (entity_then (λ i. close_then (k i))) (here c.args.at.now c.args.prefixes.now c.args.names.now)
    (close_then (k c.in_ok-declared.declared)) (here c.entity.new.at c.args.prefixes.now c.entity.new.names) (k
    c.in_ok-declared.declared) (here c.close.new.at c.args.prefixes.now c.entity.new.names)
    (c.in_ok-declared.ensures (λ i. close_then (k i)))
    (c.in_ok-close.ensures c.args.prefixes.now c.entity.new.names (k c.in_ok-declared.declared))
