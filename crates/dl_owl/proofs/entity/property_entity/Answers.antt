use Rattle.dl_owl.specs.declared.item.Item.TheVariants.{Role as role_item}
use Rattle.dl_owl.specs.Expected.{open_then, close_then, property_then}
use Rattle.dl_owl.specs.Walk.{here}
use Rattle.dl_owl.proofs.WalkLemmas.{goes-then, goes-faults}
use Rattle.dl_owl.proofs.CursorLemmas.{exit_reads}
use Rattle.dl_owl.proofs.entity.property_entity.Goals as goal

pub returns-in_err-open : goal.returns-in_err-open
returns-in_err-open c =
    exit_reads (λ k. open_then (property_then (λ n. close_then (k (role_item n))))) (here c.args.at.now
    c.args.prefixes.now c.args.names.now) (here c.open.new.at c.args.prefixes.now c.args.names.now)
    c.from_residual.result c.in_err-open.field-0.0 c.from_residual.ensures.1
    (λ k.
    c.in_err-open.ensures c.args.prefixes.now c.args.names.now (property_then (λ n. close_then (k (role_item n)))))

pub returns-in_err-place : goal.returns-in_err-place
returns-in_err-place c =
    exit_reads (λ k. open_then (property_then (λ n. close_then (k (role_item n))))) (here c.args.at.now
    c.args.prefixes.now c.args.names.now) (here c.property.new.at c.args.prefixes.now c.property.new.names)
    c.from_residual-in_err-place.result c.in_err-place.field-0.0 c.from_residual-in_err-place.ensures.1
    (λ k.
    goes-faults (open_then (property_then (λ n. close_then (k (role_item n))))) (here c.args.at.now
    c.args.prefixes.now c.args.names.now) (property_then (λ n. close_then (k (role_item n)))) (here c.open.new.at
    c.args.prefixes.now c.args.names.now) c.in_err-place.field-0.0
    (c.in_ok-open.ensures c.args.prefixes.now c.args.names.now (property_then (λ n. close_then (k (role_item n)))))
    (c.in_err-place.ensures (λ n. close_then (k (role_item n)))))

pub returns-in_err-close : goal.returns-in_err-close
returns-in_err-close c =
    exit_reads (λ k. open_then (property_then (λ n. close_then (k (role_item n))))) (here c.args.at.now
    c.args.prefixes.now c.args.names.now) (here c.close.new.at c.args.prefixes.now c.property.new.names)
    c.from_residual-in_err-close.result c.in_err-close.field-0.0 c.from_residual-in_err-close.ensures.1
    (λ k.
    goes-faults (open_then (property_then (λ n. close_then (k (role_item n))))) (here c.args.at.now
    c.args.prefixes.now c.args.names.now) (close_then (k (role_item c.in_ok-place.place))) (here c.property.new.at
    c.args.prefixes.now c.property.new.names) c.in_err-close.field-0.0
    (goes-then (open_then (property_then (λ n. close_then (k (role_item n))))) (here c.args.at.now
    c.args.prefixes.now c.args.names.now) (property_then (λ n. close_then (k (role_item n)))) (here c.open.new.at
    c.args.prefixes.now c.args.names.now) (close_then (k (role_item c.in_ok-place.place))) (here c.property.new.at
    c.args.prefixes.now c.property.new.names)
    (c.in_ok-open.ensures c.args.prefixes.now c.args.names.now (property_then (λ n. close_then (k (role_item n)))))
    (c.in_ok-place.ensures (λ n. close_then (k (role_item n)))))
    (c.in_err-close.ensures c.args.prefixes.now c.property.new.names (k (role_item c.in_ok-place.place))))

pub returns : goal.returns
returns c =
    λ k.
    goes-then (open_then (property_then (λ n. close_then (k (role_item n))))) (here c.args.at.now c.args.prefixes.now
    c.args.names.now) (close_then (k (role_item c.in_ok-place.place))) (here c.property.new.at c.args.prefixes.now
    c.property.new.names) (k (role_item c.in_ok-place.place)) (here c.close.new.at c.args.prefixes.now
    c.property.new.names)
    (goes-then (open_then (property_then (λ n. close_then (k (role_item n))))) (here c.args.at.now
    c.args.prefixes.now c.args.names.now) (property_then (λ n. close_then (k (role_item n)))) (here c.open.new.at
    c.args.prefixes.now c.args.names.now) (close_then (k (role_item c.in_ok-place.place))) (here c.property.new.at
    c.args.prefixes.now c.property.new.names)
    (c.in_ok-open.ensures c.args.prefixes.now c.args.names.now (property_then (λ n. close_then (k (role_item n)))))
    (c.in_ok-place.ensures (λ n. close_then (k (role_item n)))))
    (c.in_ok-close.ensures c.args.prefixes.now c.property.new.names (k (role_item c.in_ok-place.place)))
