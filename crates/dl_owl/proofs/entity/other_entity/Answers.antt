use Rattle.dl_owl.specs.declared.item.Item.TheVariants.{NoEffect as no_effect}
use Rattle.dl_owl.specs.Expected.{open_then, close_then, iri_then}
use Rattle.dl_owl.specs.Walk.{here}
use Rattle.dl_owl.proofs.WalkLemmas.{goes-then, goes-faults}
use Rattle.dl_owl.proofs.CursorLemmas.{exit_reads}
use Rattle.dl_owl.proofs.entity.other_entity.Goals as goal

pub returns-in_err-open : goal.returns-in_err-open
returns-in_err-open c =
    λ names.
    exit_reads (λ k. open_then (iri_then (close_then (k no_effect)))) (here c.args.at.now c.args.prefixes.now names)
    (here c.open.new.at c.args.prefixes.now names) c.from_residual.result c.in_err-open.field-0.0
    c.from_residual.ensures.1
    (λ k.
    c.in_err-open.ensures c.args.prefixes.now names (iri_then (close_then (k no_effect))))

pub returns-in_err-iri : goal.returns-in_err-iri
returns-in_err-iri c =
    λ names.
    exit_reads (λ k. open_then (iri_then (close_then (k no_effect)))) (here c.args.at.now c.args.prefixes.now names)
    (here c.iri.new.at c.args.prefixes.now names) c.from_residual-in_err-iri.result c.in_err-iri.field-0.0
    c.from_residual-in_err-iri.ensures.1
    (λ k.
    goes-faults (open_then (iri_then (close_then (k no_effect)))) (here c.args.at.now c.args.prefixes.now names)
    (iri_then (close_then (k no_effect))) (here c.open.new.at c.args.prefixes.now names) c.in_err-iri.field-0.0
    (c.in_ok-open.ensures c.args.prefixes.now names (iri_then (close_then (k no_effect))))
    (c.in_err-iri.ensures names (close_then (k no_effect))))

pub returns-in_err-close : goal.returns-in_err-close
returns-in_err-close c =
    λ names.
    exit_reads (λ k. open_then (iri_then (close_then (k no_effect)))) (here c.args.at.now c.args.prefixes.now names)
    (here c.close.new.at c.args.prefixes.now names) c.from_residual-in_err-close.result c.in_err-close.field-0.0
    c.from_residual-in_err-close.ensures.1
    (λ k.
    goes-faults (open_then (iri_then (close_then (k no_effect)))) (here c.args.at.now c.args.prefixes.now names)
    (close_then (k no_effect)) (here c.iri.new.at c.args.prefixes.now names) c.in_err-close.field-0.0
    (goes-then (open_then (iri_then (close_then (k no_effect)))) (here c.args.at.now c.args.prefixes.now names)
    (iri_then (close_then (k no_effect))) (here c.open.new.at c.args.prefixes.now names) (close_then (k no_effect))
    (here c.iri.new.at c.args.prefixes.now names)
    (c.in_ok-open.ensures c.args.prefixes.now names (iri_then (close_then (k no_effect))))
    (c.in_ok-iri.ensures names (close_then (k no_effect))))
    (c.in_err-close.ensures c.args.prefixes.now names (k no_effect)))

pub returns : goal.returns
returns c =
    λ names k.
    goes-then (open_then (iri_then (close_then (k no_effect)))) (here c.args.at.now c.args.prefixes.now names)
    (close_then (k no_effect)) (here c.iri.new.at c.args.prefixes.now names) (k no_effect) (here c.close.new.at
    c.args.prefixes.now names)
    (goes-then (open_then (iri_then (close_then (k no_effect)))) (here c.args.at.now c.args.prefixes.now names)
    (iri_then (close_then (k no_effect))) (here c.open.new.at c.args.prefixes.now names) (close_then (k no_effect))
    (here c.iri.new.at c.args.prefixes.now names)
    (c.in_ok-open.ensures c.args.prefixes.now names (iri_then (close_then (k no_effect))))
    (c.in_ok-iri.ensures names (close_then (k no_effect))))
    (c.in_ok-close.ensures c.args.prefixes.now names (k no_effect))
