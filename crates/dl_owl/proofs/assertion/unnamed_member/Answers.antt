use Rattle.dl_owl.specs.declared.item.Item.TheVariants as item
use Rattle.dl_owl.specs.Expected.{close_then, unnamed_then}
use Rattle.dl_owl.specs.Walk.{here}
use Rattle.dl_owl.proofs.WalkLemmas.{goes-then, goes-faults}
use Rattle.dl_owl.proofs.CursorLemmas.{exit_reads}
use Rattle.dl_owl.proofs.assertion.unnamed_member.Goals as goal

pub returns-in_err-unnamed : goal.returns-in_err-unnamed
returns-in_err-unnamed c =
    λ names.
    exit_reads (λ k. unnamed_then (close_then (k item.NoEffect))) (here c.args.at.now c.args.prefixes.now names)
    (here c.unnamed.new.at c.args.prefixes.now names)
    c.from_residual.result c.in_err-unnamed.field-0.0 c.from_residual.ensures.1
    (λ k.
    (c.in_err-unnamed.ensures names (close_then (k item.NoEffect))))

pub returns-in_err-close : goal.returns-in_err-close
returns-in_err-close c =
    λ names.
    exit_reads (λ k. unnamed_then (close_then (k item.NoEffect))) (here c.args.at.now c.args.prefixes.now names)
    (here c.close.new.at c.args.prefixes.now names)
    c.from_residual-in_err-close.result c.in_err-close.field-0.0 c.from_residual-in_err-close.ensures.1
    (λ k.
    goes-faults (unnamed_then (close_then (k item.NoEffect))) (here c.args.at.now c.args.prefixes.now names)
    (close_then (k item.NoEffect)) (here c.unnamed.new.at c.args.prefixes.now names) c.in_err-close.field-0.0
    (c.in_ok-unnamed.ensures names (close_then (k item.NoEffect)))
    (c.in_err-close.ensures c.args.prefixes.now names (k item.NoEffect)))

pub returns : goal.returns
returns c =
    λ names k.
    goes-then (unnamed_then (close_then (k item.NoEffect))) (here c.args.at.now c.args.prefixes.now names)
    (close_then (k item.NoEffect)) (here c.unnamed.new.at c.args.prefixes.now names) (k item.NoEffect) (here
    c.close.new.at c.args.prefixes.now names)
    (c.in_ok-unnamed.ensures names (close_then (k item.NoEffect)))
    (c.in_ok-close.ensures c.args.prefixes.now names (k item.NoEffect))
