use Rattle.std.proofs.Common.{[]}
use Rattle.dl_owl.specs.declared.item.Item.TheVariants as item
use Rattle.dl_owl.specs.Expected.{different_close}
use Rattle.dl_owl.specs.Walk.{here}
use Rattle.dl_owl.proofs.CursorLemmas.{exit_reads}
use Rattle.dl_owl.proofs.assertion.different_individuals.Goals as goal

pub returns-in_err-different : goal.returns-in_err-different
returns-in_err-different c =
    λ names.
    exit_reads (λ k. different_close 2 [] (k item.NoEffect)) (here c.args.at.now c.args.prefixes.now names) (here
    c.different.new.at c.args.prefixes.now names)
    c.from_residual.result c.in_err-different.field-0.0 c.from_residual.ensures.1
    (λ k.
    (c.in_err-different.ensures names (k item.NoEffect)))

pub returns : goal.returns
returns c =
    λ names k.
    c.in_ok-different.ensures names (k item.NoEffect)
