use Rattle.std.proofs.Common.{refl, ap}
use Rattle.dl_owl.specs.declared.fault.OwlFault.TheVariants as fault
use Rattle.dl_names.specs.Iris.{is_free}
use Rattle.dl_owl.specs.Causes.{syntax}
use Rattle.dl_owl.specs.Expected.{property_then, refuses}
use Rattle.dl_owl.specs.Steps.{named_next}
use Rattle.dl_owl.specs.Walk.{here, symbol_at}
use Rattle.dl_owl.proofs.TakenLemmas.{reads_follows}
use Rattle.dl_owl.proofs.name.property.Goals as goal

pub returns : goal.returns
returns c =
    reads_follows property_then (λ k. named_next c.args.prefixes.now is_free k (refuses syntax) (symbol_at c.args.at.now))
    (here c.args.at.now c.args.prefixes.now c.args.names.now) (here c.named.new.at c.args.prefixes.now c.named.new.names)
    c.named.result (λ k. refl) (c.named.ensures syntax (ap fault.Syntax c.start-start.ensures))
