use Rattle.std.proofs.Common.{Some, None, refl, ap}
use Rattle.dl_owl.specs.declared.fault.OwlFault.TheVariants as fault
use Rattle.dl_owl.specs.Causes.{syntax}
use Rattle.dl_owl.specs.Steps.{class_or_thing}
use Rattle.dl_owl.specs.Expected.{declared_class, goes, refuses}
use Rattle.dl_owl.specs.Walk.{here, symbol_at}
use Rattle.dl_owl.proofs.TakenLemmas.{reads_follows}
use Rattle.dl_owl.proofs.class.declared_class.Goals as goal

pub returns : goal.returns
returns c =
    reads_follows declared_class
    (λ k.
    class_or_thing c.args.prefixes.now (goes (k None)) (λ n. k (Some n)) (refuses syntax) (symbol_at c.args.at.now))
    (here c.args.at.now c.args.prefixes.now c.args.names.now)
    (here c.class_or_thing.new.at c.args.prefixes.now c.class_or_thing.new.names) c.class_or_thing.result (λ k. refl)
    (c.class_or_thing.ensures syntax (ap fault.Syntax c.start-start.ensures))
