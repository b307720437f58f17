use Rattle.std.proofs.Common.{[], ◌∷◌}
use Rattle.dl_owl.specs.declared.fault.OwlFault.TheVariants.{NoMemory}
use Rattle.dl_owl.specs.Expected.{sup_then}
use Rattle.dl_owl.specs.Walk.{here}
use Rattle.dl_owl.specs.Series.{Appends}
use Rattle.dl_owl.proofs.SeriesLemmas.{exit_by}
use Rattle.dl_owl.proofs.WalkLemmas.{no_memory}
use Rattle.dl_owl.proofs.right.add_part.Goals as goal

pub returns-in_err-next : goal.returns-in_err-next
returns-in_err-next c =
    λ not.
    exit_by (Appends sup_then (here c.args.at.now c.args.prefixes.now c.args.names.now)
    (here c.part.new.at c.args.prefixes.now c.part.new.names) c.args.parts.now c.args.parts.now)
    c.from_residual.result c.in_err-next.field-0.0 c.from_residual.ensures.1 (c.in_err-next.ensures not)

pub returns : goal.returns
returns c = λ not. (c.in_ok-next.next ∷ [], c.in_ok-push.ensures.ok, c.in_ok-next.ensures not)

pub returns-in_err-push : goal.returns-in_err-push
returns-in_err-push c =
    λ not.
    exit_by (Appends sup_then (here c.args.at.now c.args.prefixes.now c.args.names.now)
    (here c.part.new.at c.args.prefixes.now c.part.new.names) c.args.parts.now c.push.new.self)
    c.from_residual-in_err-push.result NoMemory c.from_residual-in_err-push.ensures.1
    (λ k.
    no_memory (sup_then k) (here c.args.at.now c.args.prefixes.now c.args.names.now) c.part.new.names
    (c.in_ok-next.ensures not k).grows)
