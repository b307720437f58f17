use Rattle.std.proofs.Common.{[], ◌∷◌}
use Rattle.dl_owl.specs.declared.fault.OwlFault.TheVariants.{NoMemory}
use Rattle.dl_owl.specs.Expected.{sub_then}
use Rattle.dl_owl.specs.Walk.{here}
use Rattle.dl_owl.proofs.WalkLemmas.{no_memory}
use Rattle.dl_owl.specs.Series.{Appends}
use Rattle.dl_owl.proofs.SeriesLemmas.{exit_by}
use Rattle.dl_owl.proofs.list.add_sub.Goals as goal

pub returns : goal.returns
returns c = (c.in_ok-next.next ∷ [], c.in_ok-push.ensures.ok, λ k. c.in_ok-next.ensures (λ v. k (v ∷ [])))

pub returns-in_err-push : goal.returns-in_err-push
returns-in_err-push c =
    exit_by (Appends (λ k. sub_then (λ b. k (b ∷ []))) (here c.args.at.now c.args.prefixes.now c.args.names.now)
    (here c.sub.new.at c.args.prefixes.now c.sub.new.names) c.args.subs.now c.push.new.self)
    c.from_residual-in_err-push.result NoMemory c.from_residual-in_err-push.ensures.1
    (λ k.
    no_memory (sub_then (λ b. k (b ∷ []))) (here c.args.at.now c.args.prefixes.now c.args.names.now)
    c.sub.new.names (c.in_ok-next.ensures (λ b. k (b ∷ []))).grows)

pub returns-in_err-next : goal.returns-in_err-next
returns-in_err-next c =
    exit_by (Appends (λ k. sub_then (λ b. k (b ∷ []))) (here c.args.at.now c.args.prefixes.now c.args.names.now)
    (here c.sub.new.at c.args.prefixes.now c.sub.new.names) c.args.subs.now c.args.subs.now)
    c.from_residual.result c.in_err-next.field-0.0 c.from_residual.ensures.1
    (λ k. c.in_err-next.ensures (λ b. k (b ∷ [])))
