use Rattle.std.proofs.Common.{ℕ, Vec, Global, ap, ◌∙◌}
use Rattle.dl_hier.specs.Predicates.{basics}
use Rattle.dl_hier.proofs.PickLemmas.{targets_found, targets_missing}
use Rattle.dl_hier.proofs.hier.targets.Goals.{in-Some+in_ok-push-in-Some, in-None}
use Rattle.dl_hier.proofs.hier.targets.Goals as goal

pub loop-term-preserved : goal.loop-term-preserved
loop-term-preserved c =
    elim c.match-basic.branch [
      | in-Some+in_ok-push-in-Some w ↦
          targets_found (basics c.args.nodes.now) c.args.terms.now c.loop-term.term-index _ c.loop-term.targets.items c.match-basic.targets.items w.in-Some.node
          c.loop-term-test.true c.loop-term.invariant w.in-Some.ensures
          (ap (λ (v : Vec ℕ Global). v.items) w.targets-is ∙ w.in_ok-push-in-Some.ensures.items)
      | in-None w ↦
          targets_missing (basics c.args.nodes.now) c.args.terms.now c.loop-term.term-index _ c.loop-term.targets.items c.match-basic.targets.items
          c.loop-term-test.true c.loop-term.invariant w.in-None.ensures (ap (λ (v : Vec ℕ Global). v.items) w.targets-is)
    ]
