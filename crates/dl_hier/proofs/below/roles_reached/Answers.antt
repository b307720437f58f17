use Rattle.std.proofs.Common.{◌+◌, true≢false, sym, ◌∙◌}
use Rattle.dl_terms.proofs.OrderLemmas.{roles_linear}
use Rattle.dl_reach.specs.Chain.{Chain}
use Rattle.dl_reach.specs.Digraph.{IsEdge}
use Rattle.dl_hier.proofs.PickLemmas.{picked_none, picked_push, picked_pass, ArePickedTo-all}
use Rattle.dl_hier.proofs.below.roles_reached.Goals.{then-has+in_ok-push, else-has}
use Rattle.dl_hier.proofs.below.roles_reached.Goals as goal

pub loop-i-init : goal.loop-i-init
loop-i-init c = picked_none roles_linear.total c.args.roles.now c.requires.ascending (λ k. Chain (IsEdge c.args.ways.now.graph) c.args.from (c.args.first + k)) c.new-found.result c.new-found.ensures

pub loop-i-preserved : goal.loop-i-preserved
loop-i-preserved c =
    elim c.if-has.branch [
      | then-has+in_ok-push w ↦
          picked_push roles_linear.total c.args.roles.now c.requires.ascending (λ k. Chain (IsEdge c.args.ways.now.graph) c.args.from (c.args.first + k)) c.loop-i.i _ c.loop-i.found c.if-has.found c.loop-i.invariant c.loop-i-test.true
          (c.has.ensures.0 w.if-has.true) (w.found-is ∙ w.in_ok-push.ensures.ok)
      | else-has w ↦
          picked_pass roles_linear.total c.args.roles.now c.requires.ascending (λ k. Chain (IsEdge c.args.ways.now.graph) c.args.from (c.args.first + k)) c.loop-i.i c.loop-i.found c.if-has.found c.loop-i.invariant
          (λ that. true≢false (sym (c.has.ensures.1 that) ∙ w.if-has.false)) w.found-is
    ]

pub returns : goal.returns
returns c = ArePickedTo-all roles_linear.total c.args.roles.now c.requires.ascending (λ k. Chain (IsEdge c.args.ways.now.graph) c.args.from (c.args.first + k)) c.loop-i.i c.loop-i.found c.loop-i.invariant c.loop-i-test.false
