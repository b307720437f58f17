use Rattle.std.proofs.Common.{◌+◌, ◌*◌, true≢false, sym, ◌∙◌}
use Rattle.std.specs.Cmp.{nat_cmp_total}
use Rattle.dl_hier.specs.Picking.{LeadsToOneOf}
use Rattle.dl_hier.proofs.PickLemmas.{picked_none, picked_push, picked_pass, ArePickedTo-all}
use Rattle.dl_hier.proofs.below.names_leading.Goals.{then-leads_to_one_of+in_ok-push, else-leads_to_one_of}
use Rattle.dl_hier.proofs.below.names_leading.Goals as goal

pub loop-i-init : goal.loop-i-init
loop-i-init c = picked_none nat_cmp_total c.args.names.now c.requires.ascending (λ k. LeadsToOneOf c.args.ways.now.graph c.args.targets.now (c.args.first + k * c.args.every)) c.new-found.result c.new-found.ensures

pub loop-i-preserved : goal.loop-i-preserved
loop-i-preserved c =
    elim c.if-leads_to_one_of.branch [
      | then-leads_to_one_of+in_ok-push w ↦
          picked_push nat_cmp_total c.args.names.now c.requires.ascending (λ k. LeadsToOneOf c.args.ways.now.graph c.args.targets.now (c.args.first + k * c.args.every)) c.loop-i.i _ c.loop-i.found c.if-leads_to_one_of.found c.loop-i.invariant c.loop-i-test.true
          (c.leads_to_one_of.ensures.0 w.if-leads_to_one_of.true) (w.found-is ∙ w.in_ok-push.ensures.ok)
      | else-leads_to_one_of w ↦
          picked_pass nat_cmp_total c.args.names.now c.requires.ascending (λ k. LeadsToOneOf c.args.ways.now.graph c.args.targets.now (c.args.first + k * c.args.every)) c.loop-i.i c.loop-i.found c.if-leads_to_one_of.found c.loop-i.invariant
          (λ that. true≢false (sym (c.leads_to_one_of.ensures.1 that) ∙ w.if-leads_to_one_of.false)) w.found-is
    ]

pub returns : goal.returns
returns c = ArePickedTo-all nat_cmp_total c.args.names.now c.requires.ascending (λ k. LeadsToOneOf c.args.ways.now.graph c.args.targets.now (c.args.first + k * c.args.every)) c.loop-i.i c.loop-i.found c.loop-i.invariant c.loop-i-test.false
