use Rattle.std.proofs.Common.{arith}
use Rattle.dl_terms.specs.Order.{role_cmp}
use Rattle.dl_terms.proofs.OrderLemmas.{roles_linear}
use Rattle.dl_tree.specs.Rows.{HasBit}
use Rattle.dl_hier.proofs.PickLemmas.{picked_none, picked_push}
use Rattle.dl_tree.proofs.PassLemmas.{picked_skip, picked_last}
use Rattle.dl_tree.proofs.rows.picked.Goals as goal

pub loop-i-init : goal.loop-i-init
loop-i-init c = picked_none roles_linear.total c.args.listed.now c.requires.ascending (HasBit c.args.row.now) c.new-found.result c.new-found.ensures

pub loop-i-preserved : goal.loop-i-preserved
loop-i-preserved c =
    picked_push roles_linear.total c.args.listed.now c.requires.ascending (HasBit c.args.row.now) c.in-Some.i _ c.loop-i.found c.push.new.self
    (picked_skip role_cmp c.args.listed.now (HasBit c.args.row.now) c.loop-i.start c.in-Some.i c.loop-i.found c.in-Some.ensures.0 c.in-Some.ensures.3
    c.loop-i.invariant)
    c.in-Some.ensures.1 c.in-Some.ensures.2 c.in_ok-push.ensures.ok

pub loop-i-smaller : goal.loop-i-smaller
loop-i-smaller c = omega (arith, c.in-Some.ensures.0, c.in-Some.ensures.1)

pub returns : goal.returns
returns c = picked_last role_cmp c.args.listed.now (HasBit c.args.row.now) c.loop-i.start c.loop-i.found c.in_default.ensures c.loop-i.invariant
