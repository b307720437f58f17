use Rattle.std.proofs.Common.{Contains}
use Rattle.dl_hier.specs.Predicates.{roles, basics}
use Rattle.dl_hier.proofs.NameLemmas.{names_told, names_refused, rows_told}
use Rattle.dl_hier.proofs.fit.fits.Goals as goal

pub returns-then-not-knows_roles : goal.returns-then-not-knows_roles
returns-then-not-knows_roles c =
    names_refused c.args.signature.now c.args.normal.now c.in_ok-nodes.nodes c.in_ok-nodes.ensures.predicates c.knows_roles.result
    c.if-not-knows_roles.true (rows_told (λ q. Contains (roles c.in_ok-nodes.nodes) q.0 × Contains (roles c.in_ok-nodes.nodes) q.1) c.as_slice.result.now c.args.normal.now.roles c.as_slice.ensures c.knows_roles.ensures)

pub returns : goal.returns
returns c =
    names_told c.args.signature.now c.args.normal.now c.in_ok-nodes.nodes c.in_ok-nodes.ensures.predicates c.in_ok-nodes.ensures.order
    c.knows_basics.result (c.in_ok-are_few.ensures.0 c.if-not-branch.false)
    ((rows_told (λ q. Contains (roles c.in_ok-nodes.nodes) q.0 × Contains (roles c.in_ok-nodes.nodes) q.1) c.as_slice.result.now c.args.normal.now.roles c.as_slice.ensures c.knows_roles.ensures).0 c.if-not-knows_roles.false)
    (rows_told (λ q. Contains (basics c.in_ok-nodes.nodes) q.0 × Contains (basics c.in_ok-nodes.nodes) q.1) c.as_slice-2.result.now c.args.normal.now.concepts c.as_slice-2.ensures c.knows_basics.ensures)
