use Rattle.std.proofs.Common.{◌≡◌, ◌+◌, ◌*◌, ap, subst, arith}
use Rattle.dl_terms.specs.Order.{flag}
use Rattle.dl_hier.specs.Predicates.{roles}
use Rattle.dl_hier.specs.Nodes.{StandsAt}
use Rattle.dl_hier.proofs.PredicateLemmas.{role-at, role-base}
use Rattle.dl_hier.proofs.nodes.Nodes.role.Goals as goal

pub returns-then-role : goal.returns-then-role
returns-then-role c =
    let p = c.args.self.now in
    subst (λ f. StandsAt (roles p) (2 * c.in-Some.base + f) c.args.role) (ap flag c.if-role.true) (role-at p c.in-Some.base c.args.role c.in-Some.ensures.index)

pub returns-else-role : goal.returns-else-role
returns-else-role c =
    let p = c.args.self.now in
    let plain : 2 * c.in-Some.base + 0 ≡ 2 * c.in-Some.base = omega arith in
    subst (λ i. StandsAt (roles p) i c.args.role) plain
    (subst (λ f. StandsAt (roles p) (2 * c.in-Some.base + f) c.args.role) (ap flag c.if-role.false) (role-at p c.in-Some.base c.args.role c.in-Some.ensures.index))

pub returns-in-None : goal.returns-in-None
returns-in-None c = λ h. c.in-None.ensures.index (role-base c.args.self.now c.args.role h)
