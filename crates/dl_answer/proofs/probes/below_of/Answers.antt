use Rattle.dl_answer.proofs.BelowLemmas.{below_any, below_role}
use Rattle.dl_answer.proofs.probes.below_of.Goals as goal

pub returns-in-AnyOf : goal.returns-in-AnyOf
returns-in-AnyOf c =
    below_any c.args.hier.now c.args.probe.now c.in-AnyOf.basics c.in-AnyOf.at c.predicates_below.result c.in-AnyOf.is
    (rw c.as_slice.ensures at c.predicates_below.ensures.classes)
    (rw c.as_slice.ensures at c.predicates_below.ensures.forward)
    (rw c.as_slice.ensures at c.predicates_below.ensures.backward)

pub returns-in-Joined : goal.returns-in-Joined
returns-in-Joined c =
    below_role c.args.hier.now c.args.probe.now c.in-Joined.role c.in-Joined.from c.in-Joined.to
    c.roles_below.result c.in-Joined.is
    c.roles_below.ensures.classes (rw c.named.ensures at c.roles_below.ensures.forward)
    (rw c.named.ensures at c.roles_below.ensures.backward)
