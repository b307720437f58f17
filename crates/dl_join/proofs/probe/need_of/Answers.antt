use Rattle.std.proofs.lemmas.Option.{IfSome_then}
use Rattle.dl_join.proofs.ProbeLemmas.{none_then}
use Rattle.dl_join.proofs.probe.need_of.Goals as goal

pub returns-in-AnyOf-clause-some : goal.returns-in-AnyOf-clause-some
returns-in-AnyOf-clause-some c = rw c.in-AnyOf.is (IfSome_then c.class_need.result c.class_need.ensures.some (λ need is. is c.in-AnyOf.basics))

pub returns-in-AnyOf-clause-none : goal.returns-in-AnyOf-clause-none
returns-in-AnyOf-clause-none c = rw c.in-AnyOf.is (none_then c.class_need.result c.class_need.ensures.none (λ is. is c.in-AnyOf.basics))

pub returns-in-Joined-clause-some : goal.returns-in-Joined-clause-some
returns-in-Joined-clause-some c = rw c.in-Joined.is (IfSome_then c.role_need.result c.role_need.ensures.some (λ need is. is c.in-Joined.role))

pub returns-in-Joined-clause-none : goal.returns-in-Joined-clause-none
returns-in-Joined-clause-none c = rw c.in-Joined.is (none_then c.role_need.result c.role_need.ensures.none (λ is. is c.in-Joined.role))
