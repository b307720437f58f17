use Rattle.std.proofs.Common.{Contains, subst}
use Rattle.std.proofs.lemmas.Result.{IfOk-weaker}
use Rattle.dl_terms.specs.Order.{role_cmp}
use Rattle.dl_terms.specs.declared.role.Basic.TheVariants.{SomeOf}
use Rattle.dl_hier.specs.Predicates.{basics}
use Rattle.dl_hier.specs.Nodes.{StandsAt}
use Rattle.dl_hier.proofs.HierLemmas.{sorted-none, basic_nodes_few, list-ascends, after, after_none}
use Rattle.dl_hier.proofs.hier.Hier.followers.Goals as goal

pub roles_reached-requires-clause-few : goal.roles_reached-requires-clause-few
roles_reached-requires-clause-few c = basic_nodes_few c.self.inside.nodes c.self.inside.roles c.self.inside.role_ways.graph c.self.inside.basic_ways.graph c.self.invariant.graphs

pub roles_reached-requires-clause-ascending : goal.roles_reached-requires-clause-ascending
roles_reached-requires-clause-ascending c = list-ascends c.self.inside.nodes c.self.inside.roles c.self.inside.role_ways.graph c.self.inside.basic_ways.graph c.self.invariant.graphs c.as_slice.result.now c.as_slice.ensures

pub returns-in-Some-clause-exact : goal.returns-in-Some-clause-exact
returns-in-Some-clause-exact c =
    IfOk-weaker c.roles_reached.result _ _ (λ found picked axioms of t.
    after c.self.inside.nodes c.self.inside.roles c.self.inside.role_ways.graph c.self.inside.basic_ways.graph c.self.invariant.graphs c.args.self.now c.self.view_is axioms of _ c.in-Some.from
    (subst (λ r. StandsAt (basics c.self.inside.nodes) c.in-Some.from (SomeOf r)) c.inverse.ensures c.in-Some.ensures) c.class_count-first.result c.class_count-first.ensures c.as_slice.result.now
    found c.as_slice.ensures picked t)
    c.roles_reached.ensures

pub returns-in-None-clause-ascending : goal.returns-in-None-clause-ascending
returns-in-None-clause-ascending c = sorted-none role_cmp c.new.result c.new.ensures

pub returns-in-None-clause-exact : goal.returns-in-None-clause-exact
returns-in-None-clause-exact c = λ axioms of t.
    after_none c.self.inside.nodes c.self.inside.roles c.self.inside.role_ways.graph c.self.inside.basic_ways.graph c.self.invariant.graphs c.args.self.now c.self.view_is axioms of _
    (subst (λ r. Contains (basics c.self.inside.nodes) (SomeOf r) → ⊥) c.inverse.ensures c.in-None.ensures) c.new.result c.new.ensures t
