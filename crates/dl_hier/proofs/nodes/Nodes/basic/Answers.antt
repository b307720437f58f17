use Rattle.std.proofs.Common.{◌≡◌, ◌+◌, Contains, length, ap, sym, subst, ◌∙◌, arith}
use Rattle.dl_hier.specs.Predicates.{Predicates, AreInOrder, basics}
use Rattle.dl_hier.specs.Nodes.{StandsAt}
use Rattle.dl_hier.proofs.PredicateLemmas.{found, length-roles, class-known, some-known, basic-at_class, basic-at_role}
use Rattle.dl_hier.proofs.nodes.Nodes.basic.Goals as goal

pub overflow_add-result : goal.overflow_add-result
overflow_add-result c =
    let p = c.args.self.now in
    let order = subst AreInOrder c.self.view_is c.self.invariant in
    let classes : c.len.result ≡ length p.classes = c.len.ensures ∙ ap (λ (q : Predicates). length q.classes) c.self.view_is in
    omega (arith, length-roles p, classes, order.few, c.in-Some.ensures.within)

pub returns-in-Class : goal.returns-in-Class
returns-in-Class c =
    let p = c.args.self.now in
    let class = c.in-Class.class in
    found c.index_of.result c.as_slice.result.now p.classes class (basics p) c.args.basic
    (c.as_slice.ensures ∙ ap (λ (q : Predicates). q.classes) c.self.view_is)
    (λ h. class-known p class (subst (Contains (basics p)) c.in-Class.is h))
    (λ i s. subst (StandsAt (basics p) i) (sym c.in-Class.is) (basic-at_class p s)) c.index_of.ensures

pub returns-in-Some : goal.returns-in-Some
returns-in-Some c =
    let p = c.args.self.now in
    let classes : length p.classes ≡ c.len.result = sym (c.len.ensures ∙ ap (λ (q : Predicates). length q.classes) c.self.view_is) in
    subst (λ n. StandsAt (basics p) (n + c.in-Some.node) c.args.basic) classes
    (subst (StandsAt (basics p) (length p.classes + c.in-Some.node)) (sym c.in-SomeOf.is) (basic-at_role p c.in-Some.ensures))

pub returns-in-None : goal.returns-in-None
returns-in-None c = λ h. c.in-None.ensures (some-known c.args.self.now c.in-SomeOf.role (subst (Contains (basics c.args.self.now)) c.in-SomeOf.is h))
