use Rattle.std.proofs.Common.{◌++◌, length, reverse, sym, ap, subst, ◌∙◌, arith}
use Rattle.dl_numbers.specs.Places.{AreLeaders, AreParents}
use Rattle.dl_numbers.proofs.GrowLemmas.{IsGrown, grown_start, grown_end, stepped, nothing}
use Rattle.dl_numbers.proofs.order.depth_first.Goals as goal

pub push_children-requires-clause-few : goal.push_children-requires-clause-few
push_children-requires-clause-few c =
    let few = c.nodes.ensures.few in
    let count = c.nodes.ensures.count in
    let are = c.in_ok-leaders.ensures.count in
    let long = ap length c.deref-2.ensures.value in
    omega (arith, few, count, are, long)

pub loop-class-init : goal.loop-class-init
loop-class-init c =
    let order = c.args.order.now in
    let are = subst (AreLeaders order) (sym c.deref-2.ensures.value) c.in_ok-leaders.ensures in
    let tell = subst (AreParents order) (sym c.deref-3.ensures.value) c.in_ok-parents.ensures in
    let kids = c.in_ok-push_children.ensures in
    let waiting = c.push_children.new.waiting.items in
    let found = c.in_ok-found.found.items in
    subst (λ zs. IsGrown order zs waiting found) c.deref-2.ensures.value
    (grown_start order c.deref-2.result.now are c.deref-3.result.now tell kids.0 waiting found kids.1
    (kids.2 ∙ ap (λ zs. zs ++ reverse kids.0) c.new-waiting.ensures.items) c.in_ok-found.ensures.items)

pub loop-class-smaller : goal.loop-class-smaller
loop-class-smaller c =
    let kids = c.in_ok-push_children-2.ensures in
    let members = c.in_ok-push_members.ensures in
    let step = stepped c.args.order.now c.in_ok-leaders.leaders.items c.in_ok-leaders.ensures c.in_ok-parents.parents.items c.in_ok-parents.ensures c.in-Some.class
    c.loop-class.waiting.items c.pop.new.self.items c.loop-class.found.items members.0 kids.0 c.loop-class.invariant c.in-Some.ensures.items
    c.deref-in-Some.result.now c.deref-in-Some-2.result.now c.deref-in-Some-3.result.now c.deref-in-Some.ensures.value c.deref-in-Some-2.ensures.value
    c.deref-in-Some-3.ensures.value members.1 kids.1 c.push_children-in-Some.new.waiting.items c.push_members.new.found.items kids.2 members.2 in
    let more = step.more in
    let within = step.within in
    omega (arith, more, within)

pub loop-class-preserved : goal.loop-class-preserved
loop-class-preserved c =
    let kids = c.in_ok-push_children-2.ensures in
    let members = c.in_ok-push_members.ensures in
    let step = stepped c.args.order.now c.in_ok-leaders.leaders.items c.in_ok-leaders.ensures c.in_ok-parents.parents.items c.in_ok-parents.ensures c.in-Some.class
    c.loop-class.waiting.items c.pop.new.self.items c.loop-class.found.items members.0 kids.0 c.loop-class.invariant c.in-Some.ensures.items
    c.deref-in-Some.result.now c.deref-in-Some-2.result.now c.deref-in-Some-3.result.now c.deref-in-Some.ensures.value c.deref-in-Some-2.ensures.value
    c.deref-in-Some-3.ensures.value members.1 kids.1 c.push_children-in-Some.new.waiting.items c.push_members.new.found.items kids.2 members.2 in
    step.grown

pub returns : goal.returns
returns c =
    let empty = c.in_default.ensures.cases.0 in
    let long = c.loop-class.waiting.ok.0 in
    grown_end c.args.order.now c.in_ok-leaders.leaders.items c.loop-class.waiting.items c.loop-class.found.items c.loop-class.invariant
    (nothing c.loop-class.waiting.items (omega (arith, empty, long)))
