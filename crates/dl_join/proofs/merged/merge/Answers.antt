use Rattle.std.proofs.Common.{◌∙◌, arith}
use Rattle.std.proofs.lemmas.List.{length_push}
use Rattle.dl_join.proofs.MergeLemmas.{Merging-none, Merging-all, next_over, pushed_less, pushed_equal, pushed_greater}
use Rattle.dl_join.proofs.merged.merge.Goals as goal

pub loop-i-init : goal.loop-i-init
loop-i-init c = rw c.new-merged.ensures.none (record {
  width = c.new-merged.ensures.width ∙ c.width.ensures.width;
  within = omega arith;
  merging = Merging-none c.args.one.now.tuples c.args.two.now.tuples;
})

pub returns-then-len-limit-clause-many : goal.returns-then-len-limit-clause-many
returns-then-len-limit-clause-many c = λ _.
    next_over c.in_ok-order.order c.args.one.now.tuples c.args.two.now.tuples c.loop-i.i c.loop-i.j c.args.limit c.loop-i.merged.tuples c.next.new.left.items c.next.new.right.items
    c.requires.one c.requires.two c.loop-i.invariant.merging c.in_ok-order.ensures.next (grind arith)

pub loop-i-preserved-in-Less : goal.loop-i-preserved-in-Less
loop-i-preserved-in-Less c =
    let next = rw c.in-Less.is at c.in_ok-order.ensures.next in
    let pushed = rw c.deref.ensures.value at c.in_ok-push-in-Less.ensures.ok in
    let size = length_push c.loop-i.merged.tuples c.next.new.left.items in
    record {
      width = c.in_ok-push-in-Less.ensures.width ∙ c.loop-i.invariant.width;
      within = rw pushed (grind (arith, size));
      merging = rw pushed (pushed_less c.args.one.now.tuples c.args.two.now.tuples c.loop-i.i c.loop-i.j c.loop-i.merged.tuples c.next.new.left.items c.next.new.right.items
          c.requires.one c.requires.two c.loop-i.invariant.merging next);
    }

pub overflow_add-j : goal.overflow_add-j
overflow_add-j c = let next = rw c.in-Equal.is at c.in_ok-order.ensures.next in let inside = next.1.inside in grind (arith, inside)

pub loop-i-preserved-in-Equal : goal.loop-i-preserved-in-Equal
loop-i-preserved-in-Equal c =
    let next = rw c.in-Equal.is at c.in_ok-order.ensures.next in
    let pushed = rw c.deref-in-Equal.ensures.value at c.in_ok-push-in-Equal.ensures.ok in
    let size = length_push c.loop-i.merged.tuples c.next.new.right.items in
    record {
      width = c.in_ok-push-in-Equal.ensures.width ∙ c.loop-i.invariant.width;
      within = rw pushed (grind (arith, size));
      merging = rw pushed (pushed_equal c.args.one.now.tuples c.args.two.now.tuples c.loop-i.i c.loop-i.j c.loop-i.merged.tuples c.next.new.left.items c.next.new.right.items
          c.requires.one c.requires.two c.loop-i.invariant.merging next);
    }

pub overflow_add-j-in-Greater : goal.overflow_add-j-in-Greater
overflow_add-j-in-Greater c = let next = rw c.in-Greater.is at c.in_ok-order.ensures.next in let inside = next.0.inside in grind (arith, inside)

pub loop-i-preserved : goal.loop-i-preserved
loop-i-preserved c =
    let next = rw c.in-Greater.is at c.in_ok-order.ensures.next in
    let pushed = rw c.deref-in-Greater.ensures.value at c.in_ok-push-in-Greater.ensures.ok in
    let size = length_push c.loop-i.merged.tuples c.next.new.right.items in
    record {
      width = c.in_ok-push-in-Greater.ensures.width ∙ c.loop-i.invariant.width;
      within = rw pushed (grind (arith, size));
      merging = rw pushed (pushed_greater c.args.one.now.tuples c.args.two.now.tuples c.loop-i.i c.loop-i.j c.loop-i.merged.tuples c.next.new.left.items c.next.new.right.items
          c.requires.one c.requires.two c.loop-i.invariant.merging next);
    }

pub returns-clause-tuples : goal.returns-clause-tuples
returns-clause-tuples c = Merging-all c.args.one.now.tuples c.args.two.now.tuples c.loop-i.i c.loop-i.j c.loop-i.merged.tuples c.loop-i.invariant.merging (grind arith) (grind arith)
