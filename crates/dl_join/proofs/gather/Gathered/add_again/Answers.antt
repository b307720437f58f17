use Rattle.std.proofs.Common.{refl}
use Rattle.dl_terms.specs.Sets.{IsSetOf}
use Rattle.dl_join.specs.declared.gather.Gathered.{Gathered}
use Rattle.dl_join.specs.Tuples.{tuple_cmp}
use Rattle.dl_join.proofs.MergeLemmas.{tuples_linear}
use Rattle.dl_join.proofs.GatherLemmas.{set_width, ok_again_all, over_again_all}
use Rattle.dl_join.proofs.gather.Gathered.add_again.Goals as goal

pub set_of-set-requires : goal.set_of-set-requires
set_of-set-requires c = tuples_linear.equal

pub add_all-requires-clause-widths : goal.add_all-requires-clause-widths
add_all-requires-clause-widths c =
    let is : IsSetOf tuple_cmp c.set_of-set.result c.args.self.now.fresh = rw c.replace-fresh.ensures.value at c.set_of-set.ensures in
    rw c.as_slice.ensures (set_width c.args.self.now c.args.self.now c.set_of-set.result c.requires is refl)

pub returns-clause-ok : goal.returns-clause-ok
returns-clause-ok c =
    let is : IsSetOf tuple_cmp c.set_of-set.result c.args.self.now.fresh = rw c.replace-fresh.ensures.value at c.set_of-set.ensures in
    ok_again_all c.args.self.now _ c.add_all.new.self c.set_of-set.result c.as_slice.result.now c.add_all.result c.add_all.ensures.ok c.as_slice.ensures is refl
    (rw c.new.ensures at c.replace-fresh.ensures.after) refl

pub returns-clause-many : goal.returns-clause-many
returns-clause-many c = λ e.
    let s = c.args.self.now in
    let is : IsSetOf tuple_cmp c.set_of-set.result s.fresh = rw c.replace-fresh.ensures.value at c.set_of-set.ensures in
    let b : Gathered = record { alloc = s.alloc; limit = s.limit; known = s.known; fresh = c.replace-fresh.new.dest; last = s.last; in_order = s.in_order; grouped = s.grouped } in
    over_again_all s b c.set_of-set.result is refl (rw c.new.ensures at c.replace-fresh.ensures.after) refl (rw c.as_slice.ensures at (c.add_all.ensures.many e))
