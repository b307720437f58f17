use Rattle.std.proofs.Common.{◌≡◌, ◌+◌, ◌*◌, ◌<◌, ◌∷◌, ◌⊎◌, inl, inr, [], length, map, refl, sym, ap, ◌∙◌, arith}
use Rattle.std.proofs.lemmas.Bool.Decides.{nat_tests}
use Rattle.std.proofs.lemmas.Result.{err_from_is_err_and}
use Rattle.std.proofs.lemmas.List.{take_all, length-map, nil_from_length}
use Rattle.dl_join.specs.Searching.{named, IsGiven, name_or_zero, IsReady}
use Rattle.dl_join.specs.Gathering.{Has}
use Rattle.dl_join.proofs.GatherLemmas.{AreMoreThan-weaker, Gathers-same}
use Rattle.dl_join.proofs.LevelLemmas.{Searched-none, Searched-all, Searched-closed, level_of, skip_ready, parts_given, leaf_given, ready_leaf, closed_tuple, of_var, entered, front_stays, entered_ready, entered_more, entered_over, level_gathers, level_over}
use Rattle.dl_join.proofs.search.+search.Goals as goal

pub each_name-loop-name-init : goal.each_name-loop-name-init
each_name-loop-name-init t c = record {
  later = take_all c.len-kept.result c.args.room.now.later.items (grind arith);
  searched = Searched-none c.args.var c.args.others.now c.args.room.now.active.items c.args.room.now.later.items c.args.head.now c.args.gathered.now c.requires.level c.requires.gathered;
}

pub each_name-search-requires : goal.each_name-search-requires
each_name-search-requires t c =
    let s = c.loop-name.invariant.searched in
    let n = c.in-Some.ensures in
    let e = c.in_ok-enter.ensures in
    let is = entered c.in-Some.name c.args.var c.len-kept.result c.next.new.self.active.items c.args.room.now.later.items c.loop-name.room.later.items c.next.new.self.later.items
    c.enter.new.self.later.items c.deref.result.now c.args.head.now c.enter.new.self.head.items c.deref-in-Some.result.now c.loop-name.invariant.later n.later e.later e.head
    c.deref.ensures.value c.deref-in-Some.ensures.value in
    let fall : 2 * length c.args.others.now < t = omega (arith, c.decreases) in
    let width : length c.deref-in-Some.result.now ≡ c.loop-name.gathered.known.width =
    ap length is.head_is ∙ (length-map c.args.head.now (named c.args.var c.in-Some.name) ∙ (c.requires.width ∙ sym s.width)) in (
      fall,
      (
        entered_ready c.in-Some.name c.args.var c.loop-name.from c.args.others.now c.args.room.now.active.items c.args.room.now.later.items c.loop-name.room.active.items
            c.next.new.self.active.items c.deref.result.now c.args.head.now c.deref-in-Some.result.now c.requires.level s.moved n.reached n.moved n.stand is,
        (s.valid, width),
      ),
    )

pub each_name-returns-in_err-found-clause-many : goal.each_name-returns-in_err-found-clause-many
each_name-returns-in_err-found-clause-many t c = λ er.
    let s = c.loop-name.invariant.searched in
    let n = c.in-Some.ensures in
    let e = c.in_ok-enter.ensures in
    let is = entered c.in-Some.name c.args.var c.len-kept.result c.next.new.self.active.items c.args.room.now.later.items c.loop-name.room.later.items c.next.new.self.later.items
    c.enter.new.self.later.items c.deref.result.now c.args.head.now c.enter.new.self.head.items c.deref-in-Some.result.now c.loop-name.invariant.later n.later e.later e.head
    c.deref.ensures.value c.deref-in-Some.ensures.value in
    let p = err_from_is_err_and c.from_residual-in_err-found.result c.from_residual-in_err-found.ensures.1 in
    entered_over c.loop-name.from c.in-Some.name c.args.var c.args.others.now c.args.room.now.active.items c.args.room.now.later.items c.loop-name.room.active.items
    c.next.new.self.active.items c.deref.result.now c.args.head.now c.deref-in-Some.result.now c.args.gathered.now c.loop-name.gathered c.loop-name.found
    c.requires.level s n.reached n.moved n.stand is (c.in_err-found.ensures.many (cc (p.1, p.2, er)))

pub each_name-returns-then-found-clause-ok : goal.each_name-returns-then-found-clause-ok
each_name-returns-then-found-clause-ok t c =
    let s = c.loop-name.invariant.searched in
    let n = c.in-Some.ensures in
    let e = c.in_ok-enter.ensures in
    let is = entered c.in-Some.name c.args.var c.len-kept.result c.next.new.self.active.items c.args.room.now.later.items c.loop-name.room.later.items c.next.new.self.later.items
    c.enter.new.self.later.items c.deref.result.now c.args.head.now c.enter.new.self.head.items c.deref-in-Some.result.now c.loop-name.invariant.later n.later e.later e.head
    c.deref.ensures.value c.deref-in-Some.ensures.value in
    let more = entered_more c.loop-name.from c.in-Some.name c.args.var c.args.others.now c.args.room.now.active.items c.args.room.now.later.items c.loop-name.room.active.items
    c.next.new.self.active.items c.enter.new.self.active.items c.deref.result.now c.args.head.now c.deref-in-Some.result.now c.args.gathered.now c.loop-name.gathered
    c.search.new.gathered c.loop-name.found c.in_ok-found.field-0 c.requires.level s n.reached n.moved n.stand n.least e.active is c.in_ok-found.ensures.ok c.in_ok-found.ensures.some in
    Searched-closed (c.in-Some.name + 1) c.args.var c.args.room.now.active.items c.args.room.now.later.items c.enter.new.self.active.items c.args.head.now c.args.gathered.now
    c.search.new.gathered (rw c.if-found.true at more) (c.if-closed.ensures refl)

pub each_name-returns-then-found-clause-some : goal.each_name-returns-then-found-clause-some
each_name-returns-then-found-clause-some t c = λ _.
    let s = c.loop-name.invariant.searched in
    let n = c.in-Some.ensures in
    let e = c.in_ok-enter.ensures in
    let is = entered c.in-Some.name c.args.var c.len-kept.result c.next.new.self.active.items c.args.room.now.later.items c.loop-name.room.later.items c.next.new.self.later.items
    c.enter.new.self.later.items c.deref.result.now c.args.head.now c.enter.new.self.head.items c.deref-in-Some.result.now c.loop-name.invariant.later n.later e.later e.head
    c.deref.ensures.value c.deref-in-Some.ensures.value in
    let more = entered_more c.loop-name.from c.in-Some.name c.args.var c.args.others.now c.args.room.now.active.items c.args.room.now.later.items c.loop-name.room.active.items
    c.next.new.self.active.items c.enter.new.self.active.items c.deref.result.now c.args.head.now c.deref-in-Some.result.now c.args.gathered.now c.loop-name.gathered
    c.search.new.gathered c.loop-name.found c.in_ok-found.field-0 c.requires.level s n.reached n.moved n.stand n.least e.active is c.in_ok-found.ensures.ok c.in_ok-found.ensures.some in
    let w = more.some c.if-found.true in (w.0, w.1)

pub each_name-loop-name-preserved : goal.each_name-loop-name-preserved
each_name-loop-name-preserved t c =
    let s = c.loop-name.invariant.searched in
    let n = c.in-Some.ensures in
    let e = c.in_ok-enter.ensures in
    let is = entered c.in-Some.name c.args.var c.len-kept.result c.next.new.self.active.items c.args.room.now.later.items c.loop-name.room.later.items c.next.new.self.later.items
    c.enter.new.self.later.items c.deref.result.now c.args.head.now c.enter.new.self.head.items c.deref-in-Some.result.now c.loop-name.invariant.later n.later e.later e.head
    c.deref.ensures.value c.deref-in-Some.ensures.value in
    let more = entered_more c.loop-name.from c.in-Some.name c.args.var c.args.others.now c.args.room.now.active.items c.args.room.now.later.items c.loop-name.room.active.items
    c.next.new.self.active.items c.enter.new.self.active.items c.deref.result.now c.args.head.now c.deref-in-Some.result.now c.args.gathered.now c.loop-name.gathered
    c.search.new.gathered c.loop-name.found c.in_ok-found.field-0 c.requires.level s n.reached n.moved n.stand n.least e.active is c.in_ok-found.ensures.ok c.in_ok-found.ensures.some in
    record {
      later = front_stays c.in-Some.name c.len-kept.result c.next.new.self.active.items c.args.room.now.later.items c.loop-name.room.later.items c.next.new.self.later.items
          c.enter.new.self.later.items (grind arith) c.loop-name.invariant.later n.later e.later;
      searched = rw c.from-from.ensures more;
    }

pub each_name-returns-clause-ok : goal.each_name-returns-clause-ok
each_name-returns-clause-ok t c =
    Searched-all c.loop-name.from c.args.var c.args.others.now c.args.room.now.active.items c.args.room.now.later.items c.loop-name.room.active.items c.args.head.now
    c.args.gathered.now c.loop-name.gathered c.loop-name.found c.requires.level c.loop-name.invariant.searched c.in_default.ensures.none

pub search-returns-in_err-add-clause-many : goal.search-returns-in_err-add-clause-many
search-returns-in_err-add-clause-many t c = λ er.
    let none : c.args.order.now ≡ [] = nil_from_length c.args.order.now c.in_default.ensures.cases in
    let ready : IsReady [] c.args.needs.now c.args.head.now = rw none at c.requires.ready in
    let p = err_from_is_err_and c.from_residual.result c.from_residual.ensures.1 in
    AreMoreThan-weaker c.args.gathered.now.limit (λ s. Has c.args.gathered.now s ⊎ (s ≡ map name_or_zero c.args.head.now))
    (λ s. Has c.args.gathered.now s ⊎ IsGiven c.args.needs.now c.args.head.now s)
    (λ s h. elim h [ inl was ↦ inl was | inr is ↦ inr (leaf_given c.args.needs.now c.args.head.now ready s is) ])
    (c.in_err-add.ensures.many (cc (p.1, p.2, er)))

pub search-returns-in_default-clause-ok : goal.search-returns-in_default-clause-ok
search-returns-in_default-clause-ok t c =
    let needs = c.args.needs.now in
    let head = c.args.head.now in
    let none : c.args.order.now ≡ [] = nil_from_length c.args.order.now c.in_default.ensures.cases in
    let ready : IsReady [] needs head = rw none at c.requires.ready in
    Gathers-same (λ s. s ≡ map name_or_zero head) (IsGiven needs head) c.args.gathered.now c.add.new.self (leaf_given needs head ready)
    (closed_tuple needs head (ready_leaf needs head ready)) c.in_ok-add.ensures.ok

pub search-returns-in_default-clause-some : goal.search-returns-in_default-clause-some
search-returns-in_default-clause-some t c = λ _.
    let none : c.args.order.now ≡ [] = nil_from_length c.args.order.now c.in_default.ensures.cases in
    let ready : IsReady [] c.args.needs.now c.args.head.now = rw none at c.requires.ready in
    (map name_or_zero c.args.head.now, leaf_given c.args.needs.now c.args.head.now ready (map name_or_zero c.args.head.now) refl)

pub search-search-requires : goal.search-search-requires
search-search-requires t c =
    let order = c.in-Some.ensures.cases in
    let count = order.1 in
    let v = c.in-Some.var.now in
    let rest = c.in-Some.others.now in
    let ready : IsReady (v ∷ rest) c.args.needs.now c.args.head.now = rw order.0 at c.requires.ready in
    let fall : 2 * length rest < t = omega (arith, c.decreases) in
    let empty : length c.fill.new.self.active.items ≡ 0 = grind (arith, nat_tests, c.if-is_empty.ensures, c.fill.new.self.active.ok.0) in
    let none : length (of_var v c.args.needs.now) ≡ 0 = ap length (sym c.in_ok-fill.ensures.active) ∙ empty in
    (fall, (skip_ready v rest c.args.needs.now c.args.head.now ready none, (c.requires.gathered, c.requires.width)))

pub search-each_name-requires : goal.search-each_name-requires
search-each_name-requires t c =
    let order = c.in-Some.ensures.cases in
    let count = order.1 in
    let v = c.in-Some.var.now in
    let rest = c.in-Some.others.now in
    let ready : IsReady (v ∷ rest) c.args.needs.now c.args.head.now = rw order.0 at c.requires.ready in
    let fall : 2 * length rest + 1 < t = omega (arith, c.decreases) in
    let full : 0 < length c.fill.new.self.active.items = grind (arith, nat_tests, c.if-is_empty.ensures, c.fill.new.self.active.ok.0) in
    let size = ap length c.in_ok-fill.ensures.active in
    let some : 0 < length (of_var v c.args.needs.now) = omega arith in
    (fall, (rw (c.in_ok-fill.ensures.active, c.in_ok-fill.ensures.later) (level_of v rest c.args.needs.now c.args.head.now ready some), (c.requires.gathered, c.requires.width)))

pub search-returns-in_err-found-clause-many : goal.search-returns-in_err-found-clause-many
search-returns-in_err-found-clause-many t c = λ er.
    let p = err_from_is_err_and c.from_residual-in_err-found.result c.from_residual-in_err-found.ensures.1 in
    level_over c.in-Some.var.now c.args.gathered.now.limit c.args.needs.now c.args.head.now c.fill.new.self.active.items c.fill.new.self.later.items c.args.gathered.now
    c.in_ok-fill.ensures.active c.in_ok-fill.ensures.later (c.in_err-found.ensures.many (cc (p.1, p.2, er)))

pub search-returns-clause-ok : goal.search-returns-clause-ok
search-returns-clause-ok t c =
    level_gathers c.in-Some.var.now c.args.needs.now c.args.head.now c.fill.new.self.active.items c.fill.new.self.later.items c.args.gathered.now c.each_name.new.gathered
    c.in_ok-fill.ensures.active c.in_ok-fill.ensures.later c.in_ok-found.ensures.ok

pub search-returns-clause-some : goal.search-returns-clause-some
search-returns-clause-some t c = λ is.
    let w = c.in_ok-found.ensures.some is in
    (w.0, parts_given c.in-Some.var.now c.args.needs.now c.args.head.now w.0 (rw (c.in_ok-fill.ensures.active, c.in_ok-fill.ensures.later) at w.1))
