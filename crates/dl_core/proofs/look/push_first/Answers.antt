use Rattle.std.proofs.Common.{◌++◌, List, [], ◌∷◌, cond, take, filter, length, length-append, append_assoc, append-nil, sym, ap, ◌∙◌, arith}
use Rattle.dl_row.specs.Rows.{visible}
use Rattle.dl_row.specs.declared.row.Row.{Row}
use Rattle.dl_core.proofs.LookLemmas.{filter-more, passed_first}
use Rattle.dl_core.proofs.look.push_first.Goals as goal
use Rattle.dl_core.proofs.look.push_first.Goals.{then-visible+in_ok-push, else-visible}

pub returns-then-left-eq0 : goal.returns-then-left-eq0
returns-then-left-eq0 c =
    let i = c.loop-i.i in
    let left = c.loop-i.invariant.left in
    let none = c.if-left-eq0.true in
    c.loop-i.invariant.are
    ∙ ap (λ xs. c.args.rows.now ++ xs) (sym (passed_first (visible c.args.version) c.args.shard.now i c.args.n (omega (arith, left, none))))

pub loop-i-preserved : goal.loop-i-preserved
loop-i-preserved c =
    let old = c.args.rows.now in
    let row = c.row-row.result in
    let passed = filter (visible c.args.version) (take c.loop-i.i c.args.shard.now) in
    let more = filter-more (visible c.args.version) c.args.shard.now c.loop-i.i row c.row-row.ensures in
    let are = c.loop-i.invariant.are in
    let left = c.loop-i.invariant.left in
    elim c.if-visible.branch [
      | then-visible+in_ok-push w ↦
          (let next = more ∙ ap {B = List Row} (λ b. passed ++ cond b (row ∷ []) []) (sym c.visible.ensures ∙ w.if-visible.true) in
          let longer = ap length next ∙ length-append passed (row ∷ []) in
          let is = w.left-is in
          let some = c.if-left-eq0.false in
          record {
            are = w.rows-is ∙ w.in_ok-push.ensures.ok ∙ ap (λ xs. xs ++ row ∷ []) are ∙ append_assoc old passed (row ∷ []) ∙ ap (λ xs. old ++ xs) (sym next);
            left = omega (arith, longer, left, is, some);
          })
      | else-visible w ↦
          (let next = more ∙ ap {B = List Row} (λ b. passed ++ cond b (row ∷ []) []) (sym c.visible.ensures ∙ w.if-visible.false) ∙ append-nil passed in
          let longer = ap length next in
          let is = w.left-is in
          record {
            are = w.rows-is ∙ are ∙ ap (λ xs. old ++ xs) (sym next);
            left = omega (arith, longer, left, is);
          })
    ]
