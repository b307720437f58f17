use Rattle.std.proofs.Common.{◌+◌, take, get_or, subst}
use Rattle.std.specs.List.{Contains}
use Rattle.dl_models.specs.Meaning.{GivesHead}
use Rattle.dl_models.specs.Structures.{finite}
use Rattle.dl_models.specs.Values.{AddsOrNot}
use Rattle.dl_models.proofs.ValueLemmas.{adds-true, adds-false, adds-more, adds-not, adds-same, head-last, head-part, head-whole}
use Rattle.dl_models.proofs.values.bind_head.Goals as goal

pub returns-then-not-branch : goal.returns-then-not-branch
returns-then-not-branch c =
    adds-not (λ m. GivesHead (finite c.args.model.now) m (take c.loop-i.i c.args.head.now) (take c.loop-i.i c.args.tuple.now)) (λ m. Contains c.args.model.now.names (get_or c.args.tuple.now c.loop-i.i 0, m (get_or c.args.head.now c.loop-i.i 0))) (λ m. GivesHead (finite c.args.model.now) m c.args.head.now c.args.tuple.now)
    c.args.values.now.items c.loop-i.values.items c.loop-i.invariant
    (adds-false (λ m. Contains c.args.model.now.names (get_or c.args.tuple.now c.loop-i.i 0, m (get_or c.args.head.now c.loop-i.i 0))) c.loop-i.values.items c.bind_name.new.values.items c.in_ok-bind_name.field-0
    (subst (λ v. AddsOrNot (λ m. Contains c.args.model.now.names (get_or c.args.tuple.now c.loop-i.i 0, m v)) c.loop-i.values.items c.bind_name.new.values.items c.in_ok-bind_name.field-0)
    c.from.ensures c.in_ok-bind_name.ensures) c.if-not-branch.true)
    (λ m. head-part (finite c.args.model.now) m c.args.head.now c.args.tuple.now c.loop-i.i c.requires.long c.loop-i-test.true)

pub loop-i-preserved : goal.loop-i-preserved
loop-i-preserved c =
    adds-more (λ m. GivesHead (finite c.args.model.now) m (take c.loop-i.i c.args.head.now) (take c.loop-i.i c.args.tuple.now)) (λ m. Contains c.args.model.now.names (get_or c.args.tuple.now c.loop-i.i 0, m (get_or c.args.head.now c.loop-i.i 0)))
    (λ m. GivesHead (finite c.args.model.now) m (take (c.loop-i.i + 1) c.args.head.now) (take (c.loop-i.i + 1) c.args.tuple.now)) c.args.values.now.items c.loop-i.values.items c.bind_name.new.values.items c.loop-i.invariant
    (adds-true (λ m. Contains c.args.model.now.names (get_or c.args.tuple.now c.loop-i.i 0, m (get_or c.args.head.now c.loop-i.i 0))) c.loop-i.values.items c.bind_name.new.values.items c.in_ok-bind_name.field-0
    (subst (λ v. AddsOrNot (λ m. Contains c.args.model.now.names (get_or c.args.tuple.now c.loop-i.i 0, m v)) c.loop-i.values.items c.bind_name.new.values.items c.in_ok-bind_name.field-0)
    c.from.ensures c.in_ok-bind_name.ensures) c.if-not-branch.false)
    (λ m. head-last (finite c.args.model.now) m c.args.head.now c.args.tuple.now c.loop-i.i c.requires.long c.loop-i-test.true)

pub returns : goal.returns
returns c =
    adds-same (λ m. GivesHead (finite c.args.model.now) m (take c.loop-i.i c.args.head.now) (take c.loop-i.i c.args.tuple.now)) (λ m. GivesHead (finite c.args.model.now) m c.args.head.now c.args.tuple.now) c.args.values.now.items c.loop-i.values.items
    (λ m. head-whole (finite c.args.model.now) m c.args.head.now c.args.tuple.now c.loop-i.i c.requires.long c.loop-i-test.false) c.loop-i.invariant
