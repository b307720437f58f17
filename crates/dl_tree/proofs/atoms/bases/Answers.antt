use Rattle.std.proofs.Common.{◌||◌, sym, subst, ap, ◌∙◌}
use Rattle.std.proofs.lemmas.List.{take_all}
use Rattle.dl_reach.specs.Rows.{row_has}
use Rattle.dl_tree.specs.Rows.{TellsRow}
use Rattle.dl_tree.proofs.AskLemmas.{Some, some_none, some_next}
use Rattle.dl_tree.proofs.atoms.bases.Goals as goal

pub loop-m-init : goal.loop-m-init
loop-m-init c =
    some_none c.args.atoms.now c.args.below.now c.args.s c.args.places c.in_ok-found.found.items c.in_ok-found.ensures.wide c.in_ok-found.ensures.none

pub loop-m-preserved : goal.loop-m-preserved
loop-m-preserved c =
    some_next c.args.atoms.now c.args.below.now c.args.s c.args.places c.args.tops.now c.loop-m.m-index 0 c.loop-m.found.items c.in_ok-row.row.items
    c.join.new.row.items c.loop-m-test.true c.loop-m.invariant c.in_ok-row.ensures c.join.ensures.len
    (λ i l. c.join.ensures.bits i l ∙ ap (λ z. row_has c.loop-m.found.items i || row_has z i) c.deref.ensures.value)

pub returns : goal.returns
returns c =
    subst (TellsRow c.args.places _) (sym c.of.ensures)
    (subst (λ l. TellsRow c.args.places (Some c.args.atoms.now c.args.below.now c.args.s c.args.places l) c.loop-m.found.items)
    (take_all c.loop-m.m-index c.args.tops.now c.loop-m-test.false) c.loop-m.invariant)
