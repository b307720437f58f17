use Rattle.std.proofs.Common.{sym, subst}
use Rattle.std.proofs.lemmas.List.Elements.{All-set}
use Rattle.dl_answer.specs.Probes.{HoldAlike}
use Rattle.dl_answer.specs.Kept.{IsSlotKept}
use Rattle.dl_answer.proofs.slots.KeptLists.keep.Goals as goal

pub returns-in_err-make_room : goal.returns-in_err-make_room
returns-in_err-make_room c = λ axioms facts all is. c.make_room.ensures axioms facts (c.empty.ensures.kept axioms facts all)

pub returns-then-weight-self : goal.returns-then-weight-self
returns-then-weight-self c = λ axioms facts all is. c.make_room.ensures axioms facts (c.empty.ensures.kept axioms facts all)

pub returns-in_err-probe : goal.returns-in_err-probe
returns-in_err-probe c = λ axioms facts all is. c.make_room.ensures axioms facts (c.empty.ensures.kept axioms facts all)

pub returns : goal.returns
returns c = λ axioms facts all is.
    All-set (IsSlotKept axioms facts) c.make_room.new.self.slots.items c.slot_of-slot.result _
    (subst (λ p. HoldAlike axioms facts p c.args.pairs) (sym c.in_ok-probe.ensures) is)
    (c.make_room.ensures axioms facts (c.empty.ensures.kept axioms facts all))
