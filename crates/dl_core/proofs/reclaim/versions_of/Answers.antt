use Rattle.std.proofs.Common.{◌∷◌, ◌++◌, [], map, take, get_or, sym, ap, ◌∙◌}
use Rattle.std.proofs.lemmas.List.{take_more, map-append}
use Rattle.dl_event.specs.declared.pin.Pin.{Pin}
use Rattle.dl_core.proofs.reclaim.versions_of.Goals as goal

pub loop-pin-preserved : goal.loop-pin-preserved
loop-pin-preserved c =
    let pins = c.args.pins.now in
    let i = c.loop-pin.pin-index in
    let none : Pin = record { stream = 0; version = 0 } in
    c.in_ok-push.ensures.ok ∙ ap (λ vs. vs ++ (get_or pins i none).version ∷ []) c.loop-pin.invariant
    ∙ sym (map-append (λ (p : Pin). p.version) (take i pins) (get_or pins i none ∷ []))
    ∙ sym (ap (map (λ (p : Pin). p.version)) (take_more pins i none c.loop-pin-test.true))
