use Rattle.std.proofs.Common.{◌≡◌, ◌+◌, map, min, drop, get_or, ap, ◌∙◌, arith}
use Rattle.std.proofs.lemmas.List.{drop_more}
use Rattle.dl_core.specs.Next.{least}
use Rattle.dl_event.specs.declared.pin.Pin.{Pin}
use Rattle.dl_core.proofs.MaintainedLemmas.{least-step}
use Rattle.dl_core.proofs.maintain.horizon.Goals as goal
use Rattle.dl_core.proofs.maintain.horizon.Goals.{then-pin-least, else-pin-least}

pub loop-pin-preserved : goal.loop-pin-preserved
loop-pin-preserved c =
    let pins = c.args.pins.now in
    let i = c.loop-pin.pin-index in
    let pin = get_or pins i (record { stream = 0; version = 0 }) in
    let rest = map (λ (p : Pin). p.version) (drop (i + 1) pins) in
    let step = c.loop-pin.invariant
    ∙ ap (λ ps. least c.loop-pin.least (map (λ (p : Pin). p.version) ps)) (drop_more pins i (record { stream = 0; version = 0 }) c.loop-pin-test.true)
    ∙ least-step c.loop-pin.least pin.version rest in
    elim c.if-pin-least.branch [
      | then-pin-least w ↦
          (let t = w.if-pin-least.true in
          let is = w.least-is in
          let same : min pin.version c.loop-pin.least ≡ c.if-pin-least.least = omega (arith, t, is) in
          step ∙ ap (λ v. least v rest) same)
      | else-pin-least w ↦
          (let t = w.if-pin-least.false in
          let is = w.least-is in
          let same : min pin.version c.loop-pin.least ≡ c.if-pin-least.least = omega (arith, t, is) in
          step ∙ ap (λ v. least v rest) same)
    ]
