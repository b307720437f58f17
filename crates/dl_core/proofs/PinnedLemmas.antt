-- Roots with a pin more or less stand for the history with that event.
use Rattle.std.proofs.Common.{◌≡◌, ℕ, List, [], ◌∷◌, ◌++◌, not, ◌==◌, filter, Some, None, refl, sym, ap, subst, ◌∙◌}
use Rattle.dl_core.specs.History.{Entry}
use Rattle.dl_core.specs.Root.{Root, pin_in}
use Rattle.dl_core.specs.Next.{with_pins, unpinned}
use Rattle.dl_core.specs.Held.{IsSound}
use Rattle.dl_event.specs.declared.pin.Pin.{Pin}
use Rattle.dl_event.specs.declared.event.Event.TheVariants as event
use Rattle.dl_event.specs.declared.reply.Reply.TheVariants as reply
use Rattle.dl_core.proofs.PinLemmas.{pinned_keeps, unpinned_keeps}

pub pinned_sound : (root : Root) (stream version : ℕ) (old pins : List Pin) → IsSound root → pin_in old stream ≡ None → old ≡ root.pins → version ≡ root.version
    → pins ≡ old ++ record { stream = stream; version = version } ∷ [] → IsSound (with_pins root pins)
pinned_sound root stream version old pins sound none same now are =
    subst (λ ps. IsSound (with_pins root ps)) (sym (are ∙ ap (λ ps. ps ++ record { stream = stream; version = version } ∷ []) same
    ∙ ap (λ v. root.pins ++ record { stream = stream; version = v } ∷ []) now)) (record {
      load = sound.load;
      history = sound.history ++ entry ∷ [];
      stands = pinned_keeps sound.load sound.history entry refl root refl (ap (λ ps. pin_in ps stream) (sym same) ∙ none) sound.stands;
    })
  where
    entry : Entry
    entry = record { stream = stream; event = event.Pin; reply = reply.Pinned root.version }

pub unpinned_sound : (root : Root) (stream version : ℕ) (old pins : List Pin) → IsSound root → old ≡ root.pins → pins ≡ filter (λ p. not (p.stream == stream)) old
    → IsSound (with_pins root pins)
unpinned_sound root stream version old pins sound same are =
    subst (λ ps. IsSound (with_pins root ps)) (sym (are ∙ ap (filter (λ p. not (p.stream == stream))) same)) (record {
      load = sound.load;
      history = sound.history ++ entry ∷ [];
      stands = unpinned_keeps sound.load sound.history entry refl root version refl sound.stands;
    })
  where
    entry : Entry
    entry = record { stream = stream; event = event.Unpin; reply = reply.Unpinned version }

-- what Unpin gives where there is a pin
pub unpinned_is : (root after : Root) (stream version : ℕ) (old pins : List Pin) → old ≡ root.pins → pin_in old stream ≡ Some version
    → after ≡ with_pins root pins → pins ≡ filter (λ p. not (p.stream == stream)) old → (after, reply.Unpinned version) ≡ unpinned root stream (pin_in root.pins stream)
unpinned_is root after stream version old pins same has is are =
    ap (λ r. (r, reply.Unpinned version)) (is ∙ ap (with_pins root) (are ∙ ap (filter (λ p. not (p.stream == stream))) same))
    ∙ sym (ap (unpinned root stream) (ap (λ ps. pin_in ps stream) (sym same) ∙ has))
