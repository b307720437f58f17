use Rattle.std.proofs.Common.{◌≡◌, ◌++◌, [], ◌∷◌, None, sym, ap, ◌∙◌}
use Rattle.dl_core.specs.Root.{pin_in}
use Rattle.dl_core.proofs.PinnedLemmas.{pinned_sound}
use Rattle.dl_core.proofs.pins.pinned.Goals as goal

pub with_pins-requires : goal.with_pins-requires
with_pins-requires c =
    let root = c.args.root.now in
    let stream = c.args.stream in
    let old = c.as_slice.result.now in
    let same = c.as_slice.ensures ∙ c.book-2.ensures.book.pins in
    let again = c.as_slice-2.ensures ∙ c.book-3.ensures.book.pins in
    let version = c.book.result.now.version in
    let none : pin_in old stream ≡ None = sym c.pin_in.ensures ∙ c.in_default.is in
    pinned_sound root stream version old c.push.new.self c.book.ensures.sound none same c.book.ensures.book.version
    (c.in_ok-push.ensures.ok ∙ ap (λ pins. pins ++ record { stream = stream; version = version } ∷ []) (c.in_ok-pins.ensures ∙ again ∙ sym same))
