use Rattle.std.proofs.Common.{◌==◌, not, filter, sym, ap, ◌∙◌}
use Rattle.dl_core.proofs.PinnedLemmas.{unpinned_sound, unpinned_is}
use Rattle.dl_core.proofs.pins.unpinned.Goals as goal

pub with_pins-requires : goal.with_pins-requires
with_pins-requires c =
    unpinned_sound c.args.root.now c.args.stream c.in-Some.version c.as_slice-2.result.now c.in_ok-pins.pins c.book.ensures.sound
    (c.as_slice-2.ensures ∙ c.book-2.ensures.book.pins) c.in_ok-pins.ensures

pub returns : goal.returns
returns c numbering =
    let same = c.as_slice.ensures ∙ c.book.ensures.book.pins in
    let again = c.as_slice-2.ensures ∙ c.book-2.ensures.book.pins in
    unpinned_is c.args.root.now c.in_ok-root.root c.args.stream c.in-Some.version c.as_slice.result.now c.in_ok-pins.pins same (sym c.in-Some.ensures)
    c.in_ok-root.ensures (c.in_ok-pins.ensures ∙ ap (filter (λ p. not (p.stream == c.args.stream))) (again ∙ sym same))
