use Rattle.std.proofs.Common.{◌≡◌, ◌+◌, slice_get, Some, refl, sym, subst, take}
use Rattle.std.proofs.lemmas.Option.{slice_get_read}
use Rattle.dl_names.specs.Arrange.{Entry, IsFronted, ArePlaced}
use Rattle.dl_names.proofs.ArrangeLemmas.{ArePlaced-push}
use Rattle.dl_names.proofs.arrange.placed.Goals as goal

pub loop-place-preserved : goal.loop-place-preserved
loop-place-preserved c =
    let keys = c.args.texts.now.keys in
    let place = c.loop-place.place in
    let at : slice_get keys place ≡ Some c.text-item.result =
    subst (λ l. slice_get l place ≡ Some c.text-item.result) c.as_slice-text-items.ensures.keys (slice_get_read c.as_slice-text-items.result.now _ place c.text-item.result refl c.loop-place-test.true c.text-item.is) in
    let entry : Entry = (c.front.result, c.as_str-text.result, place) in
    subst (λ l. ArePlaced c.alike-skip.result (take (place + 1) keys) l) (sym c.in_ok-push.ensures.items)
    (ArePlaced-push c.alike-skip.result keys c.loop-place.entries.items place c.text-item.result entry at
    (subst (λ t. IsFronted c.alike-skip.result (c.front.result, record { ref_ptr = c.as_str-text.result.ref_ptr; now = t }, place)) c.as_bytes.ensures.value (record { number = c.front.ensures.number; bytes = c.front.ensures.bytes }))
    c.as_str-text.ensures.value refl c.loop-place.invariant)
