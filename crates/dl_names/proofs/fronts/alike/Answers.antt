use Rattle.std.proofs.Common.{◌≡◌, All, Some, take, slice_get, string_bytes, refl, ap, subst, ◌∙◌, arith}
use Rattle.std.proofs.lemmas.List.{take_all}
use Rattle.std.proofs.lemmas.Option.{slice_get_read}
use Rattle.dl_names.proofs.ArrangeLemmas.{alike-more}
use Rattle.dl_names.proofs.fronts.alike.Goals as goal

pub loop-text-preserved : goal.loop-text-preserved
loop-text-preserved c =
    let texts = c.args.texts.now in
    let first = c.as_bytes-first.result.now in
    let at : slice_get texts c.loop-text.text-index ≡ Some c.text-item.result = slice_get_read texts _ c.loop-text.text-index c.text-item.result refl c.loop-text-test.true c.text-item.is in
    alike-more texts c.loop-text.text-index c.text-item.result first c.loop-text.count c.agreed-count.result at c.agreed-count.ensures.few
    (c.agreed-count.ensures.alike ∙ ap (take c.agreed-count.result) c.as_bytes.ensures.value) c.loop-text.invariant

pub returns : goal.returns
returns c =
    let whole : take c.loop-text.text-index c.args.texts.now ≡ c.args.texts.now = take_all c.loop-text.text-index c.args.texts.now (omega (arith, c.loop-text-test.false)) in (
      take c.loop-text.count c.as_bytes-first.result.now,
      subst (All (λ text. take c.loop-text.count (string_bytes text) ≡ take c.loop-text.count c.as_bytes-first.result.now)) whole c.loop-text.invariant,
    )
