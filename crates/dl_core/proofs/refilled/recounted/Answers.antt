use Rattle.std.proofs.Common.{◌∷◌, ◌++◌, [], map, take, get_or, sym, ap, ap₂, subst, ◌∙◌, arith}
use Rattle.std.proofs.lemmas.List.{map-append, take_more, get_or-map, length-map}
use Rattle.std.proofs.lemmas.List.Elements.{All-get_or}
use Rattle.dl_epoch.specs.Covering.{kept}
use Rattle.dl_core.specs.Held.{counting}
use Rattle.dl_core.specs.Maintaining.{recounted, HasThose}
use Rattle.dl_core.proofs.refilled.recounted.Goals as goal

pub rows_then-requires-clause-those : goal.rows_then-requires-clause-those
rows_then-requires-clause-those c =
    let entries = c.args.entries.now in
    let i = c.loop-entry.entry-index in
    let e = c.entry-item.result in
    let h = c.loop-entry-test.true in
    subst (HasThose c.args.gone.now) (get_or-map kept entries i e (kept e) h ∙ ap kept (sym c.entry-item.is))
    (All-get_or (HasThose c.args.gone.now) (map kept entries) i (kept e) (let n = length-map entries kept in omega (arith, n, h)) c.requires.those)

pub loop-entry-preserved : goal.loop-entry-preserved
loop-entry-preserved c =
    let entries = c.args.entries.now in
    let i = c.loop-entry.entry-index in
    let e = c.entry-item.result in
    let again = recounted c.args.gone.now c.args.id c.args.come in
    ap (map kept) c.in_ok-push.ensures.ok ∙ map-append kept c.loop-entry.counted (c.in_ok-counting.field-0 ∷ [])
    ∙ ap₂ (λ ks k. ks ++ k ∷ []) c.loop-entry.invariant
    (c.in_ok-counting.ensures ∙ ap (λ n. counting n (kept e)) c.rows_then.ensures ∙ ap (λ x. again (kept x)) c.entry-item.is)
    ∙ sym (ap (map again) (map-append kept (take i entries) (get_or entries i e ∷ []))
    ∙ map-append again (map kept (take i entries)) (kept (get_or entries i e) ∷ []))
    ∙ sym (ap (λ es. map again (map kept es)) (take_more entries i e c.loop-entry-test.true))
