use Rattle.std.proofs.Common.{◌≡◌, ℕ, ◌<◌, List, length, get_or, ap, sym, ◌∙◌}
use Rattle.std.specs.List.{All}
use Rattle.std.proofs.lemmas.List.{take_all}
use Rattle.std.proofs.lemmas.List.Elements.{All-contains}
use Rattle.dl_terms.specs.Sets.{IsSetOf}
use Rattle.dl_join.specs.Tuples.{tuple_cmp}
use Rattle.dl_join.proofs.MergeLemmas.{tuples_linear}
use Rattle.dl_join.proofs.gather.batch_of.Goals as goal

pub set_of-set-requires : goal.set_of-set-requires
set_of-set-requires c = tuples_linear.equal

member_width : (set fresh : List (List ℕ)) (k width : ℕ) (x : List ℕ) → IsSetOf tuple_cmp set fresh → All (λ t. length t ≡ width) fresh → k < length set
    → x ≡ get_or set k x → length x ≡ width
member_width set fresh k width x is all h e =
    All-contains (λ t. length t ≡ width) fresh x all ((is.members x).0 (k, h, sym e))

pub push-requires : goal.push-requires
push-requires c =
    let at = rw c.as_slice-tuple-items.ensures at c.tuple-item.is in
    let inside = rw c.as_slice-tuple-items.ensures at c.loop-tuple-test.true in
    let width = member_width c.set_of-set.result c.args.fresh c.loop-tuple.tuple-index c.args.width c.tuple-item.result c.set_of-set.ensures c.requires inside at in
    ap length c.as_slice.ensures ∙ (width ∙ sym c.loop-tuple.invariant.width)

pub returns-clause-set : goal.returns-clause-set
returns-clause-set c =
    let whole : c.loop-tuple.batch.tuples ≡ c.set_of-set.result = c.loop-tuple.invariant.tuples ∙ (take_all c.loop-tuple.tuple-index c.as_slice-tuple-items.result.now c.loop-tuple-test.false ∙ c.as_slice-tuple-items.ensures) in
    rw whole c.set_of-set.ensures
