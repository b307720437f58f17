use Rattle.std.proofs.Common.{◌+◌, get_or, sym, ap, subst, ◌∙◌}
use Rattle.std.proofs.lemmas.List.{get_or_default}
use Rattle.dl_row.proofs.FindLemmas.{blank}
use Rattle.dl_row.proofs.MergeLemmas.{ArePast, Past-skip, Past-more, Merges-same, Merges-skip, Merges-more, Merges-all, is_a_place, is_no_place}
use Rattle.dl_row.proofs.merge.merged.Goals as goal
use Rattle.dl_row.proofs.merge.merged.Goals.{then-is_place, else-is_place+in_ok-at}

pub loop-i-preserved : goal.loop-i-preserved
loop-i-preserved c =
    let rows = c.args.rows.now in
    let places = c.args.places.now in
    let new = c.args.new.now in
    let i = c.loop-i.i in
    let row = get_or rows i blank in
    let read = get_or_default rows i blank row c.loop-i-test.true in
    elim c.if-is_place.branch [
      | then-is_place w ↦
          (let at = w.if-is_place.ensures.yes in record {
            past = subst (λ p. ArePast places p (i + 1)) (sym w.place-is) (Past-skip places c.loop-i.place i c.requires.places at c.loop-i.invariant.past);
            merges = Merges-same rows places new (i + 1) (ap (λ v. v.items) w.merged-is) w.at-is
                (Merges-skip rows places new i c.loop-i.at row c.loop-i-test.true read c.loop-i.merged.items (is_a_place places c.loop-i.place i at) c.loop-i.invariant.merges);
          })
      | else-is_place+in_ok-at w ↦
          (let at = w.if-is_place.ensures.no in
          let past = Past-more places c.loop-i.place i c.requires.places at c.loop-i.invariant.past in record {
            past = subst (λ p. ArePast places p (i + 1)) (sym w.place-is) past;
            merges = Merges-same rows places new (i + 1) (ap (λ v. v.items) w.merged-is) w.at-is
                (Merges-more rows places new i c.loop-i.at row c.loop-i-test.true read c.loop-i.merged.items w.push_up_to.new.merged.items w.in_ok-at.at c.requires.rows
                (is_no_place places c.loop-i.place i c.loop-i.invariant.past past) w.in_ok-at.ensures.within w.in_ok-at.ensures.written c.loop-i.invariant.merges);
          })
    ]

pub returns : goal.returns
returns c =
    c.in_ok-extend_from_slice.ensures.items
    ∙ Merges-all c.args.rows.now c.args.places.now c.args.new.now c.loop-i.merged.items c.loop-i.i c.loop-i.at c.loop-i-test.false c.requires.new c.loop-i.invariant.merges
