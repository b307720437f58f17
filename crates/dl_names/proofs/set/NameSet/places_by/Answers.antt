use Rattle.std.proofs.Common.{◌++◌, ◌∷◌, [], sym, ◌∙◌}
use Rattle.dl_names.specs.NameList.{place_of}
use Rattle.dl_names.proofs.SetLemmas.{map-take_more}
use Rattle.dl_names.proofs.set.NameSet.places_by.Goals as goal

pub loop-index-preserved : goal.loop-index-preserved
loop-index-preserved c =
    c.in_ok-push.ensures ∙ (λ i. c.loop-index.invariant i ++ c.place_by.ensures i ∷ [])
    ∙ sym (map-take_more (λ text. place_of c.args.self.now text.now) c.args.texts.now c.loop-index.index (record { ref_ptr = (0, 0); now = [] }) c.loop-index-test.true)
