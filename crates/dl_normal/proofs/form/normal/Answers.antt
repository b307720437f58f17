use Rattle.std.proofs.Common.{◌∙◌, map, slice_get, ap}
use Rattle.std.proofs.lemmas.List.{take_all}
use Rattle.dl_normal.specs.Indexed.{negatives_by_index}
use Rattle.dl_normal.proofs.FormLemmas.{IsNormalForm-more, negatives-beside}
use Rattle.dl_normal.proofs.form.normal.Goals as goal

pub loop-index-preserved : goal.loop-index-preserved
loop-index-preserved c =
    IsNormalForm-more c.args.axioms.now c.loop-index.index c.index-axioms-index.result c.loop-index.normal c.push_axiom.new.normal c.loop-index-test.true
    c.index-axioms-index.is c.loop-index.invariant c.in_ok-push_axiom.ensures

pub returns-clause-beside : goal.returns-clause-beside
returns-clause-beside c =
    let axioms = c.args.axioms.now in
    ap (map (λ p. (slice_get axioms p.0, p.1)))
    (c.loop-index.invariant.negatives ∙ ap negatives_by_index (take_all c.loop-index.index axioms c.loop-index-test.false)) ∙ negatives-beside axioms
