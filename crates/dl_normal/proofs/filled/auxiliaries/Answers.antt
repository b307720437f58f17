use Rattle.std.proofs.Common.{◌++◌, ◌∙◌, ap, sym, subst, length, filter_map}
use Rattle.std.proofs.lemmas.List.{take_all}
use Rattle.dl_normal.specs.Filled.{filled, parts_of, filled_pairs, HasDistinct}
use Rattle.dl_normal.proofs.FilledLemmas.{filled_pairs-more, pair_equal, HasDistinct-pairs}
use Rattle.dl_normal.proofs.filled.auxiliaries.Goals as goal

pub loop-axiom-preserved : goal.loop-axiom-preserved
loop-axiom-preserved c =
    c.in_ok-push_filled.ensures ∙ ap (λ l. l ++ filter_map filled (parts_of c.axiom-item.result)) c.loop-axiom.invariant
    ∙ sym (filled_pairs-more c.args.axioms.now c.loop-axiom.axiom-index c.axiom-item.result c.loop-axiom-test.true c.axiom-item.is)

pub set_of-requires : goal.set_of-requires
set_of-requires c = λ x y e. pair_equal x y e

pub returns : goal.returns
returns c =
    let axioms = c.args.axioms.now in
    subst (HasDistinct (filled_pairs axioms)) (sym c.len-2.ensures)
    (subst (λ items. HasDistinct items (length c.set_of.result))
    (c.loop-axiom.invariant ∙ ap filled_pairs (take_all c.loop-axiom.axiom-index axioms c.loop-axiom-test.false))
    (HasDistinct-pairs c.set_of.result c.loop-axiom.pairs c.set_of.ensures))
