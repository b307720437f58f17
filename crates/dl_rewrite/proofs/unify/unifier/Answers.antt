use Rattle.std.proofs.Common.{◌+◌, length, take, refl, sym, ap, subst, ◌∙◌}
use Rattle.dl_rewrite.specs.Steps.{AreMostGeneralUnifier}
use Rattle.dl_rewrite.proofs.UnifiedLemmas.{AreMostGeneralUnifier-none, AreMostGeneralUnifier-next, HaveNoUnifier-next, written_whole}
use Rattle.dl_rewrite.proofs.unify.unifier.Goals as goal

pub loop-pair-init : goal.loop-pair-init
loop-pair-init c = AreMostGeneralUnifier-none c.args.vars c.in_ok-to.to.items c.in_ok-to.ensures

pub returns-then-not-unite : goal.returns-then-not-unite
returns-then-not-unite c =
    let i = c.loop-pair.pair-index in
    let so_far = subst (AreMostGeneralUnifier c.args.vars (take i c.args.pairs.now)) (sym c.as_mut_slice.ensures.value) c.loop-pair.invariant in
    HaveNoUnifier-next c.args.pairs.now i _ c.loop-pair-test.true (c.if-not-unite.ensures.apart refl c.args.vars (take i c.args.pairs.now) so_far)

pub loop-pair-preserved : goal.loop-pair-preserved
loop-pair-preserved c =
    let i = c.loop-pair.pair-index in
    let below = c.requires i _ c.loop-pair-test.true in
    let so_far = subst (AreMostGeneralUnifier c.args.vars (take i c.args.pairs.now)) (sym c.as_mut_slice.ensures.value) c.loop-pair.invariant in
    let h = c.if-not-unite.ensures.one refl c.args.vars (take i c.args.pairs.now) so_far below.0 below.1 in
    let size = ap length (sym c.as_mut_slice.ensures.value) ∙ c.as_mut_slice.ensures.len in
    subst (AreMostGeneralUnifier c.args.vars (take (i + 1) c.args.pairs.now))
    (sym (written_whole c.loop-pair.to.items c.unite.new.to c.loop-pair.to.len (sym size) (h.as_many ∙ sym c.loop-pair.invariant.as_many)))
    (AreMostGeneralUnifier-next c.args.vars c.args.pairs.now i _ c.unite.new.to c.loop-pair-test.true h)
