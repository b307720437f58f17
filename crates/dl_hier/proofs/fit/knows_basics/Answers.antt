use Rattle.std.proofs.Common.{All, Contains, true≢false, subst, refl, sym, ◌∙◌}
use Rattle.std.proofs.lemmas.List.{take_all}
use Rattle.std.proofs.lemmas.List.Elements.{All-more}
use Rattle.dl_terms.specs.declared.role.Basic.TheVariants.{Class}
use Rattle.dl_hier.specs.Predicates.{basics}
use Rattle.dl_hier.proofs.fit.knows_basics.Goals as goal

pub loop-row-preserved : goal.loop-row-preserved
loop-row-preserved c =
    All-more (λ p. Contains (basics c.args.nodes.now) p.0 × Contains (basics c.args.nodes.now) p.1) c.args.rows.now c.loop-row.row-index (Class 0, Class 0)
    c.loop-row-test.true c.loop-row.invariant (c.knows_both_basics.ensures.0 c.if-not-knows_both_basics.false)

pub returns : goal.returns
returns c = (
  λ _. subst (All (λ p. Contains (basics c.args.nodes.now) p.0 × Contains (basics c.args.nodes.now) p.1))
      (take_all c.loop-row.row-index c.args.rows.now c.loop-row-test.false) c.loop-row.invariant,
  λ _. refl,
)

pub returns-then-not-knows_both_basics : goal.returns-then-not-knows_both_basics
returns-then-not-knows_both_basics c = (
  λ h. absurd (true≢false (sym h)),
  λ all. absurd (true≢false (sym (c.knows_both_basics.ensures.1 (all c.loop-row.row-index (Class 0, Class 0) c.loop-row-test.true)) ∙ c.if-not-knows_both_basics.true)),
)
