use Rattle.std.proofs.Common.{◌≡◌, true, bit_and, sym, subst, w8, arith}
use Rattle.std.specs.Int.{bit_not}
use Rattle.std.proofs.lemmas.Result.{IfOk-weaker}
use Rattle.dl_terms.specs.Queries.{existential_variables}
use Rattle.dl_hier.specs.Predicates.{roles}
use Rattle.dl_tree.specs.Sets.{IsConnected}
use Rattle.dl_tree.specs.Masks.{set_of}
use Rattle.dl_tree.specs.Tests.{column}
use Rattle.dl_tree.specs.Rows.{TellsRow}
use Rattle.dl_tree.specs.Plans.{FoldsBelowAt}
use Rattle.dl_tree.proofs.NumberingLemmas.{numbering}
use Rattle.dl_tree.proofs.TableLemmas.{below_none, below_parts}
use Rattle.dl_tree.proofs.folds.below_parts.Goals as goal

pub returns-then-s-eq0 : goal.returns-then-s-eq0
returns-then-s-eq0 c =
    IfOk-weaker c.full.result _ _ (λ found told h axioms q tests e next not.
    subst (λ n. TellsRow n (FoldsBelowAt axioms q (roles h.predicates) c.args.s) found) (sym e)
    (below_none h axioms q c.args.links.now tests c.args.below.now c.args.s next c.if-s-eq0.true found
    (subst (λ n. TellsRow n (λ _. true ≡ true) found) e told))) c.full.ensures

pub returns : goal.returns
returns c =
    let part = c.part_of-part.result in
    IfOk-weaker c.both.result _ _ (λ found told h axioms q tests e next not.
    let ex = existential_variables q in
    let z = c.if-s-eq0.false in
    let p = c.part_of-part.ensures q ex next.plan.masks (numbering q) next.plan.few (omega (arith, z)) next.fits in
    subst (λ n. TellsRow n (FoldsBelowAt axioms q (roles h.predicates) c.args.s) found) (sym e)
    (below_parts h axioms q c.args.links.now tests c.args.below.now c.args.s next part p.2 p.0 p.1
    (λ same. not (subst (λ n. IsConnected q (set_of ex n)) same p.0)) found
    (subst (λ n. TellsRow n (λ i. (column c.args.below.now i part ≡ true)
    × (column c.args.below.now i (bit_and c.args.s (bit_not w8 part)) ≡ true)) found) e told))) c.both.ensures
