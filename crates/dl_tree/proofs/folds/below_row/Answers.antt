use Rattle.std.proofs.Common.{◌≡◌, length, ap, subst}
use Rattle.std.specs.Option.{MatchOption}
use Rattle.std.proofs.lemmas.Result.{IfOk-weaker}
use Rattle.dl_terms.specs.Queries.{existential_variables}
use Rattle.dl_hier.specs.Predicates.{roles}
use Rattle.dl_tree.specs.Sets.{IsConnected}
use Rattle.dl_tree.specs.Masks.{set_of}
use Rattle.dl_tree.specs.Rows.{TellsRow, LeadsTo}
use Rattle.dl_tree.specs.Plans.{FoldsBelowAt, IsFoldRow}
use Rattle.dl_tree.proofs.TableLemmas.{below_connected}
use Rattle.dl_tree.proofs.folds.below_row.Goals as goal

pub returns-in-Some : goal.returns-in-Some
returns-in-Some c =
    let rs = roles c.args.hier.now.predicates in
    IfOk-weaker c.followed.result _ _ (λ found told axioms q tests next m.
    below_connected c.args.hier.now axioms q c.args.links.now tests c.args.below.now c.args.s next c.in-Some.bits found
    (subst (λ o. MatchOption o (IsConnected q (set_of (existential_variables q) c.args.s) → ⊥) (IsFoldRow axioms q rs c.args.s)) c.in-Some.is m)
    (subst (λ z. TellsRow (length rs) (LeadsTo axioms rs z) found) c.as_slice.ensures (told axioms next.plan.hierarchy))) c.followed.ensures

pub returns-in-None : goal.returns-in-None
returns-in-None c =
    let rs = roles c.args.hier.now.predicates in
    let e : length c.roles.result.now ≡ length rs = ap length c.roles.ensures.roles in
    IfOk-weaker c.below_parts.result _ _ (λ found told axioms q tests next m.
    subst (λ n. TellsRow n (FoldsBelowAt axioms q rs c.args.s) found) e
    (told c.args.hier.now axioms q tests e next
    (subst (λ o. MatchOption o (IsConnected q (set_of (existential_variables q) c.args.s) → ⊥) (IsFoldRow axioms q rs c.args.s)) c.in-None.is m)))
    c.below_parts.ensures
