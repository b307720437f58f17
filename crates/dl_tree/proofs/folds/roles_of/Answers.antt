use Rattle.std.proofs.Common.{subst}
use Rattle.std.specs.Option.{MatchOption}
use Rattle.std.proofs.lemmas.Result.{IfOk-weaker}
use Rattle.dl_terms.specs.Order.{role_cmp}
use Rattle.dl_terms.specs.Queries.{existential_variables}
use Rattle.dl_hier.specs.Predicates.{roles}
use Rattle.dl_hier.specs.Picking.{ArePicked}
use Rattle.dl_tree.specs.Sets.{IsConnected}
use Rattle.dl_tree.specs.Masks.{set_of}
use Rattle.dl_tree.specs.Rows.{HasBit}
use Rattle.dl_tree.specs.Plans.{IsFoldRow}
use Rattle.dl_tree.proofs.TableLemmas.{row_of_fold, row_of_none}
use Rattle.dl_tree.proofs.folds.roles_of.Goals as goal

pub returns-in-Some : goal.returns-in-Some
returns-in-Some c =
    let rs = roles c.args.hier.now.predicates in
    IfOk-weaker c.picked.result _ _ (λ found told axioms q links tests below s next m.
    row_of_fold c.args.hier.now axioms q links tests below s next c.in-Some.bits found
    (subst (λ o. MatchOption o (IsConnected q (set_of (existential_variables q) s) → ⊥) (IsFoldRow axioms q rs s)) c.in-Some.is m)
    (subst (λ z. ArePicked role_cmp z (HasBit c.in-Some.bits) found) c.roles.ensures.roles
    (subst (λ z. ArePicked role_cmp c.roles.result.now (HasBit z) found) c.as_slice.ensures told))) c.picked.ensures

pub returns-in-None : goal.returns-in-None
returns-in-None c = λ axioms q links tests below s next m.
    let rs = roles c.args.hier.now.predicates in
    let not = subst (λ o. MatchOption o (IsConnected q (set_of (existential_variables q) s) → ⊥) (IsFoldRow axioms q rs s)) c.in-None.is m in
    row_of_none axioms rs q s c.new.result c.new.ensures (λ _ all. not all)
