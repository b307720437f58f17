use Rattle.std.proofs.Common.{ℕ, ◌<◌, ◌↔◌, List, length, slice_index_or, sym, ap, subst, ◌∙◌}
use Rattle.std.proofs.lemmas.Result.{IfOk-weaker}
use Rattle.dl_terms.specs.declared.axiom.Axiom.{Axiom}
use Rattle.dl_reach.specs.Chain.{Chain}
use Rattle.dl_reach.specs.Digraph.{IsEdge}
use Rattle.dl_hier.specs.Hierarchy.{IsHierarchyOf}
use Rattle.dl_numbers.specs.Numbers.{IsBelow}
use Rattle.dl_numbers.specs.Rule.{IsByRule}
use Rattle.dl_numbers.proofs.ByRuleLemmas.{rule_by_order}
use Rattle.dl_epoch.proofs.NumberingLemmas.{IsRoleBelow}
use Rattle.dl_epoch.proofs.numbers.role_numbers.Goals as goal

pub build-requires-clause-as_many : goal.build-requires-clause-as_many
build-requires-clause-as_many c = ap length c.requires.roles ∙ sym c.in_ok-order.ensures.count

pub returns : goal.returns
returns c =
    let names = c.args.roles.now in
    let order = c.in_ok-order.order in
    IfOk-weaker c.build.result (IsByRule names (IsBelow names order))
    (λ numbered. (axioms : List Axiom) → IsHierarchyOf c.args.hier.now axioms → IsByRule names (IsRoleBelow axioms) numbered)
    (λ numbered is axioms of.
    rule_by_order names c.requires.ascending (IsRoleBelow axioms) order (c.in_ok-order.ensures.count ∙ sym (ap length c.requires.roles))
    (subst (λ ns. (i j : ℕ) → i < length ns → j < length ns
    → Chain (IsEdge order) i j ↔ IsRoleBelow axioms (slice_index_or ns i 0) (slice_index_or ns j 0)) (sym c.requires.roles)
    (c.in_ok-order.ensures.below axioms of)) numbered is)
    c.build.ensures
