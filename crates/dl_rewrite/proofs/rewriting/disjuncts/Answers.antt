use Rattle.std.proofs.Common.{◌≡◌, ◌+◌, ◌<◌, ◌^◌, List, length, MatchOption, sym, subst, ◌∙◌, arith}
use Rattle.dl_terms.specs.declared.axiom.Axiom.{Axiom}
use Rattle.dl_terms.specs.declared.role.Role.{Role}
use Rattle.dl_terms.specs.declared.query.Disjunct.{Disjunct}
use Rattle.dl_tree.specs.Masks.{set_of}
use Rattle.dl_tree.specs.Table.{IsTableOf}
use Rattle.dl_rewrite.specs.Shape.{IsShapedFor}
use Rattle.dl_rewrite.specs.Rewriting.{IsDisjunctFor, HasNoDisjunct}
use Rattle.dl_rewrite.proofs.FoundLemmas.{AreFound, AreFound-none, AreFound-skip, AreFound-push, all_found, left_none}
use Rattle.dl_rewrite.proofs.rewriting.disjuncts.Goals.{in-Some+in_ok-push, in_default}
use Rattle.dl_rewrite.proofs.rewriting.disjuncts.Goals as goal

pub loop-set-init : goal.loop-set-init
loop-set-init c = AreFound-none c.args.query.now c.args.variables.now c.args.table.now c.new-found.result c.new-found.ensures

pub loop-set-preserved : goal.loop-set-preserved
loop-set-preserved c =
    let q = c.args.query.now in
    let ex = c.args.variables.now in
    let rows = c.args.table.now in
    let s = c.loop-set.set in
    let none : Type 0 = (axioms : List Axiom) (roles : List Role) → IsTableOf axioms roles q rows → HasNoDisjunct axioms roles q (set_of ex s) in
    let some : Disjunct → Type 0 = λ d. IsShapedFor q d
    × ((axioms : List Axiom) (roles : List Role) → IsTableOf axioms roles q rows → IsDisjunctFor axioms roles q (set_of ex s) d) in
    elim c.match-branch-2.branch [
      | in-Some+in_ok-push w ↦
          let e = c.set_count-set-end.ensures in
          let fits : s < 2 ^ length ex = omega (arith, e, c.loop-set-test.true) in
          let is = subst (λ o. MatchOption o none some) w.in-Some.is c.in_ok-disjunct.ensures in
          AreFound-push q ex rows s c.loop-set.found c.loop-set.invariant w.in-Some.disjunct c.match-branch-2.found fits is.0 is.1
          (w.found-is ∙ w.in_ok-push.ensures.ok)
      | in_default w ↦
          subst (AreFound q ex rows (s + 1)) (sym w.found-is)
          (AreFound-skip q ex rows s c.loop-set.found c.loop-set.invariant
          (left_none c.in_ok-disjunct.field-0 none some c.in_ok-disjunct.ensures w.in_default.not-Some))
    ]

pub returns-clause-rewriting : goal.returns-clause-rewriting
returns-clause-rewriting c = λ axioms roles table.
    let e = c.set_count-set-end.ensures in
    let count : c.loop-set.set ≡ 2 ^ length c.args.variables.now = omega (arith, e, c.loop-set-test.false, c.loop-set.auto.set-end) in
    all_found axioms roles c.args.query.now c.args.variables.now c.requires.variables c.requires.query c.loop-set.set count c.loop-set.found
    (c.loop-set.invariant.told axioms roles table)
