use Rattle.std.proofs.Common.{◌≡◌, ◌∙◌, inl, inr, get_or, refl, sym, subst, take, true≢false}
use Rattle.std.specs.List.{Any, Contains}
use Rattle.std.proofs.lemmas.List.{get_or_default, take_more, take_all}
use Rattle.std.proofs.lemmas.List.Elements.{Contains-push_cases}
use Rattle.dl_terms.specs.declared.query.Term.TheVariants.{Var, Name}
use Rattle.dl_join.specs.Disjuncts.{HasVariable}
use Rattle.dl_join.proofs.safe.is_safe.Goals as goal
use Rattle.dl_join.proofs.safe.is_safe.Goals.{in-Var+else-not-some_has, in_default}

pub returns-then-not-some_has : goal.returns-then-not-some_has
returns-then-not-some_has c = (
  λ e. absurd (true≢false (sym e)),
  λ safe.
      let k = c.loop-term.term-index in
      let lt = rw c.as_slice-term-items.ensures at c.loop-term-test.true in
      let is = rw c.as_slice-term-items.ensures at c.in-Var.is in
      let there : Contains c.args.disjunct.now.head (Var c.in-Var.v) = (k, lt, get_or_default c.args.disjunct.now.head k (Var c.in-Var.v) _ lt ∙ is) in
      let any = safe c.in-Var.v there in
      let found = c.some_has.ensures.1 (rw c.as_slice.ensures any) in
      let missed = c.if-not-some_has.true in
      absurd (true≢false (sym found ∙ missed)),
)

pub loop-term-preserved : goal.loop-term-preserved
loop-term-preserved c = λ u w.
    let items = c.as_slice-term-items.result.now in
    let k = c.loop-term.term-index in
    elim (Contains-push_cases (take k items) (get_or items k (Name 0)) (Var u) (rw (take_more items k (Name 0) c.loop-term-test.true) at w)) [
      | inl old ↦ c.loop-term.invariant u old
      | inr same ↦ elim c.match-term.branch [
        | in-Var+else-not-some_has a ↦
            (let found = a.if-not-some_has.false in
            let any = rw a.as_slice.ensures at a.some_has.ensures.0 found in
            let v_is_u : a.in-Var.v ≡ u = cc (a.in-Var.is, get_or_default items k (Name 0) _ c.loop-term-test.true, same) in
            subst (λ x. Any (HasVariable x) c.args.disjunct.now.probes) v_is_u any)
        | in_default a ↦ absurd (a.in_default.not-Var u (get_or_default items k _ (Name 0) c.loop-term-test.true ∙ same))
      ]
    ]

pub returns : goal.returns
returns c = (
  λ e v w. c.loop-term.invariant v (rw (take_all c.loop-term.term-index c.as_slice-term-items.result.now c.loop-term-test.false, c.as_slice-term-items.ensures) w),
  λ safe. refl,
)
