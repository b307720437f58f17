use Rattle.std.proofs.Common.{sym, subst, ◌∙◌}
use Rattle.std.proofs.Math.Path.{fun_ext}
use Rattle.dl_terms.specs.Sets.{IsSetOf}
use Rattle.bench_facts.proofs.epoch.axiom_set.Goals as goal

pub set_of-requires : goal.set_of-requires
set_of-requires c = λ x y h. c.axioms_are_ordered.ensures.equal x y (sym (c.axioms_are_ordered.ensures.derived x y) ∙ h)

pub returns : goal.returns
returns c =
    subst (λ order. IsSetOf order c.set_of.result c.args.axioms)
    (fun_ext (λ x. fun_ext (λ y. c.axioms_are_ordered.ensures.derived x y)))
    c.set_of.ensures
