use Rattle.std.proofs.Common.{◌∷◌, map, sym, subst, ◌∙◌}
use Rattle.dl_rewrite.specs.Unifiers.{replaced}
use Rattle.dl_rewrite.specs.Steps.{AreMostGeneralUnifier}
use Rattle.dl_rewrite.proofs.UnifiedLemmas.{left_put, name_one, name_apart}
use Rattle.dl_rewrite.proofs.unify.unite.Goals as goal

pub returns-in-Var-clause-one : goal.returns-in-Var-clause-one
returns-in-Var-clause-one c = λ yes n pairs h hx hy.
    subst (AreMostGeneralUnifier n (c.args.pair ∷ pairs)) (sym c.replace.ensures)
    (subst (λ r. AreMostGeneralUnifier n (c.args.pair ∷ pairs) (map (replaced c.in-Var.v r) c.args.to.now)) (sym c.put-other.ensures)
    (left_put n pairs c.args.to.now h c.args.pair.0 c.args.pair.1 hx hy c.in-Var.v (sym c.put-one.ensures ∙ c.in-Var.is)))

pub returns-in-Name-clause-one : goal.returns-in-Name-clause-one
returns-in-Name-clause-one c = λ yes n pairs h hx hy.
    name_one n pairs c.args.to.now c.unite_name.new.to c.unite_name.result h c.args.pair.0 c.args.pair.1 c.put-other.result c.in-Name.name
    (sym c.put-one.ensures ∙ c.in-Name.is) (sym c.put-other.ensures) c.unite_name.ensures.variable c.unite_name.ensures.name hx hy yes

pub returns-in-Name-clause-apart : goal.returns-in-Name-clause-apart
returns-in-Name-clause-apart c = λ no n pairs h.
    name_apart n pairs c.args.to.now c.unite_name.new.to c.unite_name.result h c.args.pair.0 c.args.pair.1 c.put-other.result c.in-Name.name
    (sym c.put-one.ensures ∙ c.in-Name.is) (sym c.put-other.ensures) c.unite_name.ensures.variable c.unite_name.ensures.name no
