use Rattle.std.proofs.Common.{◌∙◌, ◌++◌, ◌∷◌, [], ap}
use Rattle.dl_query.proofs.BodyLemmas.{AreNumbers-adds}
use Rattle.dl_query.proofs.head.add.Goals as goal

pub returns-clause-numbers : goal.returns-clause-numbers
returns-clause-numbers c =
    AreNumbers-adds c.args.head.now.items c.push.new.self.items c.args.variables.now c.number.new.self c.args.name.now c.requires
    (record { met = c.in_ok-number.ensures.met; added = c.in_ok-push.ensures.items ∙ ap (λ n. c.args.head.now.items ++ n ∷ []) c.in_ok-number.ensures.number })
