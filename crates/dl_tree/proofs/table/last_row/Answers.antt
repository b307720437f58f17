use Rattle.std.proofs.lemmas.Result.{IfOk-weaker}
use Rattle.dl_tree.proofs.table.last_row.Goals as goal

pub returns : goal.returns
returns c =
    IfOk-weaker c.roles_of.result _ _ (λ found told axioms q next.
    told axioms q c.args.links.now c.args.atoms.now c.args.below.now c.args.s next (c.in_ok-row.ensures axioms q next)) c.roles_of.ensures
