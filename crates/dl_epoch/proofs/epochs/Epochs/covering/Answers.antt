use Rattle.std.proofs.Common.{map, ap, subst, ◌∙◌}
use Rattle.dl_epoch.specs.Covering.{kept, CoversAt}
use Rattle.dl_epoch.proofs.CoveringLemmas.{covered}
use Rattle.dl_epoch.proofs.epochs.Epochs.covering.Goals as goal

pub returns-clause-epoch : goal.returns-clause-epoch
returns-clause-epoch c = λ d.
    covered c.args.self.now c.args.version c.covering_place.result d
    (subst (λ xs. CoversAt xs c.args.version c.covering_place.result) (ap (map kept) c.as_slice.ensures ∙ c.self.view_is) c.covering_place.ensures)
