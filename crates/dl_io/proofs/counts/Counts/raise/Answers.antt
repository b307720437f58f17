use Rattle.std.proofs.Common.{ap, ◌∙◌, slice_set}
use Rattle.dl_io.specs.Shared.{raised_at, raised_for}
use Rattle.dl_io.proofs.counts.Counts.raise.Goals as goal

pub returns-clause-raised : goal.returns-clause-raised
returns-clause-raised g =
    ap (λ count. slice_set g.self.inside.counts g.checksum-at.result count) g.saturating_add.ensures
    ∙ ap (raised_at g.self.inside.counts) g.checksum-at.ensures
    ∙ ap (raised_for g.args.name.now) g.self.view_is
