use Rattle.std.proofs.Common.{◌∙◌}
use Rattle.dl_core.proofs.ChangeLemmas.{there_is}
use Rattle.dl_core.proofs.changes.is_there.Goals as goal

pub returns : goal.returns
returns c = c.is_some.ensures
    ∙ there_is c.args.root.now c.book-book.ensures.sound c.requires c.args.fact c.place_of.result c.place_of.ensures
