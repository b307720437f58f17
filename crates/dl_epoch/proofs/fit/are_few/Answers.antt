use Rattle.std.proofs.Common.{refl}
use Rattle.dl_hier.proofs.NameLemmas.{few_counted}
use Rattle.dl_epoch.proofs.FewLemmas.{few_told}
use Rattle.dl_epoch.proofs.fit.are_few.Goals as goal

pub returns : goal.returns
returns c =
    few_told c.args.signature.now c.args.axioms.now c.in_ok-auxiliaries.auxiliaries c.in_ok-auxiliaries.ensures _
    (few_counted _ _ _ c.len-classes.result c.len-roles.result c.in_ok-auxiliaries.auxiliaries c.saturating_add.result
    c.saturating_add-2.result c.len-classes.ensures c.len-roles.ensures refl c.saturating_add.ensures c.saturating_add-2.ensures)
