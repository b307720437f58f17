use Rattle.std.proofs.Common.{subst}
use Rattle.dl_terms.specs.Sets.{IsSetOf}
use Rattle.dl_hier.proofs.NameLemmas.{few_told, few_counted}
use Rattle.dl_hier.proofs.fit.are_few.Goals as goal

pub returns : goal.returns
returns c =
    few_told c.args.signature.now c.args.normal.now c.set_of-auxiliaries.result (subst (IsSetOf _ c.set_of-auxiliaries.result) c.in_ok-auxiliaries_of.ensures c.set_of-auxiliaries.ensures) _
    (few_counted _ _ _ c.len.result c.len-2.result c.len-3.result c.saturating_add-names.result c.saturating_add.result c.len.ensures c.len-2.ensures
    c.len-3.ensures c.saturating_add-names.ensures c.saturating_add.ensures)
