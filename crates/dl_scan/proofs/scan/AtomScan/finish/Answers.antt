use Rattle.std.proofs.Common.{subst}
use Rattle.dl_terms.specs.Sets.{IsSetOf}
use Rattle.dl_terms.specs.Order.{pair_cmp}
use Rattle.dl_scan.specs.Scans.{Scan}
use Rattle.dl_scan.proofs.scan.AtomScan.finish.Goals as goal

pub returns : goal.returns
returns c = subst (λ (s : Scan). IsSetOf pair_cmp c.in_ok-set_of_runs.field-0 s.pairs) c.self.view_is c.in_ok-set_of_runs.ensures
