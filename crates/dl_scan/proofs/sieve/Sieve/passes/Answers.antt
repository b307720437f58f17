use Rattle.std.proofs.Common.{◌≡◌, ◌%◌, true, sym, subst}
use Rattle.dl_scan.specs.Sieves.{passes}
use Rattle.dl_scan.proofs.SieveLemmas.{unmarked}
use Rattle.dl_scan.proofs.sieve.Sieve.passes.Goals as goal

pub returns-in-None : goal.returns-in-None
returns-in-None c =
    subst (λ marks. true ≡ passes marks c.args.name) c.self.view_is
    (sym (unmarked c.self.inside.marks (c.args.name % 65536) c.in-None.ensures))
