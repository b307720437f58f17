use Rattle.std.proofs.Common.{map}
use Rattle.dl_epoch.specs.Covering.{kept}
use Rattle.dl_scan.specs.Scans.{scan}
use Rattle.dl_scan.proofs.EpochLemmas.{took_sifted}
use Rattle.dl_scan.proofs.scan.AtomScan.take_sifted.Goals as goal

pub returns : goal.returns
returns g c =
    let s = c.self.inside in
    took_sifted c.push_epochs.result (map kept c.entries-entries.result.now) c.args.epochs.now (scan s.below s.version s.pairs) c.args.self.now c.args.shard.now
    c.args.sieve.now c.push_epochs.new.pairs c.entries-entries.ensures.entries c.self.view_is c.push_epochs.ensures
