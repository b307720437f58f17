use Rattle.std.proofs.Common.{map}
use Rattle.dl_epoch.specs.Covering.{epoch_in}
use Rattle.dl_scan.proofs.EpochLemmas.{took_all}
use Rattle.dl_scan.proofs.scan.AtomScan.take.Goals as goal

pub returns : goal.returns
returns g c =
    took_all c.take_sifted.result (map epoch_in c.args.epochs.now) c.args.shard.now c.all-sieve.result c.args.self.now c.take_sifted.new.self
    c.all-sieve.ensures c.take_sifted.ensures
