use Rattle.std.proofs.Common.{sym, ap, ◌∙◌}
use Rattle.std.specs.Arc.{arc_value}
use Rattle.dl_epoch.specs.Frozen.{Frozen}
use Rattle.dl_epoch.specs.declared.entry.Entry.{Entry}
use Rattle.dl_scan.proofs.EpochLemmas.{Sifts-none, Sifts-all, Sifts-step}
use Rattle.dl_scan.proofs.scan.push_epochs.Goals as goal

pub loop-entry-init : goal.loop-entry-init
loop-entry-init g c = Sifts-none c.args.entries.now c.args.version c.args.shard.now c.args.below.now c.args.sieve.now c.args.pairs.now

pub loop-entry-preserved : goal.loop-entry-preserved
loop-entry-preserved g c =
    let ranges = c.in_ok-ranges.ensures in
    Sifts-step c.args.entries.now c.args.version c.args.shard.now c.args.below.now c.requires c.loop-entry.entry-index c.entry-item.result c.loop-entry-test.true
    c.deref.result.now (ap (λ (x : Entry). arc_value x.epoch) (sym c.entry-item.is) ∙ sym c.deref.ensures) c.in_ok-ranges.ranges ranges.classes ranges.forward ranges.backward
    c.id.result (c.id.ensures.id ∙ ap (λ (f : Frozen). f.id) c.deref-in-loop-entry.ensures ∙ ap (λ (x : Entry). (arc_value x.epoch).id) c.entry-item.is)
    c.args.sieve.now c.args.pairs.now c.loop-entry.pairs c.push_ranges.new.pairs c.loop-entry.invariant c.in_ok-push_ranges.ensures

pub returns : goal.returns
returns g c =
    Sifts-all c.args.entries.now c.args.version c.args.shard.now c.args.below.now c.args.sieve.now c.loop-entry.entry-index c.args.pairs.now c.loop-entry.pairs
    c.loop-entry-test.false c.loop-entry.invariant
