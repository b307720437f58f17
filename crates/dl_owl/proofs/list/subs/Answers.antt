use Rattle.std.proofs.Common.{[]}
use Rattle.dl_owl.specs.Expected.{subs_close}
use Rattle.dl_owl.specs.Walk.{here}
use Rattle.dl_owl.proofs.CursorLemmas.{exit_reads}
use Rattle.dl_owl.proofs.SeriesLemmas.{reads_all}
use Rattle.dl_owl.proofs.list.subs.Goals as goal

pub returns : goal.returns
returns c =
    reads_all (subs_close 2 []) (here c.args.at.now c.args.prefixes.now c.args.names.now)
    (here c.add_subs.new.at c.args.prefixes.now c.add_subs.new.names) c.new-subs.result c.add_subs.new.subs
    c.new-subs.ensures c.in_ok-add_subs.ensures

pub returns-in_err-add_subs : goal.returns-in_err-add_subs
returns-in_err-add_subs c =
    exit_reads (subs_close 2 []) (here c.args.at.now c.args.prefixes.now c.args.names.now)
    (here c.add_subs.new.at c.args.prefixes.now c.add_subs.new.names) c.from_residual.result
    c.in_err-add_subs.field-0.0 c.from_residual.ensures.1 c.in_err-add_subs.ensures
