use Rattle.dl_owl.specs.Expected.{sup_then}
use Rattle.dl_owl.specs.Walk.{here}
use Rattle.dl_owl.proofs.CursorLemmas.{exit_reads}
use Rattle.dl_owl.proofs.SeriesLemmas.{reads_all}
use Rattle.dl_owl.proofs.right.sup.Goals as goal

pub returns : goal.returns
returns c =
    reads_all sup_then (here c.args.at.now c.args.prefixes.now c.args.names.now)
    (here c.add_parts.new.at c.args.prefixes.now c.add_parts.new.names) c.new-parts.result
    c.add_parts.new.parts c.new-parts.ensures c.in_ok-add_parts.ensures

pub returns-in_err-add_parts : goal.returns-in_err-add_parts
returns-in_err-add_parts c =
    exit_reads sup_then (here c.args.at.now c.args.prefixes.now c.args.names.now)
    (here c.add_parts.new.at c.args.prefixes.now c.add_parts.new.names) c.from_residual.result
    c.in_err-add_parts.field-0.0 c.from_residual.ensures.1 c.in_err-add_parts.ensures
