use Rattle.std.proofs.Common.{[]}
use Rattle.dl_owl.specs.Expected.{roles_close}
use Rattle.dl_owl.specs.Walk.{here}
use Rattle.dl_owl.proofs.CursorLemmas.{exit_reads}
use Rattle.dl_owl.proofs.SeriesLemmas.{reads_all}
use Rattle.dl_owl.proofs.list.roles.Goals as goal

pub returns : goal.returns
returns c =
    reads_all (roles_close 2 []) (here c.args.at.now c.args.prefixes.now c.args.names.now)
    (here c.add_roles.new.at c.args.prefixes.now c.add_roles.new.names) c.new-roles.result c.add_roles.new.roles
    c.new-roles.ensures c.in_ok-add_roles.ensures

pub returns-in_err-add_roles : goal.returns-in_err-add_roles
returns-in_err-add_roles c =
    exit_reads (roles_close 2 []) (here c.args.at.now c.args.prefixes.now c.args.names.now)
    (here c.add_roles.new.at c.args.prefixes.now c.add_roles.new.names) c.from_residual.result
    c.in_err-add_roles.field-0.0 c.from_residual.ensures.1 c.in_err-add_roles.ensures
