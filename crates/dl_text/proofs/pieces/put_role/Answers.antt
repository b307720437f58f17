use Rattle.dl_text.proofs.ConstructLemmas.{inverse_printed}
use Rattle.dl_io.proofs.PrintLemmas.{prints_as, prints_failed, prints_then}
use Rattle.dl_text.proofs.pieces.put_role.Goals as goal

pub returns-in_err-write : goal.returns-in_err-write
returns-in_err-write g c =
    prints_as (inverse_printed c.args.names.now c.args.role c.property_of-property.result c.property_of-property.ensures c.if-role.true)
    (prints_failed _ c.from_residual.ensures.0 c.in_err-write.ensures)

pub returns-in_err-print_name : goal.returns-in_err-print_name
returns-in_err-print_name g c =
    prints_as (inverse_printed c.args.names.now c.args.role c.property_of-property.result c.property_of-property.ensures c.if-role.true)
    (prints_then c.in_ok-write.ensures (prints_failed _ c.from_residual-in_err-print_name.ensures.0 c.in_err-print_name.ensures))

pub returns-then-role : goal.returns-then-role
returns-then-role g c =
    prints_as (inverse_printed c.args.names.now c.args.role c.property_of-property.result c.property_of-property.ensures c.if-role.true)
    (prints_then c.in_ok-write.ensures (prints_then c.in_ok-print_name.ensures c.write-then-role.ensures))
