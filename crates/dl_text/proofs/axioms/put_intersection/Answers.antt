use Rattle.std.proofs.Common.{length, map}
use Rattle.dl_terms.specs.Occurring.{part_names}
use Rattle.dl_text.specs.AxiomText.{joined, part_text}
use Rattle.dl_text.proofs.TextLemmas.{below_each}
use Rattle.dl_text.proofs.ConstructLemmas.{intersection_printed}
use Rattle.dl_io.proofs.PrintLemmas.{prints_as, prints_failed, prints_then}
use Rattle.dl_text.proofs.axioms.put_intersection.Goals as goal

pub put_joined-requires : goal.put_joined-requires
put_joined-requires g c = below_each (length c.args.names.now) part_names c.args.parts.now c.requires

pub returns-in_err-print_pieces : goal.returns-in_err-print_pieces
returns-in_err-print_pieces g c =
    prints_as (intersection_printed (joined (map (part_text c.args.names.now) c.args.parts.now)))
    (prints_failed _ c.from_residual.ensures.0 c.in_err-print_pieces.ensures)

pub returns-in_err-put_joined : goal.returns-in_err-put_joined
returns-in_err-put_joined g c =
    prints_as (intersection_printed (joined (map (part_text c.args.names.now) c.args.parts.now)))
    (prints_then c.in_ok-print_pieces.ensures (prints_failed _ c.from_residual-in_err-put_joined.ensures.0 c.in_err-put_joined.ensures))

pub returns : goal.returns
returns g c =
    prints_as (intersection_printed (joined (map (part_text c.args.names.now) c.args.parts.now)))
    (prints_then c.in_ok-print_pieces.ensures (prints_then c.in_ok-put_joined.ensures c.print_pieces-2.ensures))
