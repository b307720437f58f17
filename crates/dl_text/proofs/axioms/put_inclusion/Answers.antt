use Rattle.std.proofs.Common.{length}
use Rattle.std.specs.List.{flat_map}
use Rattle.dl_terms.specs.Occurring.{basic_names, part_names}
use Rattle.dl_text.specs.AxiomText.{basic_text, parts_text}
use Rattle.dl_text.proofs.TextLemmas.{below_right}
use Rattle.dl_text.proofs.ConstructLemmas.{two_joined}
use Rattle.dl_io.proofs.PrintLemmas.{prints_as, prints_failed, prints_then}
use Rattle.dl_text.proofs.axioms.put_inclusion.Goals as goal

pub put_parts-requires : goal.put_parts-requires
put_parts-requires g c = below_right (length c.args.names.now) (basic_names c.args.sub) (flat_map part_names c.args.sup.now) c.requires

pub returns-in_err-print_pieces : goal.returns-in_err-print_pieces
returns-in_err-print_pieces g c =
    prints_then c.in_ok-put.ensures (prints_failed _ c.from_residual-in_err-print_pieces.ensures.0 c.in_err-print_pieces.ensures)

pub returns : goal.returns
returns g c =
    prints_as (two_joined (basic_text c.args.names.now c.args.sub) (parts_text c.args.names.now c.args.sup.now))
    (prints_then c.in_ok-put.ensures (prints_then c.in_ok-print_pieces.ensures c.put_parts.ensures))
