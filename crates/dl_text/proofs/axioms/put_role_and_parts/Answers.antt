use Rattle.std.proofs.Common.{length}
use Rattle.std.specs.List.{flat_map}
use Rattle.dl_terms.specs.Occurring.{role_names, part_names}
use Rattle.dl_text.specs.AxiomText.{role_text, parts_text}
use Rattle.dl_text.proofs.TextLemmas.{below_left, below_right, below_same}
use Rattle.dl_text.proofs.ConstructLemmas.{role_spaced}
use Rattle.dl_io.proofs.PrintLemmas.{prints_as, prints_failed, prints_then}
use Rattle.dl_text.proofs.axioms.put_role_and_parts.Goals as goal

pub print_pieces-requires : goal.print_pieces-requires
print_pieces-requires g c =
    let count = length c.args.names.now in
    below_same count (role_names c.args.role) (below_left count (role_names c.args.role) (flat_map part_names c.args.parts.now) c.requires)

pub put_parts-requires : goal.put_parts-requires
put_parts-requires g c = below_right (length c.args.names.now) (role_names c.args.role) (flat_map part_names c.args.parts.now) c.requires

pub returns-in_err-print_pieces : goal.returns-in_err-print_pieces
returns-in_err-print_pieces g c =
    prints_as (role_spaced (role_text c.args.names.now c.args.role) (parts_text c.args.names.now c.args.parts.now))
    (prints_failed _ c.from_residual.ensures.0 c.in_err-print_pieces.ensures)

pub returns : goal.returns
returns g c =
    prints_as (role_spaced (role_text c.args.names.now c.args.role) (parts_text c.args.names.now c.args.parts.now))
    (prints_then c.in_ok-print_pieces.ensures c.put_parts.ensures)
