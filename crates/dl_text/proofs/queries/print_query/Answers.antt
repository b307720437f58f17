use Rattle.std.proofs.Common.{ap, length, map, refl}
use Rattle.dl_io.proofs.PrintLemmas.{prints_as, prints_failed, prints_then}
use Rattle.dl_terms.specs.Occurring.{atom_names, query_names}
use Rattle.dl_text.proofs.TextLemmas.{items_below}
use Rattle.dl_text.specs.NameText.{comma_joined}
use Rattle.dl_text.specs.QueryText.{atom_text, variable_text}
use Rattle.dl_text.proofs.queries.print_query.Goals as goal

pub returns-in_err-print_pieces : goal.returns-in_err-print_pieces
returns-in_err-print_pieces g c = prints_failed _ c.from_residual.ensures.0 c.in_err-print_pieces.ensures

pub returns-in_err-put_variables : goal.returns-in_err-put_variables
returns-in_err-put_variables g c =
    prints_then c.in_ok-print_pieces.ensures
    (prints_failed _ c.from_residual-in_err-put_variables.ensures.0 (prints_as (ap (λ vs. comma_joined (map variable_text vs)) c.as_slice.ensures) c.in_err-put_variables.ensures))

pub returns-in_err-print_pieces-2 : goal.returns-in_err-print_pieces-2
returns-in_err-print_pieces-2 g c =
    prints_then c.in_ok-print_pieces.ensures
    (prints_then (prints_as (ap (λ vs. comma_joined (map variable_text vs)) c.as_slice.ensures) c.in_ok-put_variables.ensures)
    (prints_failed (comma_joined (map (atom_text c.args.names.now) c.args.query.now.atoms)) c.from_residual-in_err-print_pieces-2.ensures.0 c.in_err-print_pieces-2.ensures))

pub put_atoms-requires : goal.put_atoms-requires
put_atoms-requires g c =
    items_below atom_names (length c.args.names.now) (query_names c.args.query.now) c.args.query.now.atoms c.as_slice-2.result.now refl
    c.as_slice-2.ensures c.requires

pub returns : goal.returns
returns g c =
    prints_then c.in_ok-print_pieces.ensures
    (prints_then (prints_as (ap (λ vs. comma_joined (map variable_text vs)) c.as_slice.ensures) c.in_ok-put_variables.ensures)
    (prints_then c.in_ok-print_pieces-2.ensures
    (prints_as (ap (λ atoms. comma_joined (map (atom_text c.args.names.now) atoms)) c.as_slice-2.ensures) c.put_atoms.ensures)))
