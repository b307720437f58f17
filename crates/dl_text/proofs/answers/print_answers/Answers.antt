use Rattle.std.specs.List.{flat_map}
use Rattle.dl_io.proofs.PrintLemmas.{prints_as, prints_failed, prints_then}
use Rattle.dl_text.specs.AnswerText.{tuple_line}
use Rattle.dl_text.proofs.LineLemmas.{count_printed}
use Rattle.dl_text.proofs.answers.print_answers.Goals as goal

pub returns-in_err-print_pieces : goal.returns-in_err-print_pieces
returns-in_err-print_pieces g c =
    prints_as (count_printed c.len.result _ (flat_map (tuple_line c.args.names.now) c.args.tuples.now.tuples) c.len.ensures)
    (prints_failed _ c.from_residual.ensures.0 c.in_err-print_pieces.ensures)

pub returns : goal.returns
returns g c =
    prints_as (count_printed c.len.result _ (flat_map (tuple_line c.args.names.now) c.args.tuples.now.tuples) c.len.ensures)
    (prints_then c.in_ok-print_pieces.ensures c.put_tuples.ensures)
