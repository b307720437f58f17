use Rattle.std.proofs.Common.{ap, ◌∙◌}
use Rattle.dl_lex.specs.Keywords.{keyword_text}
use Rattle.dl_text.specs.AxiomText.{axiom_keyword, operand_texts, joined}
use Rattle.dl_text.proofs.ConstructLemmas.{construct_printed}
use Rattle.dl_io.proofs.PrintLemmas.{prints_as, prints_failed, prints_then}
use Rattle.dl_text.proofs.axioms.print_axiom.Goals as goal

pub returns-in_err-print_pieces : goal.returns-in_err-print_pieces
returns-in_err-print_pieces g c =
    let stated = c.args.stated.now in
    prints_as (construct_printed (axiom_keyword stated) c.text.result.now (joined (operand_texts c.args.names.now stated)) (c.text.ensures ∙ ap keyword_text c.keyword_of.ensures))
    (prints_failed _ c.from_residual.ensures.0 c.in_err-print_pieces.ensures)

pub returns-in_err-put_operands : goal.returns-in_err-put_operands
returns-in_err-put_operands g c =
    let stated = c.args.stated.now in
    prints_as (construct_printed (axiom_keyword stated) c.text.result.now (joined (operand_texts c.args.names.now stated)) (c.text.ensures ∙ ap keyword_text c.keyword_of.ensures))
    (prints_then c.in_ok-print_pieces.ensures (prints_failed _ c.from_residual-in_err-put_operands.ensures.0 c.in_err-put_operands.ensures))

pub returns : goal.returns
returns g c =
    let stated = c.args.stated.now in
    prints_as (construct_printed (axiom_keyword stated) c.text.result.now (joined (operand_texts c.args.names.now stated)) (c.text.ensures ∙ ap keyword_text c.keyword_of.ensures))
    (prints_then c.in_ok-print_pieces.ensures (prints_then c.in_ok-put_operands.ensures c.print_pieces-2.ensures))
