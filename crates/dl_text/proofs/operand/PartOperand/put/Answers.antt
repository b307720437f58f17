use Rattle.std.proofs.Common.{ap, sym, ◌∙◌}
use Rattle.dl_text.specs.AxiomText.{part_text, role_text, class_text}
use Rattle.dl_text.proofs.ConstructLemmas.{some_printed}
use Rattle.dl_io.proofs.PrintLemmas.{prints_as}
use Rattle.dl_text.proofs.operand.PartOperand.put.Goals as goal

pub returns-in-Fill : goal.returns-in-Fill
returns-in-Fill g c =
    let names = c.args.names.now in
    prints_as (some_printed (role_text names c.in-Fill.role) (class_text names c.in-Fill.class) ∙ ap (part_text names) (sym c.in-Fill.is))
    c.print_pieces-in-Fill.ensures
