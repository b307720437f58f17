use Rattle.std.proofs.Common.{ap, sym, codes, ◌∙◌}
use Rattle.dl_text.specs.AxiomText.{basic_text, role_text}
use Rattle.dl_text.proofs.ConstructLemmas.{some_printed}
use Rattle.dl_io.proofs.PrintLemmas.{prints_as}
use Rattle.dl_text.proofs.operand.BasicOperand.put.Goals as goal

pub returns-in-SomeOf : goal.returns-in-SomeOf
returns-in-SomeOf g c =
    let names = c.args.names.now in
    prints_as (some_printed (role_text names c.in-SomeOf.role) (codes "owl:Thing") ∙ ap (basic_text names) (sym c.in-SomeOf.is))
    c.print_pieces-in-SomeOf.ensures
