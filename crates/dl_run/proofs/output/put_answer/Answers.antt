use Rattle.std.proofs.Common.{length, ap, refl}
use Rattle.dl_run.specs.Output.{answer_names}
use Rattle.dl_text.proofs.TextLemmas.{items_below}
use Rattle.dl_run.proofs.output.put_answer.Goals as goal

pub print_answers-requires : goal.print_answers-requires
print_answers-requires g c =
    items_below (λ tuple. tuple) (length c.args.names.now) (answer_names c.args.answer.now) c.in-Found.tuples.tuples c.in-Found.tuples.tuples
    (ap answer_names c.in-Found.is) refl c.requires
