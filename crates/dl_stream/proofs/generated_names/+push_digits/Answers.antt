use Rattle.std.proofs.Common.{◌∷◌, ◌++◌, [], string_bytes, ap, ◌∙◌, arith}
use Rattle.dl_stream.proofs.GeneratedNameLemmas.{digits-more, digits-none}
use Rattle.dl_stream.proofs.generated_names.+push_digits.Goals as goal

pub returns-in_ok-push : goal.returns-in_ok-push
returns-in_ok-push t c =
    digits-more c.args.width c.args.n (string_bytes c.args.out.now) (string_bytes c.push_digits.new.out) (string_bytes c.push.new.self)
    (omega arith) c.in_ok-push_digits.ensures
    (c.in_ok-push.ensures.bytes ∙ ap (λ l. string_bytes c.push_digits.new.out ++ l) (c.in_ok-push.ensures.ascii (omega arith))
    ∙ ap (λ k. string_bytes c.push_digits.new.out ++ k ∷ []) c.from.ensures)

pub returns-else-width-gt0 : goal.returns-else-width-gt0
returns-else-width-gt0 t c = digits-none c.args.width c.args.n (string_bytes c.args.out.now) (omega arith)
