use Rattle.std.proofs.Common.{◌≡◌, ◌+◌, ◌-◌, ◌∷◌, string_bytes, sym, ◌∙◌}
use Rattle.std.proofs.lemmas.Result.{IfOk-weaker}
use Rattle.dl_stream.specs.Generator.{digits, name_text}
use Rattle.dl_stream.proofs.GeneratedNameLemmas.{class_text, individual_text, role_text}
use Rattle.dl_stream.proofs.generated_names.name_text.Goals as goal

pub returns-then-n-lt32 : goal.returns-then-n-lt32
returns-then-n-lt32 c =
    IfOk-weaker c.lettered.result (λ text. string_bytes text ≡ 99 ∷ digits 2 c.args.n) (λ text. string_bytes text ≡ name_text c.args.size c.args.n)
    (λ text h. h ∙ sym (class_text c.args.size c.args.n c.if-n-lt32.true)) c.lettered.ensures

pub returns-then-n-size : goal.returns-then-n-size
returns-then-n-size c =
    IfOk-weaker c.lettered-then-n-size.result (λ text. string_bytes text ≡ 110 ∷ digits 6 (c.args.n - 32))
    (λ text. string_bytes text ≡ name_text c.args.size c.args.n)
    (λ text h. h ∙ sym (individual_text c.args.size c.args.n c.if-n-lt32.false c.if-n-size.true)) c.lettered-then-n-size.ensures

pub returns-else-n-size : goal.returns-else-n-size
returns-else-n-size c =
    IfOk-weaker c.lettered-else-n-size.result (λ text. string_bytes text ≡ 112 ∷ digits 1 (c.args.n - (32 + c.args.size)))
    (λ text. string_bytes text ≡ name_text c.args.size c.args.n)
    (λ text h. h ∙ sym (role_text c.args.size c.args.n c.if-n-size.false)) c.lettered-else-n-size.ensures
