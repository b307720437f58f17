use Rattle.std.proofs.Common.{◌∷◌, ap, sym, ◌∙◌, map, refl, string_bytes}
use Rattle.std.proofs.lemmas.Bool.{false≢true}
use Rattle.dl_run.specs.Options.OptionThen.{apart, joined}
use Rattle.dl_run.proofs.OptionLemmas.{no_joined}
use Rattle.dl_run.proofs.words.option_then.Goals as goal

pub returns-then-is_text : goal.returns-then-is_text
returns-then-is_text c =
    apart {word = c.as_str.result.now}
    (ap (map string_bytes) c.in-Some.ensures.cases.0
    ∙ (λ i. (sym c.as_str-first.ensures.value ∙ c.if-is_text.ensures.0 refl) i ∷ map string_bytes (c.in_ok-word.ensures.cases.0 i))
    ∙ ap (λ w. c.args.option.now ∷ w ∷ map string_bytes c.in_ok-word.rest.now) (sym c.as_str.ensures.value))
    c.in_ok-number.ensures refl

pub returns-in_err-number-2 : goal.returns-in_err-number-2
returns-in_err-number-2 c = rw c.from_residual-in_err-number-2.ensures
    (no_joined c.as_str-first.result.now _ (map string_bytes c.in-Some.rest.now)
    (ap (map string_bytes) c.in-Some.ensures.cases.0 ∙ ap (λ w. w ∷ map string_bytes c.in-Some.rest.now) (sym c.as_str-first.ensures.value))
    (λ same. false≢true (c.if-is_text.ensures.1 same))
    c.in_err-number-2.ensures)

pub returns : goal.returns
returns c =
    joined {word = c.in_ok-number-2.ensures.0}
    (ap (map string_bytes) c.in-Some.ensures.cases.0
    ∙ ap (λ w. w ∷ map string_bytes c.in-Some.rest.now) (sym c.as_str-first.ensures.value ∙ c.in_ok-number-2.ensures.1))
    c.in_ok-number-2.ensures.2 refl
