use Rattle.std.proofs.Common.{◌≡◌, ◌∷◌, ◌++◌, Some, None, ap, sym, ◌∙◌, arith}
use Rattle.std.proofs.lemmas.List.{append_cancel_left}
use Rattle.std.proofs.lemmas.Str.Pattern.{strip_prefix_char}
use Rattle.dl_run.proofs.WordLemmas.{joined_read}
use Rattle.dl_run.proofs.words.joined_number.Goals as goal

pub returns-in_err-digits : goal.returns-in_err-digits
returns-in_err-digits c =
    let behind = c.in_ok-behind.behind.now in
    let front : c.args.word.now ≡ c.args.option.now ++ behind =
    c.in_ok-behind.ensures.cases.1.1 ∙ ap (λ l. c.args.option.now ++ l) (sym c.in_ok-behind.ensures.cases.2) in
    let none = strip_prefix_char 61 behind None c.in_err-digits.ensures.cases (omega arith) in
    rw c.from_residual-in_err-digits.ensures
    (λ digits number is spelled. none digits (append_cancel_left c.args.option.now behind (61 ∷ digits) (sym front ∙ is)))

pub returns : goal.returns
returns c =
    let behind = c.in_ok-behind.behind.now in
    let front : c.args.word.now ≡ c.args.option.now ++ behind =
    c.in_ok-behind.ensures.cases.1.1 ∙ ap (λ l. c.args.option.now ++ l) (sym c.in_ok-behind.ensures.cases.2) in
    joined_read c.args.word.now c.args.option.now behind c.in_ok-digits.digits.now c.args.most c.number_of.result front
    (strip_prefix_char 61 behind (Some c.in_ok-digits.digits) c.in_ok-digits.ensures.cases (omega arith)) c.number_of.ensures
