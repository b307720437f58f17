use Rattle.std.proofs.Common.{◌≡◌, Ok, Err}
use Rattle.std.specs.Str.Parse.{digits_value}
use Rattle.dl_run.proofs.WordLemmas.{number_read}
use Rattle.dl_run.proofs.words.number_of.Goals as goal

pub returns-in_default : goal.returns-in_default
returns-in_default c = λ number is.
    let read : Err c.in_default.field-0 ≡ Ok (digits_value 10 c.args.word.now) =
    number_read c.args.word.now _ c.in_default.ensures.value.0 is.digits is.some is.few in
    absurd (cc)
