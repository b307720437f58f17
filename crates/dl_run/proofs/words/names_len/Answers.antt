use Rattle.std.proofs.Common.{◌∙◌, ap, length, string_bytes, unwrap_or, arith}
use Rattle.dl_run.proofs.OptionLemmas.{names_len_is, names_len-le}
use Rattle.dl_run.proofs.words.names_len.Goals as goal

pub returns-clause-value : goal.returns-clause-value
returns-clause-value c =
    c.unwrap_or.ensures ∙ ap (λ o. unwrap_or o (length c.args.words.now)) c.names_end.ensures ∙ names_len_is string_bytes c.args.words.now

pub returns-clause-within : goal.returns-clause-within
returns-clause-within c = omega (arith, returns-clause-value c, names_len-le string_bytes c.args.words.now)
