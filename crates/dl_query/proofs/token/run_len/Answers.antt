use Rattle.std.proofs.Common.{◌∙◌, ap, length, not, unwrap_or, arith}
use Rattle.dl_query.specs.Parts.{admits}
use Rattle.dl_query.proofs.TokenLemmas.{position-or_len, position_or_len-le}
use Rattle.dl_query.proofs.token.run_len.Goals as goal

pub returns-clause-value : goal.returns-clause-value
returns-clause-value c =
    c.unwrap_or.ensures ∙ ap (λ o. unwrap_or o (length c.args.bytes.now)) c.run_end.ensures
    ∙ position-or_len (λ b. not (admits c.args.class b)) c.args.bytes.now

pub returns-clause-within : goal.returns-clause-within
returns-clause-within c = omega (arith, returns-clause-value c, position_or_len-le (λ b. not (admits c.args.class b)) c.args.bytes.now)
