use Rattle.std.proofs.Common.{◌≤◌, ap, length, arith}
use Rattle.dl_query.specs.Symbols.{is_blank}
use Rattle.dl_query.proofs.ReadingLemmas.{length-behind}
use Rattle.dl_query.proofs.TokenLemmas.{rest-le}
use Rattle.dl_query.proofs.tokens.Tokens.next.Goals as goal

pub invariant_of-self : goal.invariant_of-self
invariant_of-self c =
    let text = c.split.result.1.now in
    let short : length c.first_token.result.1.now ≤ c.args.self.now.len =
    omega (
      arith,
      ap (λ f. length f.rest) c.first_token.ensures,
      rest-le text,
      ap length c.split.ensures.rest,
      length-behind is_blank c.args.self.now.rest.now,
      c.args.self.now.within,
    )
    in
    record { within = short; small = c.args.self.now.small }
