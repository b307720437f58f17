use Rattle.std.proofs.Common.{refl}
use Rattle.dl_lex.proofs.Tokens.{no_text}
use Rattle.dl_lex.proofs.Quoted.{text_from_rest, rest_from_text}
use Rattle.dl_lex.proofs.scan.text.Goals as goal

pub returns-in_err-end : goal.returns-in_err-end
returns-in_err-end c =
    rw c.from_residual.ensures (no_text c.args.bytes.now c.args.at c.requires.in_bounds c.requires.opens (λ j t. c.in_err-end.ensures j (rest_from_text c.args.bytes.now c.args.at j t)))

pub returns : goal.returns
returns c =
    rw c.found.ensures (record { starts = refl; stands = text_from_rest c.args.bytes.now c.args.at c.in_ok-end.end c.requires.in_bounds c.requires.opens c.in_ok-end.ensures })
