use Rattle.std.proofs.Common.{◌<◌, length, arith, rules}
use Rattle.dl_lex.proofs.Tokens.{skip_nothing, skip_white_space, skip_comment}
use Rattle.dl_lex.proofs.scan.after_blank.Goals as goal

pub returns-then-at-bytes : goal.returns-then-at-bytes
returns-then-at-bytes c = skip_nothing c.args.bytes.now c.args.at c.requires (λ h. absurd (omega arith))

pub returns-then-is_white_space : goal.returns-then-is_white_space
returns-then-is_white_space c = let inside : c.args.at < length c.args.bytes.now = omega arith in skip_white_space c.args.bytes.now c.args.at inside (search rules)

pub returns-then-bytes-at-eq35 : goal.returns-then-bytes-at-eq35
returns-then-bytes-at-eq35 c = let inside : c.args.at < length c.args.bytes.now = omega arith in skip_comment c.args.bytes.now c.args.at c.run_end.result inside (search rules) c.run_end.ensures

pub returns : goal.returns
returns c = skip_nothing c.args.bytes.now c.args.at c.requires (λ h. (search rules, search rules))
