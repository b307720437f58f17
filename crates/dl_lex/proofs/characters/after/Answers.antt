use Rattle.std.proofs.Common.{sym, rules}
use Rattle.dl_lex.specs.Characters.{admits}
use Rattle.dl_lex.proofs.Runs.{none_at_end, none_at_ascii}
use Rattle.dl_lex.proofs.characters.after.Goals as goal

pub returns-then-at-bytes : goal.returns-then-at-bytes
returns-then-at-bytes c = none_at_end (admits c.args.class) c.args.bytes.now c.args.at c.if-at-bytes.true

pub returns-then-not-admits : goal.returns-then-not-admits
returns-then-not-admits c = none_at_ascii (admits c.args.class) c.args.bytes.now c.args.at (search rules) c.if-byte-ge128.false (sym c.if-not-admits.ensures)
