use Rattle.std.proofs.lemmas.Bool.{false≢true}
use Rattle.dl_lex.proofs.Tokens.{no_caret, caret_bytes}
use Rattle.dl_lex.proofs.scan.caret.Goals as goal

pub returns-then-not-has_byte : goal.returns-then-not-has_byte
returns-then-not-has_byte c = no_caret c.args.bytes.now c.args.at c.requires.in_bounds c.requires.caret (λ j t. false≢true (c.if-not-has_byte.ensures.1 (caret_bytes c.args.bytes.now c.args.at j t)))
