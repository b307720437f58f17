use Rattle.std.proofs.Common.{◌+◌, subst}
use Rattle.dl_lex.specs.Characters.{IsLongestRun, is_lang_character}
use Rattle.dl_lex.proofs.Tokens.{no_lang}
use Rattle.dl_lex.proofs.Ends.{no_lang_at}
use Rattle.dl_lex.proofs.scan.lang.Goals as goal

pub returns-then-end-at : goal.returns-then-end-at
returns-then-end-at c =
    let run = subst (λ n. IsLongestRun is_lang_character c.args.bytes.now (c.args.at + 1) n) c.if-end-at.true c.run_end-end.ensures in
    no_lang c.args.bytes.now c.args.at c.requires.in_bounds c.requires.opens (no_lang_at c.args.bytes.now c.args.at run)
