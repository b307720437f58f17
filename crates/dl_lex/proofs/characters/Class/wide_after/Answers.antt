use Rattle.dl_lex.proofs.Runs.{wide_of_class}
use Rattle.dl_lex.proofs.characters.Class.wide_after.Goals as goal

pub returns-in_default : goal.returns-in_default
returns-in_default c = wide_of_class c.args.self c.args.bytes.now c.args.at c.in_default.not-Lang c.requires.wide c.character_end.result c.character_end.ensures
