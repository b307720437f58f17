use Rattle.std.proofs.Common.{◌-◌, length}
use Rattle.dl_lex.specs.Characters.{admits, AreCharacters}
use Rattle.dl_lex.proofs.characters.run_end.Given as goal

abbrev pub invariant-loop-next : goal.invariant-loop-next
invariant-loop-next l = AreCharacters (admits l.class) l.bytes l.from l.at

abbrev pub decreases-loop-next : goal.decreases-loop-next
decreases-loop-next l = length l.bytes - l.at
