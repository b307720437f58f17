use Rattle.std.proofs.Common.{arith}
use Rattle.dl_lex.specs.Characters.{admits, IsCharacterAt}
use Rattle.dl_lex.proofs.Runs.{character_moves, AreCharacters-more}
use Rattle.dl_lex.proofs.characters.run_end.Goals as goal

pub loop-next-smaller : goal.loop-next-smaller
loop-next-smaller c =
    let next : IsCharacterAt (admits c.args.class) c.args.bytes.now c.loop-next.at c.in-Some.next = c.in-Some.ensures in
    let moves = character_moves (admits c.args.class) c.args.bytes.now c.loop-next.at c.in-Some.next next in
    let inside = next.stands.in_range in
    omega arith

pub loop-next-preserved : goal.loop-next-preserved
loop-next-preserved c = AreCharacters-more (admits c.args.class) c.args.bytes.now c.args.from c.loop-next.at c.in-Some.next c.loop-next.invariant c.in-Some.ensures
