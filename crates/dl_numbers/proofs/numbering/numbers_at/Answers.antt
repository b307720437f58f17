use Rattle.std.proofs.Common.{get_or, refl}
use Rattle.dl_numbers.proofs.BesideLemmas.{filled_more, filled_all}
use Rattle.dl_numbers.proofs.numbering.numbers_at.Goals as goal

pub loop-i-preserved : goal.loop-i-preserved
loop-i-preserved c =
    let places = c.args.places.now in
    let i = c.loop-i.i in
    filled_more places i c.loop-i.numbers.items (get_or places i 0) c.loop-i-test.true refl (c.requires.within i 0 c.loop-i-test.true) c.loop-i.invariant

pub returns : goal.returns
returns c = filled_all c.args.places.now c.loop-i.i c.loop-i.numbers.items c.loop-i-test.false c.loop-i.invariant
