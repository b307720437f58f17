use Rattle.std.proofs.Common.{◌≤◌, arith}
use Rattle.dl_rewrite.proofs.PartsLemmas.{AreTaken-push, AreTaken-all, fewer}
use Rattle.dl_rewrite.proofs.parts.parts_of.Goals as goal

pub loop-rest-smaller : goal.loop-rest-smaller
loop-rest-smaller c =
    let h = c.loop-rest.invariant in
    let some : 1 ≤ c.loop-rest.rest = omega (arith, c.loop-rest-test.true) in
    let p = c.part_of-part.ensures c.args.query.now c.args.variables.now c.requires.masks c.requires.numbering c.requires.few some h.fits in
    fewer c.args.query.now c.args.variables.now c.args.set c.loop-rest.rest c.part_of-part.result c.requires.few h.fits p.2 p.0 p.1

pub loop-rest-preserved : goal.loop-rest-preserved
loop-rest-preserved c =
    let h = c.loop-rest.invariant in
    let some : 1 ≤ c.loop-rest.rest = omega (arith, c.loop-rest-test.true) in
    let p = c.part_of-part.ensures c.args.query.now c.args.variables.now c.requires.masks c.requires.numbering c.requires.few some h.fits in
    AreTaken-push c.args.query.now c.args.variables.now c.args.set c.loop-rest.rest c.part_of-part.result c.requires.few h.fits p.2 p.0 p.1
    c.loop-rest.parts.items c.push.new.self.items h c.in_ok-push.ensures.items

pub returns : goal.returns
returns c =
    AreTaken-all c.args.query.now c.args.variables.now c.args.set c.loop-rest.rest c.loop-rest.parts.items c.loop-rest.invariant
    (omega (arith, c.loop-rest-test.false))
