use Rattle.std.proofs.Common.{◌-◌, ◌<◌, map, sym, ap, subst, arith}
use Rattle.std.proofs.lemmas.List.{length-map}
use Rattle.dl_epoch.specs.Covering.{kept}
use Rattle.dl_epoch.proofs.CoveringLemmas.{Looks, Looks-last, Looks-before, place_small, first_at}
use Rattle.dl_epoch.proofs.epochs.covering_place.Goals as goal

pub loop-place-init : goal.loop-place-init
loop-place-init c =
    let entries = c.args.entries.now in
    subst (Looks (map kept entries) c.args.version) (ap (λ n. n - 1) (length-map entries kept)) (Looks-last (map kept entries) c.args.version c.requires.one)

pub loop-place-preserved : goal.loop-place-preserved
loop-place-preserved c =
    let entries = c.args.entries.now in
    let place = c.loop-place.place in
    let x = c.index-entries-place.result in
    (Looks-before (map kept entries) c.args.version place c.requires.one c.loop-place.invariant
    (λ d. subst (λ n. c.args.version < n) (sym (first_at entries place x d c.loop-place.invariant.inside)) c.loop-place-test.true)).1

pub overflow_cast-result : goal.overflow_cast-result
overflow_cast-result c =
    let entries = c.args.entries.now in
    let place = c.loop-place.place in
    let x = c.index-entries-place.result in
    let small = place_small (map kept entries) place (kept x) c.requires.firsts c.loop-place.invariant.inside in
    let first = first_at entries place x (kept x) c.loop-place.invariant.inside in
    let begins = c.loop-place-test.false in
    let fits = c.ranges.version.fits in
    omega (arith, small, first, begins, fits)
