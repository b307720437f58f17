use Rattle.std.proofs.Common.{◌≡◌, true, refl, sym, ap, subst, ◌∙◌, arith}
use Rattle.std.specs.List.{All, list_any}
use Rattle.std.proofs.lemmas.List.{take_all}
use Rattle.dl_scan.specs.Sieves.{passes, has_remainder}
use Rattle.dl_scan.proofs.SieveLemmas.{all_marks, none_passes, marked_exactly, own_names_pass}
use Rattle.dl_scan.proofs.sieve.Sieve.of.Goals as goal

pub loop-pair-init : goal.loop-pair-init
loop-pair-init c = record {
  long = omega (arith, c.in_ok-marks.marks.ok, all_marks 65536 c.in_ok-marks.marks.items refl c.in_ok-marks.ensures);
  exact = none_passes 65536 c.in_ok-marks.marks.items refl c.in_ok-marks.ensures;
}

pub loop-pair-preserved : goal.loop-pair-preserved
loop-pair-preserved c = record {
  long = c.loop-pair.invariant.long;
  exact = marked_exactly c.loop-pair.marks.items c.args.pairs.now c.loop-pair.pair-index (0, 0) c.loop-pair-test.true
      (omega (arith, c.loop-pair.marks.ok, c.loop-pair.invariant.long)) c.loop-pair.invariant.exact;
}

pub returns-clause-pass : goal.returns-clause-pass
returns-clause-pass c =
    let pairs = c.args.pairs.now in
    subst (λ marks. All (λ p. passes marks p.0 ≡ true) pairs) (sym c.of.ensures)
    (own_names_pass c.loop-pair.marks.items pairs
    (λ name. c.loop-pair.invariant.exact name
    ∙ ap (list_any (has_remainder name)) (take_all c.loop-pair.pair-index pairs c.loop-pair-test.false)))
