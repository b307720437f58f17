use Rattle.std.proofs.Common.{refl}
use Rattle.std.proofs.lemmas.List.{take_rest}
use Rattle.dl_join.specs.Needs.{in_column}
use Rattle.dl_join.proofs.PairLemmas.{in_drop, kept_drop, floor_drop}
use Rattle.dl_join.proofs.need.moved.Goals as goal

pub returns-clause-moved : goal.returns-clause-moved
returns-clause-moved c =
    let column = c.args.need.column in
    let pairs = c.args.need.pairs.now in
    let skipped = c.passed-skipped.result in
    record {
      at = refl;
      other = refl;
      column = refl;
      within = λ p. rw (take_rest pairs skipped) (in_drop (in_column column) pairs skipped p);
      kept = λ p. rw (take_rest pairs skipped) (kept_drop (in_column column) pairs skipped c.args.bound p c.passed-skipped.ensures.below);
    }

pub returns-clause-floor : goal.returns-clause-floor
returns-clause-floor c = λ p.
    let pairs = c.args.need.pairs.now in
    rw (take_rest pairs c.passed-skipped.result) (floor_drop (in_column c.args.need.column) pairs c.passed-skipped.result c.args.bound p c.passed-skipped.ensures.others)
