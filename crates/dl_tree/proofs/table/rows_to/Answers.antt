use Rattle.std.proofs.Common.{◌≡◌, [], subst, arith}
use Rattle.dl_tree.specs.Each.{IsEach}
use Rattle.dl_tree.specs.Plans.{IsRowFor, TellsBelowFor}
use Rattle.dl_tree.proofs.EachLemmas.{IsEach-push}
use Rattle.dl_tree.proofs.TableLemmas.{next_of}
use Rattle.dl_tree.proofs.table.rows_to.Goals as goal

pub loop-s-preserved : goal.loop-s-preserved
loop-s-preserved c =
    let h = c.args.hier.now in
    let links = c.args.links.now in
    let tests = c.args.atoms.now in
    let last = c.args.last in
    let s = c.loop-s.s in
    let l = c.loop-s-test.true in
    let next = next_of h links tests c.loop-s.below c.as_slice.result.now s last c.loop-s.invariant.below c.as_slice.ensures (omega (arith, l)) in
    record {
      rows = IsEach-push [] (IsRowFor h links tests last) s c.loop-s.rows c.push.new.self c.in_ok-row.row c.loop-s.invariant.rows
          (λ axioms q plan fits. (c.in_ok-row.ensures axioms q (next axioms q plan fits)).0) c.in_ok-push.ensures.ok;
      below = IsEach-push [] (TellsBelowFor h links tests last) s c.loop-s.below c.push-in-loop-s.new.self c.in_ok-row.folds_below c.loop-s.invariant.below
          (λ axioms q plan fits. (c.in_ok-row.ensures axioms q (next axioms q plan fits)).1) c.in_ok-push-2.ensures.ok;
    }

pub returns : goal.returns
returns c =
    let h = c.args.hier.now in
    let links = c.args.links.now in
    let tests = c.args.atoms.now in
    let last = c.args.last in
    let s = c.loop-s.s in
    let all : s ≡ last = omega (arith, c.loop-s-test.false, c.loop-s.auto.s-end) in
    let below = subst (λ n. IsEach [] n (TellsBelowFor h links tests last) c.loop-s.below) all c.loop-s.invariant.below in
    let rows = subst (λ n. IsEach [] n (IsRowFor h links tests last) c.loop-s.rows) all c.loop-s.invariant.rows in
    let next = next_of h links tests c.loop-s.below c.as_slice-2.result.now last last below c.as_slice-2.ensures (omega arith) in
    IsEach-push [] (IsRowFor h links tests last) last c.loop-s.rows c.push-2.new.self c.in_ok-last_row.field-0 rows
    (λ axioms q plan fits. c.in_ok-last_row.ensures axioms q (next axioms q plan fits)) c.in_ok-push-3.ensures.ok
