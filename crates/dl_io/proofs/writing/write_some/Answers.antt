use Rattle.std.proofs.Common.{◌≡◌, ◌-◌, length, take, drop, rules, arith, take_all, length-drop}
use Rattle.dl_io.proofs.Got.{Gets-next}
use Rattle.dl_io.proofs.Lent.{StaysLent-trans}
use Rattle.dl_io.proofs.writing.write_some.Goals as goal

pub loop-at-preserved : goal.loop-at-preserved
loop-at-preserved g c =
    let called = c.in-Ok.ensures in
    let before = c.loop-at.invariant in
    let bytes = c.args.bytes.now in
    let rest : take (length bytes - c.loop-at.at) (drop c.loop-at.at bytes) ≡ drop c.loop-at.at bytes = take_all _ _ (omega (arith, length-drop c.loop-at.at bytes)) in
    record {
      within = search rules;
      got = Gets-next _ _ _ bytes c.loop-at.at c.in-Ok.n before.got (rw rest at called.appended);
      count = search rules;
      lent = StaysLent-trans _ _ _ before.lent called.lent;
    }

pub returns-in-Err-clause-lent : goal.returns-in-Err-clause-lent
returns-in-Err-clause-lent g c = StaysLent-trans _ _ _ c.loop-at.invariant.lent c.in-Err.ensures.lent
