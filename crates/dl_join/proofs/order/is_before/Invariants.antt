use Rattle.std.proofs.Common.{◌≡◌, drop}
use Rattle.dl_join.specs.Probing.{is_first}
use Rattle.dl_join.proofs.order.is_before.Given as goal

abbrev pub invariant-loop-var : goal.invariant-loop-var
invariant-loop-var l = is_first l.order l.one l.two ≡ is_first (drop l.var-index l.order) l.one l.two
