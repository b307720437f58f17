use Rattle.std.proofs.Common.{◌≡◌, ◌++◌, take}
use Rattle.dl_deny.specs.Denied.{denials_of}
use Rattle.dl_deny.proofs.DenialLemmas.{beside}
use Rattle.dl_deny.proofs.denial.push_axiom.Given as goal

abbrev pub invariant-loop-negative : goal.invariant-loop-negative
invariant-loop-negative l = l.found ≡ l.initial.found ++ denials_of (beside l.axiom (take l.negative-index l.negative-items))
