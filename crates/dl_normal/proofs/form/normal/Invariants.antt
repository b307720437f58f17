use Rattle.std.proofs.Common.{take}
use Rattle.dl_normal.specs.Indexed.{IsNormalForm}
use Rattle.dl_normal.proofs.form.normal.Given as goal

abbrev pub invariant-loop-index : goal.invariant-loop-index
invariant-loop-index l = IsNormalForm (take l.index l.axioms) l.normal
