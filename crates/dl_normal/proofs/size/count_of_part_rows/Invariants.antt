use Rattle.std.proofs.Common.{◌≡◌, ◌-◌, ◌^◌, min, take, length, flat_map}
use Rattle.dl_terms.specs.NormalForm.{part_rows}
use Rattle.dl_terms.specs.declared.role.Basic.{Basic}
use Rattle.dl_normal.proofs.size.count_of_part_rows.Given as goal

abbrev pub invariant-loop-part : goal.invariant-loop-part
invariant-loop-part l = (b : Basic) → l.total ≡ min (length (flat_map (part_rows b) (take l.part-index l.parts))) (2 ^ 64 - 1)
