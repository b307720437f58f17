use Rattle.std.proofs.Common.{take, flat_map}
use Rattle.dl_terms.specs.NormalForm.{part_rows}
use Rattle.dl_normal.specs.Growing.{Gains}
use Rattle.dl_normal.proofs.form.push_parts.Given as goal

abbrev pub invariant-loop-part : goal.invariant-loop-part
invariant-loop-part l = Gains l.index (flat_map (part_rows l.sub) (take l.part-index l.parts)) l.initial.normal l.normal
