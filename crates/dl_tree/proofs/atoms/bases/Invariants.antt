use Rattle.std.proofs.Common.{take}
use Rattle.dl_tree.specs.Rows.{TellsRow}
use Rattle.dl_tree.proofs.AskLemmas.{Some}
use Rattle.dl_tree.proofs.atoms.bases.Given as goal

abbrev pub invariant-loop-m : goal.invariant-loop-m
invariant-loop-m l = TellsRow l.places (Some l.atoms l.below l.s l.places (take l.m-index l.tops)) l.found.items
