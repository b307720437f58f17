-- The atoms so far are printed.
use Rattle.std.proofs.Common.{take}
use Rattle.std.specs.List.{flat_map, enumerate_from}
use Rattle.dl_io.proofs.PrintLemmas.{Printed}
use Rattle.dl_text.specs.QueryText.{atom_text}
use Rattle.dl_text.proofs.LineLemmas.{item_behind}
use Rattle.dl_text.proofs.queries.put_atoms.Given as goal

abbrev pub invariant-loop-i : goal.invariant-loop-i
invariant-loop-i g l =
    Printed g.S.Sink.got g.S.Sink.faults g.S.Sink.lent l.initial.sink l.sink
    (flat_map (item_behind (atom_text l.names)) (take l.i (enumerate_from 0 l.atoms)))
