-- The texts so far are printed.
use Rattle.std.proofs.Common.{take}
use Rattle.std.specs.List.{flat_map}
use Rattle.dl_text.specs.Pieces.{piece_text}
use Rattle.dl_io.proofs.PrintLemmas.{Printed}
use Rattle.dl_text.proofs.pieces.print_pieces.Given as goal

abbrev pub invariant-loop-piece : goal.invariant-loop-piece
invariant-loop-piece g l =
    Printed g.S.Sink.got g.S.Sink.faults g.S.Sink.lent l.initial.sink l.sink
    (flat_map (piece_text l.names) (take l.piece-index l.pieces))
