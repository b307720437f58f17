use Rattle.std.proofs.Common.{length, refl}
use Rattle.dl_text.proofs.TextLemmas.{below_each}
use Rattle.dl_text.specs.Pieces.{piece_text, piece_names}
use Rattle.dl_io.proofs.PrintLemmas.{prints_none, prints_next, prints_next_failed, prints_whole}
use Rattle.dl_text.proofs.pieces.print_pieces.Goals as goal

pub loop-piece-init : goal.loop-piece-init
loop-piece-init g c = prints_none _

pub returns-in_err-put : goal.returns-in_err-put
returns-in_err-put g c =
    prints_next_failed (piece_text c.args.names.now) c.args.pieces.now c.loop-piece.piece-index _ c.loop-piece-test.true c.from_residual.ensures.0 refl c.loop-piece.invariant c.in_err-put.ensures

pub loop-piece-preserved : goal.loop-piece-preserved
loop-piece-preserved g c =
    prints_next (piece_text c.args.names.now) c.args.pieces.now c.loop-piece.piece-index _ c.loop-piece-test.true refl c.loop-piece.invariant c.in_ok-put.ensures

pub returns : goal.returns
returns g c = prints_whole (piece_text c.args.names.now) c.args.pieces.now c.loop-piece.piece-index c.loop-piece-test.false c.loop-piece.invariant

pub put-requires : goal.put-requires
put-requires g c =
    below_each (length c.args.names.now) piece_names c.args.pieces.now c.requires c.loop-piece.piece-index _ c.loop-piece-test.true
