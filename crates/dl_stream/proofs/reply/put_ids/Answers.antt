use Rattle.std.proofs.Common.{◌∷◌, ap, sym}
use Rattle.std.proofs.lemmas.List.{append-nil}
use Rattle.std.proofs.lemmas.List.Folds.{flat_map-map}
use Rattle.std.specs.Fmt.{decimal}
use Rattle.dl_io.proofs.PrintLemmas.{prints_as, prints_none, prints_next, prints_next_failed, prints_whole}
use Rattle.dl_stream.proofs.reply.put_ids.Goals as goal

pub loop-id-init : goal.loop-id-init
loop-id-init g c = prints_none _

pub returns-in_err-print_pieces : goal.returns-in_err-print_pieces
returns-in_err-print_pieces g c =
    prints_as (sym (flat_map-map (λ word. 32 ∷ word) decimal c.args.ids.now))
    (prints_next_failed (λ id. 32 ∷ decimal id) c.args.ids.now c.loop-id.id-index _ c.loop-id-test.true c.from_residual.ensures.0
    (ap (λ l. 32 ∷ l) (append-nil _)) c.loop-id.invariant c.in_err-print_pieces.ensures)

pub loop-id-preserved : goal.loop-id-preserved
loop-id-preserved g c =
    prints_next (λ id. 32 ∷ decimal id) c.args.ids.now c.loop-id.id-index _ c.loop-id-test.true (ap (λ l. 32 ∷ l) (append-nil _)) c.loop-id.invariant c.in_ok-print_pieces.ensures

pub returns : goal.returns
returns g c =
    prints_as (sym (flat_map-map (λ word. 32 ∷ word) decimal c.args.ids.now))
    (prints_whole (λ id. 32 ∷ decimal id) c.args.ids.now c.loop-id.id-index c.loop-id-test.false c.loop-id.invariant)
