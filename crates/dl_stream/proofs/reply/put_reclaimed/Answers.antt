use Rattle.std.proofs.Common.{[], ◌∷◌, ◌++◌, ◌∙◌, ap, codes}
use Rattle.std.specs.List.{flat_map}
use Rattle.std.specs.Fmt.{decimal}
use Rattle.dl_stream.specs.Outcomes.{dropped_words}
use Rattle.dl_stream.proofs.LineLemmas.{line_of_spaced}
use Rattle.dl_text.proofs.LineLemmas.{behind_digits}
use Rattle.dl_io.proofs.PrintLemmas.{prints_as, prints_failed, prints_then}
use Rattle.dl_stream.proofs.reply.put_reclaimed.Goals as goal

pub returns-in_err-print_pieces : goal.returns-in_err-print_pieces
returns-in_err-print_pieces g c =
    prints_as
    (behind_digits (codes "place ") (decimal c.args.place) (codes " reclaim") (flat_map (λ word. 32 ∷ word) (dropped_words c.args.ids.now) ++ 10 ∷ [])
    ∙ ap (λ l. codes "place " ++ (decimal c.args.place ++ (codes " reclaim" ++ l))) (line_of_spaced (dropped_words c.args.ids.now)))
    (prints_failed _ c.from_residual.ensures.0 c.in_err-print_pieces.ensures)

pub returns-in_err-put_dropped : goal.returns-in_err-put_dropped
returns-in_err-put_dropped g c =
    prints_as
    (behind_digits (codes "place ") (decimal c.args.place) (codes " reclaim") (flat_map (λ word. 32 ∷ word) (dropped_words c.args.ids.now) ++ 10 ∷ [])
    ∙ ap (λ l. codes "place " ++ (decimal c.args.place ++ (codes " reclaim" ++ l))) (line_of_spaced (dropped_words c.args.ids.now)))
    (prints_then c.in_ok-print_pieces.ensures (prints_failed _ c.from_residual-in_err-put_dropped.ensures.0 c.in_err-put_dropped.ensures))

pub returns : goal.returns
returns g c =
    prints_as
    (behind_digits (codes "place ") (decimal c.args.place) (codes " reclaim") (flat_map (λ word. 32 ∷ word) (dropped_words c.args.ids.now) ++ 10 ∷ [])
    ∙ ap (λ l. codes "place " ++ (decimal c.args.place ++ (codes " reclaim" ++ l))) (line_of_spaced (dropped_words c.args.ids.now)))
    (prints_then c.in_ok-print_pieces.ensures (prints_then c.in_ok-put_dropped.ensures c.print_pieces-2.ensures))
