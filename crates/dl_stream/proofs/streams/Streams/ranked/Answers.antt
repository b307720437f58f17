use Rattle.std.proofs.Common.{◌≡◌, ◌∙◌, All, map, length, slice_index, sym, ap, subst}
use Rattle.std.proofs.lemmas.List.{length-map}
use Rattle.dl_terms.proofs.ListLemmas.{refill_whole}
use Rattle.dl_stream.specs.Commands.{IsFit, renamed_command}
use Rattle.dl_stream.proofs.RenamedLemmas.{lists_fit}
use Rattle.dl_stream.proofs.streams.Streams.ranked.Goals as goal

pub returns-clause-fit : goal.returns-clause-fit
returns-clause-fit c =
    λ h.
    let to = slice_index c.args.ranks.now in
    let lists = c.args.self.now.lists in
    let ranked = c.rank_streams.new.streams in
    let renamed : ranked ≡ map (map (renamed_command to)) lists = c.rank_streams.ensures ∙ ap (map (map (renamed_command to))) c.as_mut_slice.ensures.items in
    let whole = refill_whole lists ranked (ap length renamed ∙ length-map lists (map (renamed_command to))) ∙ renamed in
    subst (All (All IsFit)) (sym whole) (lists_fit to lists h)
