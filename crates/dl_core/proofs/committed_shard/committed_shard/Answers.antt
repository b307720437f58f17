use Rattle.std.proofs.Common.{◌≡◌, ◌<◌, ◌++◌, map, length, sym, ap₂, subst, ◌∙◌}
use Rattle.std.specs.List.{All}
use Rattle.std.specs.Arc.{arc_value}
use Rattle.std.proofs.lemmas.Result.{IfOk-weaker}
use Rattle.dl_row.specs.Lists.{ordered}
use Rattle.dl_row.specs.Rows.{row_cmp}
use Rattle.dl_row.proofs.OrderedLemmas.{no_items}
use Rattle.dl_core.specs.Root.{epochs, shard}
use Rattle.dl_core.specs.Next.{ended}
use Rattle.dl_core.specs.Changes.{with_ended}
use Rattle.dl_core.proofs.ShardChangeLemmas.{places_within, shard-with_ended, shard-same}
use Rattle.dl_core.proofs.committed_shard.committed_shard.Goals as goal

pub returns-then-new-eq0 : goal.returns-then-new-eq0
returns-then-new-eq0 c = λ after are.
    let root = c.args.root.now in
    let places = c.in_ok-places.places in
    let same = shard-same root c.book-book.ensures.sound c.requires.ready c.args.i c.args.gone.now places
    c.in_ok-places.ensures.exact after are c.args.version c.args.new.now
    (no_items places (sym c.len.ensures ∙ c.if-len-eq0.true)) (no_items c.args.new.now c.if-new-eq0.true) in
    IfOk-weaker c.shared_shard.result (λ s. arc_value s ≡ shard root c.args.i)
    (λ s. arc_value s ≡ ordered row_cmp
    (map (ended (epochs root) after c.args.version) (shard root c.args.i) ++ c.args.new.now))
    (λ s is. is ∙ same) c.shared_shard.ensures

pub changed_shard-requires-clause-within : goal.changed_shard-requires-clause-within
changed_shard-requires-clause-within c =
    let root = c.args.root.now in
    subst (All (λ p. p < length c.shard.result.now)) (sym c.as_slice.ensures)
    (subst (λ rows. All (λ p. p < length rows) c.in_ok-places.places) (sym c.shard.ensures)
    (places_within root c.book-book.ensures.sound c.requires.ready c.args.i c.args.gone.now c.in_ok-places.places
    c.in_ok-places.ensures.exact))

pub returns-in-Ok : goal.returns-in-Ok
returns-in-Ok c = λ after are.
    let root = c.args.root.now in
    c.in-Ok.ensures.ok ∙ c.in_ok-shard.ensures
    ∙ ap₂ (λ ps rows. with_ended c.args.version ps rows c.args.new.now) c.as_slice.ensures c.shard.ensures
    ∙ shard-with_ended root c.book-book.ensures.sound c.requires.ready c.args.i c.args.gone.now c.in_ok-places.places
    c.in_ok-places.ensures.exact after are
    c.args.version c.args.new.now c.in_ok-places.ensures.ascending
