use Rattle.std.proofs.Common.{length, ap, sym, subst, ◌∙◌}
use Rattle.std.specs.List.{All}
use Rattle.dl_event.specs.declared.event.Event.TheVariants.{Commit}
use Rattle.dl_io.proofs.PrintLemmas.{prints_as}
use Rattle.dl_stream.specs.Commands.{ItemBelow, EventBelow}
use Rattle.dl_stream.specs.StreamText.{event_text}
use Rattle.dl_stream.proofs.stream_text.put_event.Goals as goal

pub put_commit-requires : goal.put_commit-requires
put_commit-requires g c =
    subst (All (λ edit. ItemBelow (length c.args.names.now) edit.item)) (sym c.as_slice.ensures)
    (subst (EventBelow (length c.args.names.now)) c.in-Commit.is c.requires)

pub returns-in-Commit : goal.returns-in-Commit
returns-in-Commit g c =
    prints_as (ap (λ edits. event_text c.args.names.now (Commit edits)) c.as_slice.ensures ∙ ap (event_text c.args.names.now) (sym c.in-Commit.is)) c.put_commit.ensures
