-- Commands whose names are given other numbers stay fit for the store.
use Rattle.std.proofs.Common.{ℕ, List, map, All}
use Rattle.std.proofs.lemmas.List.Elements.{All-map, All-weaker}
use Rattle.dl_terms.proofs.AuxiliaryLemmas.{renamed_axiom-named}
use Rattle.dl_terms.proofs.RenamedLemmas.{well_formed_renamed}
use Rattle.dl_event.specs.declared.event.Item.{Item}
use Rattle.dl_event.specs.declared.event.Item.TheVariants as item
use Rattle.dl_event.specs.declared.event.Event.{Event}
use Rattle.dl_event.specs.declared.event.Event.TheVariants as event
use Rattle.dl_event.specs.Auxiliaries.{ItemHasNoAuxiliary}
use Rattle.dl_stream.specs.declared.streams.Command.{Command}
use Rattle.dl_stream.specs.declared.streams.Command.TheVariants.{Put, Ask}
use Rattle.dl_stream.specs.Commands.{IsTaken, IsFit, renamed_item, renamed_edit, renamed_event, renamed_command}

module _ (to : ℕ → ℕ) where
  item_plain : (i : Item) → ItemHasNoAuxiliary i → ItemHasNoAuxiliary (renamed_item to i)
  item_plain (item.Axiom a) h = renamed_axiom-named to a h
  item_plain (item.Fact f) h = tt
  item_plain (item.Class c) h = tt
  item_plain (item.Property p) h = tt

  event_taken : (e : Event) → IsTaken e → IsTaken (renamed_event to e)
  event_taken (event.Commit edits) h = record {
    in_range = tt;
    no_auxiliary =
        All-map (λ e. ItemHasNoAuxiliary e.item) (renamed_edit to) edits
        (All-weaker (λ e. ItemHasNoAuxiliary e.item) (λ e. ItemHasNoAuxiliary (renamed_item to e.item)) (λ e g. item_plain e.item g) edits h.no_auxiliary);
  }
  event_taken event.Pin h = record { in_range = tt; no_auxiliary = tt }
  event_taken event.Unpin h = record { in_range = tt; no_auxiliary = tt }
  event_taken (event.Migrate shard n) h = record { in_range = h.in_range; no_auxiliary = tt }
  event_taken (event.Sweep shard n) h = record { in_range = h.in_range; no_auxiliary = tt }
  event_taken event.Reclaim h = record { in_range = tt; no_auxiliary = tt }
  event_taken (event.Look rows) h = record { in_range = h.in_range; no_auxiliary = tt }

  pub command_fit : (c : Command) → IsFit c → IsFit (renamed_command to c)
  command_fit (Put e) h = event_taken e h
  command_fit (Ask q limit) h = record { well_formed = well_formed_renamed to q h.well_formed; from = h.from; to = h.to }

  pub lists_fit : (lists : List (List Command)) → All (All IsFit) lists → All (All IsFit) (map (map (renamed_command to)) lists)
  lists_fit lists h =
      All-map (All IsFit) (map (renamed_command to)) lists
      (All-weaker (All IsFit) (λ l. All IsFit (map (renamed_command to) l))
      (λ l g. All-map IsFit (renamed_command to) l (All-weaker IsFit (λ c. IsFit (renamed_command to c)) command_fit l g)) lists h)
