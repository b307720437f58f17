-- The names of commands, and what a text's commands keep to. Both are this project's own.
use Rattle.std.specs.Prelude.{ℕ, ◌<◌, ◌≤◌, List, [], ◌∷◌, map}
use Rattle.std.specs.List.{All}
use Rattle.dl_terms.specs.Occurring.{axiom_names, fact_names, query_names}
use Rattle.dl_terms.specs.Renamed.{renamed_axiom, renamed_fact, renamed_query}
use Rattle.dl_terms.specs.Queries.{IsWellFormed}
use Rattle.dl_terms.specs.declared.query.Query.{Query}
use Rattle.dl_event.specs.declared.event.Item.{Item}
use Rattle.dl_event.specs.declared.event.Item.TheVariants as item
use Rattle.dl_event.specs.declared.event.Edit.{Edit}
use Rattle.dl_event.specs.declared.event.Event.{Event}
use Rattle.dl_event.specs.declared.event.Event.TheVariants as event
use Rattle.dl_event.specs.Auxiliaries.{EventHasNoAuxiliary}
use Rattle.dl_stream.specs.declared.streams.Command.{Command}
use Rattle.dl_stream.specs.declared.streams.Command.TheVariants.{Put, Ask}
use Rattle.dl_stream.specs.Forms.{max_limit, max_rows, max_looked}

-- the names of an item
abbrev pub item_names : Item → List ℕ
item_names (item.Axiom a) = axiom_names a
item_names (item.Fact f) = fact_names f
item_names (item.Class c) = c ∷ []
item_names (item.Property p) = p ∷ []

-- they are below this, and so are those of an event and of a command
abbrev pub ItemBelow : ℕ → Item → Type 0
ItemBelow count i = All (λ n. n < count) (item_names i)

abbrev pub EventBelow : ℕ → Event → Type 0
EventBelow count (event.Commit edits) = All (λ e. ItemBelow count e.item) edits
EventBelow count event.Pin = Unit {0}
EventBelow count event.Unpin = Unit {0}
EventBelow count (event.Migrate shard n) = Unit {0}
EventBelow count (event.Sweep shard n) = Unit {0}
EventBelow count event.Reclaim = Unit {0}
EventBelow count (event.Look rows) = Unit {0}

abbrev pub CommandBelow : ℕ → Command → Type 0
CommandBelow count (Put e) = EventBelow count e
CommandBelow count (Ask q limit) = All (λ n. n < count) (query_names q)

-- no number of an event is above the most that a line may name
abbrev pub IsInRange : Event → Type 0
IsInRange (event.Commit edits) = Unit {0}
IsInRange event.Pin = Unit {0}
IsInRange event.Unpin = Unit {0}
IsInRange (event.Migrate shard n) = n ≤ max_rows
IsInRange (event.Sweep shard n) = n ≤ max_rows
IsInRange event.Reclaim = Unit {0}
IsInRange (event.Look rows) = rows ≤ max_looked

-- an event that the store takes, and a query that it answers, with a limit
pub record IsTaken (e : Event) : Type 0 where
  pub in_range : IsInRange e
  pub no_auxiliary : EventHasNoAuxiliary e

pub record IsAnswered (q : Query) (limit : ℕ) : Type 0 where
  pub well_formed : IsWellFormed q
  pub from : 1 ≤ limit
  pub to : limit ≤ max_limit

abbrev pub IsFit : Command → Type 0
IsFit (Put e) = IsTaken e
IsFit (Ask q limit) = IsAnswered q limit

-- commands whose names are given other numbers
module _ (to : ℕ → ℕ) where
  abbrev pub renamed_item : Item → Item
  renamed_item (item.Axiom a) = item.Axiom (renamed_axiom to a)
  renamed_item (item.Fact f) = item.Fact (renamed_fact to f)
  renamed_item (item.Class c) = item.Class (to c)
  renamed_item (item.Property p) = item.Property (to p)

  abbrev pub renamed_edit : Edit → Edit
  renamed_edit e = record { add = e.add; item = renamed_item e.item }

  abbrev pub renamed_event : Event → Event
  renamed_event (event.Commit edits) = event.Commit (map renamed_edit edits)
  renamed_event event.Pin = event.Pin
  renamed_event event.Unpin = event.Unpin
  renamed_event (event.Migrate shard n) = event.Migrate shard n
  renamed_event (event.Sweep shard n) = event.Sweep shard n
  renamed_event event.Reclaim = event.Reclaim
  renamed_event (event.Look rows) = event.Look rows

  abbrev pub renamed_command : Command → Command
  renamed_command (Put e) = Put (renamed_event e)
  renamed_command (Ask q limit) = Ask (renamed_query to q) limit
