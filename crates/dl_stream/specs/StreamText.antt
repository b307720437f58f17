-- The text of streams: each command in one plain form, in lines that a line feed ends. It is this project's own.
use Rattle.std.specs.Prelude.{ℕ, List, [], ◌∷◌, ◌++◌, codes, if◌then◌else◌}
use Rattle.std.specs.List.{flat_map}
use Rattle.std.specs.Fmt.{decimal}
use Rattle.dl_names.specs.NameList.{Text}
use Rattle.dl_text.specs.NameText.{name_text}
use Rattle.dl_text.specs.AxiomText.{axiom_text}
use Rattle.dl_text.specs.FactText.{fact_text}
use Rattle.dl_text.specs.QueryText.{query_text}
use Rattle.dl_event.specs.declared.event.Edit.{Edit}
use Rattle.dl_event.specs.declared.event.Item.{Item}
use Rattle.dl_event.specs.declared.event.Item.TheVariants as item
use Rattle.dl_event.specs.declared.event.Event.{Event}
use Rattle.dl_event.specs.declared.event.Event.TheVariants.{Commit, Pin, Unpin, Migrate, Sweep, Reclaim, Look}
use Rattle.dl_stream.specs.declared.streams.Command.{Command}
use Rattle.dl_stream.specs.declared.streams.Command.TheVariants.{Put, Ask}

-- a text as a line
abbrev pub line_of : Text → Text
line_of text = text ++ 10 ∷ []

-- a word and two numbers
abbrev pub rows_text : Text → ℕ → ℕ → Text
rows_text word shard n = word ++ (32 ∷ decimal shard ++ 32 ∷ decimal n)

module _ (names : List Text) where
  abbrev pub item_text : Item → Text
  item_text (item.Axiom a) = axiom_text names a
  item_text (item.Fact f) = fact_text names f
  item_text (item.Class c) = codes "Declaration(Class(" ++ (name_text names c ++ codes "))")
  item_text (item.Property p) = codes "Declaration(ObjectProperty(" ++ (name_text names p ++ codes "))")

  -- what is added stands behind a plus sign, and what is removed behind a minus sign
  abbrev pub edit_text : Edit → Text
  edit_text e = (if e.add then codes "+ " else codes "- ") ++ item_text e.item

  -- the lines of an event and of a command
  abbrev pub event_text : Event → Text
  event_text (Commit edits) =
      line_of (codes "commit") ++ (flat_map (λ e. line_of (edit_text e)) edits ++ line_of (codes "end"))
  event_text Pin = line_of (codes "pin")
  event_text Unpin = line_of (codes "unpin")
  event_text (Migrate shard n) = line_of (rows_text (codes "migrate") shard n)
  event_text (Sweep shard n) = line_of (rows_text (codes "sweep") shard n)
  event_text Reclaim = line_of (codes "reclaim")
  event_text (Look n) = line_of (codes "look " ++ decimal n)

  abbrev pub command_text : Command → Text
  command_text (Put e) = event_text e
  command_text (Ask q limit) = line_of (codes "ask " ++ (decimal limit ++ 32 ∷ query_text names q))

  abbrev pub stream_text : List Command → Text
  stream_text commands = line_of (codes "stream") ++ flat_map command_text commands

  abbrev pub streams_text : List (List Command) → Text
  streams_text streams = flat_map stream_text streams
