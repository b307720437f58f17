-- Transcripts of the worked examples. Numbers stand for names, in the order of their bytes.
use Rattle.std.specs.Prelude.{ℕ, true, List, [], ◌∷◌}
use Rattle.dl_terms.specs.declared.axiom.Fact.TheVariants.{Is}
use Rattle.dl_terms.specs.declared.query.Atom.TheVariants as atom
use Rattle.dl_terms.specs.declared.query.Query.{Query}
use Rattle.dl_terms.specs.declared.query.Term.TheVariants.{Var}
use Rattle.dl_core.specs.History.{Load}
use Rattle.dl_event.specs.declared.answer.AskFault.TheVariants as ask
use Rattle.dl_event.specs.declared.event.Event.{Event}
use Rattle.dl_event.specs.declared.event.Event.TheVariants.{Commit, Pin, Unpin, Migrate, Sweep}
use Rattle.dl_event.specs.declared.event.Item.TheVariants as item
use Rattle.dl_event.specs.declared.reply.Refusal.TheVariants.{PinOpen, NoPin, NoShard}
use Rattle.dl_event.specs.declared.reply.Reply.{Reply}
use Rattle.dl_event.specs.declared.reply.Reply.TheVariants.{Committed, Pinned, Refused}
use Rattle.dl_stream.specs.Transcript.{Told}
use Rattle.dl_stream.specs.declared.outcome.Outcome.TheVariants as outcome
use Rattle.dl_stream.specs.declared.streams.Command.TheVariants.{Put, Ask}

-- no axioms, and A(b), where the names are A, a and b
abbrev pub b_is_an_a : Load
b_is_an_a =
    record { axioms = []; signature = record { classes = 0 ∷ []; roles = [] }; facts = Is 0 2 ∷ []; shards = 1 }

-- A(a) is added
abbrev pub adds_a : Event
adds_a = Commit (record { add = true; item = item.Fact (Is 0 1) } ∷ [])

-- an event with its place and its reply
abbrev pub placed : Event → (place : ℕ) → Reply → Told
placed event place reply =
    record { command = Put event; outcome = outcome.Placed (record { place = place; reply = reply }) }

-- one stream commits, and another one pins: what is committed, or what was loaded
abbrev pub commit_first : List (List Told)
commit_first = (placed adds_a 1 (Committed 2 1) ∷ []) ∷ (placed Pin 2 (Pinned 2) ∷ []) ∷ []

abbrev pub pin_first : List (List Told)
pin_first = (placed adds_a 2 (Committed 2 1) ∷ []) ∷ (placed Pin 1 (Pinned 1) ∷ []) ∷ []

-- the same, with both at one place
abbrev pub at_one_place : List (List Told)
at_one_place = (placed adds_a 1 (Committed 2 1) ∷ []) ∷ (placed Pin 1 (Pinned 1) ∷ []) ∷ []

-- no axioms and no facts, on two shards
abbrev pub nothing_loaded : Load
nothing_loaded = record { axioms = []; signature = record { classes = []; roles = [] }; facts = []; shards = 2 }

-- the query for the members of A
abbrev pub members : Query
members = record { head = 0 ∷ []; atoms = atom.Is 0 (Var 0) ∷ []; vars = 1 }

-- commands that are refused, but for one pin
abbrev pub refused : List (List Told)
refused =
    (placed Unpin 1 (Refused NoPin)
    ∷ record { command = Ask members 10000; outcome = outcome.AskRefused ask.NoPin }
    ∷ placed Pin 2 (Pinned 1) ∷ placed Pin 3 (Refused (PinOpen 1)) ∷ placed (Migrate 2 5) 4 (Refused (NoShard 2))
    ∷ placed (Sweep 9 1) 5 (Refused (NoShard 9)) ∷ [])
    ∷ []
