-- Steps: from the root of a history to that of a longer one. They are this project's own.
use Rattle.std.specs.Prelude.{◌≡◌, ℕ, List, [], ◌∷◌, ◌++◌}
use Rattle.dl_core.specs.History.{Load, Entry}
use Rattle.dl_core.specs.Root.{Root}
use Rattle.dl_core.specs.Next.{Numbering}
use Rattle.dl_core.specs.Legal.{IsLegal, root_of}
use Rattle.dl_event.specs.declared.event.Event.{Event}
use Rattle.dl_event.specs.declared.reply.Reply.{Reply}

-- a history with what a stream asks for next, and what it is told
abbrev pub longer : List Entry → ℕ → Event → Reply → List Entry
longer history stream event reply = history ++ record { stream = stream; event = event; reply = reply } ∷ []

-- an event leads to the root of the longer history, which is legal
pub record IsStep (numbering : Numbering) (load : Load) (history : List Entry) (stream : ℕ) (event : Event)
    (after : Root × Reply) : Type 0 where
  pub legal : IsLegal numbering load (longer history stream event after.1)
  pub root : after.0 ≡ root_of numbering load (longer history stream event after.1)
