-- Legal transcripts: what becomes of the commands of some streams, told as one history. They are this project's own.
use Rattle.std.specs.Prelude.{ℕ, ◌≡◌, ◌≤◌, List, [], ◌∷◌, ◌++◌, length, map, codes, IfSome, All}
use Rattle.std.specs.declared.option.Option.{Option}
use Rattle.std.specs.declared.option.Option.TheVariants.{Some, None}
use Rattle.std.specs.List.{flat_map, filter_map, enumerate_from, fold}
use Rattle.std.specs.List.Sorted.{IsPermutation, IsStrictlyIncreasing}
use Rattle.std.specs.Fmt.{decimal}
use Rattle.dl_names.specs.NameList.{Text}
use Rattle.dl_terms.specs.declared.query.Query.{Query}
use Rattle.dl_terms.specs.Reply.{IsReply, too_many, Reply as DefinedReply}
use Rattle.dl_core.specs.History.{Load, Entry, axioms_at, facts_at}
use Rattle.dl_core.specs.Legal.{IsLegal}
use Rattle.dl_core.specs.Next.{Numbering}
use Rattle.dl_event.specs.Answers.{reply_of, answer_version}
use Rattle.dl_event.specs.declared.answer.AskFault.TheVariants as ask
use Rattle.dl_event.specs.declared.answer.Placed.{Placed}
use Rattle.dl_event.specs.declared.reply.Refusal.TheVariants.{PinOpen}
use Rattle.dl_event.specs.declared.reply.Reply.{Reply}
use Rattle.dl_event.specs.declared.reply.Reply.TheVariants.{Committed, Pinned, Unpinned, Looked, Refused}
use Rattle.dl_stream.specs.declared.streams.Command.{Command}
use Rattle.dl_stream.specs.declared.streams.Command.TheVariants.{Put, Ask}
use Rattle.dl_stream.specs.declared.outcome.Outcome.{Outcome}
use Rattle.dl_stream.specs.declared.outcome.Outcome.TheVariants as outcome
use Rattle.dl_stream.specs.Lines.{words_line}
use Rattle.dl_stream.specs.Outcomes.{outcome_text, asked_version, IsPinnedAt}

-- a command of a stream, and what became of it
pub record Told : Type 0 where
  pub command : Command
  pub outcome : Outcome

-- ---- the history

-- the place of an event that has one, and its entry in the history
abbrev pub entry_by : (stream : ℕ) → Command → Outcome → Option (ℕ × Entry)
entry_by stream (Put event) (outcome.Placed placed) =
    Some (placed.place, record { stream = stream; event = event; reply = placed.reply })
entry_by stream command other = None

-- the places and entries of a stream, in its order
abbrev pub entries_of : (stream : ℕ) → List Told → List (ℕ × Entry)
entries_of stream told = filter_map (λ t. entry_by stream t.command t.outcome) told

-- those of all streams; streams are counted from 1
abbrev pub all_entries : List (List Told) → List (ℕ × Entry)
all_entries streams = flat_map (λ numbered. entries_of numbered.0 numbered.1) (enumerate_from 1 streams)

-- places rise within a stream
abbrev pub HasRisingPlaces : List Told → Type 0
HasRisingPlaces told = IsStrictlyIncreasing (map (λ entry. entry.0) (entries_of 0 told))

-- ---- what a stream was told before a command

abbrev pub pin_by : Placed → Reply → Option Placed → Option Placed
pin_by placed (Pinned version) pin = Some placed
pin_by placed (Unpinned version) pin = None
pin_by placed reply pin = pin

-- the pin of a stream after one more outcome
abbrev pub pin_after : Option Placed → Outcome → Option Placed
pin_after pin (outcome.Placed placed) = pin_by placed placed.reply pin
pin_after pin other = pin

-- the pin of a stream: its last accepted Pin, unless an accepted Unpin follows it
abbrev pub open_pin : List Told → Option Placed
open_pin before = fold (λ pin t. pin_after pin t.outcome) None before

-- the version that a reply tells, if it tells one
abbrev pub reply_version : Reply → Option ℕ
reply_version (Committed version epoch) = Some version
reply_version (Pinned version) = Some version
reply_version (Unpinned version) = Some version
reply_version (Looked look) = Some look.version
reply_version (Refused (PinOpen version)) = Some version
reply_version other = None

-- the same of an outcome
abbrev pub told_version : Outcome → Option ℕ
told_version (outcome.Placed placed) = reply_version placed.reply
told_version other = asked_version other

-- ---- what may become of a command

-- a version that is pinned is at least each one that the stream was told before
abbrev pub IsNoOlder : List Told → Reply → Type 0
IsNoOlder before (Pinned version) = All (λ t. IfSome (told_version t.outcome) (λ earlier. earlier ≤ version)) before
IsNoOlder before other = Unit {0}

module _ (l : Load) (history : List Entry) (nothing : Option ℕ) where
  -- a pin is there, at this version, and over its ontology and data this is the reply
  abbrev pub IsAnsweredAt : Option Placed → Query → (limit version : ℕ) → DefinedReply → Type 0
  IsAnsweredAt pin query limit version reply =
      IsPinnedAt pin version
      × IsReply (axioms_at l history version) (facts_at l history version) nothing query limit reply

  -- what becomes of a command, where this was told before in its stream: want of memory may come at each, and the
  -- history is never full
  abbrev pub MayBecome : List Told → Command → Outcome → Type 0
  MayBecome before (Put event) (outcome.Placed placed) = IsNoOlder before placed.reply
  MayBecome before (Put event) outcome.NoMemory = Unit {0}
  MayBecome before (Ask query limit) (outcome.Asked answer) =
      IsAnsweredAt (open_pin before) query limit (answer_version answer) (reply_of answer)
  MayBecome before (Ask query limit) (outcome.AskRefused (ask.TooMany version)) =
      IsAnsweredAt (open_pin before) query limit version too_many
  MayBecome before (Ask query limit) (outcome.AskRefused ask.NoPin) = open_pin before ≡ None
  MayBecome before (Ask query limit) (outcome.AskRefused ask.NoMemory) = Unit {0}
  MayBecome before command other = ⊥

  -- each outcome of a stream is one that may become of its command
  abbrev pub FollowsOn : (before : List Told) → List Told → Type 0
  FollowsOn before [] = Unit {0}
  FollowsOn before (t ∷ told) = MayBecome before t.command t.outcome × FollowsOn (before ++ t ∷ []) told

-- ---- a legal transcript

-- What became of the commands of some streams is told by one history that is legal from a load: its entries are their
-- events, each at its place, and there are so many places.
pub record IsLegalTranscript (numbering : Numbering) (l : Load) (nothing : Option ℕ) (streams : List (List Told)) (places : ℕ) : Type 0 where
  pub history : List Entry
  pub legal : IsLegal numbering l history
  pub counted : length history ≡ places
  pub placed : IsPermutation (all_entries streams) (enumerate_from 1 history)
  pub rising : All HasRisingPlaces streams
  pub each : All (FollowsOn l history nothing []) streams

-- ---- its lines

abbrev pub limit_of : Command → ℕ
limit_of (Put event) = 0
limit_of (Ask query limit) = limit

-- the lines of a stream, where this was told before in it
abbrev pub told_text : List Text → (before : List Told) → List Told → Text
told_text names before [] = []
told_text names before (t ∷ told) =
    outcome_text names (open_pin before) (limit_of t.command) t.outcome ++ told_text names (before ++ t ∷ []) told

-- the lines of each stream behind its number, and at last how many places there are
abbrev pub transcript_text : List Text → List (List Told) → (places : ℕ) → Text
transcript_text names streams places =
    flat_map (λ numbered. words_line (codes "stream" ∷ decimal numbered.0 ∷ []) ++ told_text names [] numbered.1)
    (enumerate_from 1 streams)
    ++ words_line (codes "places" ∷ decimal places ∷ [])
