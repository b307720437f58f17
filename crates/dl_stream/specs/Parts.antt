-- What the private readers find and keep.
use Rattle.std.specs.Prelude.{◌≡◌, ℕ, ◌<◌, ◌≤◌, ◌==◌, List, [], ◌∷◌, ◌++◌, length, Option, Some, Result, MatchOption, MatchResult, Bool, if◌then◌else◌}
use Rattle.std.specs.Borrow.{Bor}
use Rattle.dl_names.specs.NameList.{Text}
use Rattle.dl_event.specs.declared.event.Edit.{Edit}
use Rattle.dl_stream.specs.declared.fault.Kind.{Kind}
use Rattle.dl_stream.specs.declared.fault.Kind.TheVariants.{NotEnded}
use Rattle.dl_stream.specs.declared.fault.StreamFault.{StreamFault}
use Rattle.dl_stream.specs.declared.fault.StreamFault.TheVariants.{Line, NoMemory}
use Rattle.dl_stream.specs.declared.form.Form.{Form as KeptForm}
use Rattle.dl_stream.specs.declared.form.Form.TheVariants.{Begins, Opens, Edits, Closes, Puts, Asks}
use Rattle.dl_stream.specs.declared.place.Open.{Open}
use Rattle.dl_stream.specs.declared.place.Place.{Place as KeptPlace}
use Rattle.dl_stream.specs.declared.place.Place.TheVariants.{Outside, InStream, InCommit}
use Rattle.dl_stream.specs.declared.streams.Command.{Command}
use Rattle.dl_stream.specs.declared.streams.Streams.{Streams}
use Rattle.dl_stream.specs.FileLines.{lines_of}
use Rattle.dl_stream.specs.Forms.{Form, begins, opens, edits, closes, puts, asks}
use Rattle.dl_stream.specs.Edits.{GivesEdits}
use Rattle.dl_stream.specs.Reading.{Place, outside, in_stream, in_commit, command_count, max_commands, streams_at, Leads, Gives, Stops}

-- bytes without a carriage return at their end
abbrev pub without_return : List ℕ → List ℕ
without_return [] = []
without_return (b ∷ []) = if b == 13 then [] else b ∷ []
without_return (b ∷ c ∷ bytes) = b ∷ without_return (c ∷ bytes)

-- lines stand behind a line, in fewer bytes
pub record LineThen (bytes line rest : List ℕ) : Type 0 where
  pub lines : lines_of bytes ≡ line ∷ lines_of rest
  pub shorter : length rest < length bytes

-- the first line, and what stands behind its end, if the end of the bytes doesn't end it
abbrev pub IsFirstLine : List ℕ → List ℕ → Option (Bor (List ℕ)) → Type 0
IsFirstLine bytes line rest = MatchOption rest (lines_of bytes ≡ line ∷ []) (λ r. LineThen bytes line r.now)

-- what a line says, as it is kept
abbrev pub said : KeptForm → Form
said Begins = begins
said Opens = opens
said (Edits add text) = edits add text.now
said Closes = closes
said (Puts e) = puts e
said (Asks limit text) = asks limit text.now

-- where a line stands, as it is kept
abbrev pub in_open : Open → Place
in_open stream = in_stream stream.before stream.commands

abbrev pub in_open_commit : Open → ℕ → List Edit → Place
in_open_commit stream at made = in_commit stream.before stream.commands at made

abbrev pub shown : KeptPlace → Place
shown Outside = outside
shown (InStream stream) = in_open stream
shown (InCommit stream at made) = in_open_commit stream at made

-- the count is that of the commands
pub record IsCounted (stream : Open) : Type 0 where
  pub count : stream.count ≡ command_count (in_open stream)
  pub few : stream.count ≤ max_commands

abbrev pub IsCountedAt : KeptPlace → Type 0
IsCountedAt Outside = Unit {0}
IsCountedAt (InStream stream) = IsCounted stream
IsCountedAt (InCommit stream at made) = IsCounted stream × (stream.count < max_commands)

-- a fault of the line with this number, or memory was wanting
pub data ToldAt (n : ℕ) (P : Kind → Type 0) : StreamFault → Type 0 where
  wants_memory : ToldAt n P NoMemory
  is_told : {k : Kind} → P k → ToldAt n P (Line n k)

-- what is said leads to a place, as it is kept, and to names
pub record LeadsTo (n : ℕ) (names : List Text) (f : Form) (p : Place) (next : KeptPlace) (after : List Text)
    : Type 0 where
  pub leads : Leads n names f p (shown next) after
  pub counted : IsCountedAt next

-- what comes of what is said at a place, in a line with this number, behind these names
abbrev pub Comes : ℕ → List Text → Form → Place → List Text → Result KeptPlace StreamFault → Type 0
Comes n names f p after result =
    MatchResult result (λ next. LeadsTo n names f p next after) (ToldAt n (Stops names p f))

-- the same of a whole line
pub record GivesTo (line : List ℕ) (n : ℕ) (names : List Text) (p : Place) (next : KeptPlace) (after : List Text)
    : Type 0 where
  pub gives : Gives line n names p (shown next) after
  pub counted : IsCountedAt next

-- the edits of a text are added
pub record AddsEdits (add : Bool) (text : List ℕ) (names after : List Text) (made added : List Edit) : Type 0 where
  pub more : List Edit
  pub gives : GivesEdits add text names more after
  pub is : added ≡ made ++ more

-- a commit is open, or memory was wanting
pub data IsOpenAt : Place → StreamFault → Type 0 where
  wanting : {p : Place} → IsOpenAt p NoMemory
  not_closed : {before : List (List Command)} {commands : List Command} {at : ℕ} {made : List Edit}
      → IsOpenAt (in_commit before commands at made) (Line at NotEnded)

-- what comes at the end of the bytes
abbrev pub Ends : Place → Result Streams StreamFault → Type 0
Ends p result = MatchResult result (λ streams. streams_at p ≡ Some streams.lists) (IsOpenAt p)
