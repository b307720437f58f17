-- The streams of a stream file, and its first fault. The grammar is this project's own.
use Rattle.std.specs.Prelude.{◌≡◌, ℕ, ◌+◌, ◌<◌, ◌≤◌, Bool, true, false, List, [], ◌∷◌, ◌++◌, length, sum_by, Option, Some, None}
use Rattle.dl_names.specs.NameList.{Text, Extends}
use Rattle.dl_terms.specs.declared.query.Query.{Query}
use Rattle.dl_event.specs.declared.event.Edit.{Edit}
use Rattle.dl_event.specs.declared.event.Event.{Event}
use Rattle.dl_event.specs.declared.event.Event.TheVariants.{Commit}
use Rattle.dl_query.specs.declared.fault.QueryFault.{QueryFault}
use Rattle.dl_query.specs.declared.fault.QueryFault.TheVariants as query_fault
use Rattle.dl_query.specs.Queries as queries
use Rattle.dl_stream.specs.declared.streams.Command.{Command}
use Rattle.dl_stream.specs.declared.streams.Command.TheVariants.{Put, Ask}
use Rattle.dl_stream.specs.declared.fault.Kind.{Kind}
use Rattle.dl_stream.specs.declared.fault.Kind.TheVariants as kind
use Rattle.dl_stream.specs.declared.fault.StreamFault.{StreamFault}
use Rattle.dl_stream.specs.declared.fault.StreamFault.TheVariants.{Line}
use Rattle.dl_stream.specs.FileLines.{lines_of}
use Rattle.dl_stream.specs.Forms.{Form, begins, opens, edits, closes, puts, asks, form_of, is_passed}
use Rattle.dl_stream.specs.Edits.{GivesEdits, HasEditFault}

-- the most streams, and commands of all streams
abbrev pub max_streams : ℕ
max_streams = 64

abbrev pub max_commands : ℕ
max_commands = 1048576

-- where a line stands: before the first stream; in a stream, with the streams before it and its commands so far; or in
-- a commit of a stream, with the number of the line at which it begins and its edits so far
pub data Place : Type 0 where
  outside : Place
  in_stream : (before : List (List Command)) (commands : List Command) → Place
  in_commit : (before : List (List Command)) (commands : List Command) (at : ℕ) (made : List Edit) → Place

-- how many streams and how many commands have begun
abbrev pub stream_count : Place → ℕ
stream_count outside = 0
stream_count (in_stream before commands) = length before + 1
stream_count (in_commit before commands at made) = length before + 1

abbrev pub command_count : Place → ℕ
command_count outside = 0
command_count (in_stream before commands) = sum_by length before + length commands
command_count (in_commit before commands at made) = sum_by length before + length commands + 1

-- what a line says may stand there
abbrev pub fits : Place → Form → Bool
fits outside begins = true
fits outside opens = false
fits outside (edits add text) = false
fits outside closes = false
fits outside (puts e) = false
fits outside (asks limit text) = false
fits (in_stream before commands) begins = true
fits (in_stream before commands) opens = true
fits (in_stream before commands) (edits add text) = false
fits (in_stream before commands) closes = false
fits (in_stream before commands) (puts e) = true
fits (in_stream before commands) (asks limit text) = true
fits (in_commit before commands at made) begins = false
fits (in_commit before commands at made) opens = false
fits (in_commit before commands at made) (edits add text) = true
fits (in_commit before commands at made) closes = true
fits (in_commit before commands at made) (puts e) = false
fits (in_commit before commands at made) (asks limit text) = false

-- a command begins
abbrev pub is_command : Form → Bool
is_command opens = true
is_command (puts e) = true
is_command (asks limit text) = true
is_command begins = false
is_command (edits add text) = false
is_command closes = false

-- what is said in a line with this number, behind these names: the place and the names after it
pub data Leads (n : ℕ) (names : List Text) : Form → Place → Place → List Text → Type 0 where
  to_first : Leads n names begins outside (in_stream [] []) names
  to_next : {before : List (List Command)} {commands : List Command} → length before + 1 < max_streams
      → Leads n names begins (in_stream before commands) (in_stream (before ++ commands ∷ []) []) names
  to_commit : {before : List (List Command)} {commands : List Command}
      → command_count (in_stream before commands) < max_commands
      → Leads n names opens (in_stream before commands) (in_commit before commands n []) names
  by_event : {before : List (List Command)} {commands : List Command} {e : Event}
      → command_count (in_stream before commands) < max_commands
      → Leads n names (puts e) (in_stream before commands) (in_stream before (commands ++ Put e ∷ [])) names
  by_query : {before : List (List Command)} {commands : List Command} {limit : ℕ} {text : List ℕ} {q : Query}
      {after : List Text} → command_count (in_stream before commands) < max_commands
      → queries.IsValue text names q after
      → Leads n names (asks limit text) (in_stream before commands) (in_stream before (commands ++ Ask q limit ∷ []))
      after
  by_edit : {before : List (List Command)} {commands : List Command} {at : ℕ} {made more : List Edit} {add : Bool}
      {text : List ℕ} {after : List Text} → GivesEdits add text names more after
      → Leads n names (edits add text) (in_commit before commands at made)
      (in_commit before commands at (made ++ more)) after
  by_end : {before : List (List Command)} {commands : List Command} {at : ℕ} {made : List Edit}
      → Leads n names closes (in_commit before commands at made)
      (in_stream before (commands ++ Put (Commit made) ∷ [])) names

-- a line without a fault
pub data Gives (line : List ℕ) (n : ℕ) (names : List Text) (p : Place) : Place → List Text → Type 0 where
  passed_over : is_passed line ≡ true → Gives line n names p p names
  said : {f : Form} {q : Place} {after : List Text} → is_passed line ≡ false → form_of line ≡ Some f
      → Leads n names f p q after → Gives line n names p q after

-- the kind of a fault that the reader of queries tells
abbrev pub query_kind : QueryFault → Kind
query_kind (query_fault.TooManyNames at) = kind.TooManyNames
query_kind _ = kind.Query

-- the fault of what is said at a place
pub data Stops (names : List Text) (p : Place) : Form → Kind → Type 0 where
  misplaced : {f : Form} → fits p f ≡ false → Stops names p f kind.Form
  too_many_streams : fits p begins ≡ true → max_streams ≤ stream_count p → Stops names p begins kind.TooManyStreams
  too_many_commands : {f : Form} → fits p f ≡ true → is_command f ≡ true → max_commands ≤ command_count p
      → Stops names p f kind.TooManyCommands
  in_query : {limit : ℕ} {text : List ℕ} {fault : QueryFault} {after : List Text}
      → fits p (asks limit text) ≡ true → command_count p < max_commands → queries.HasFault text names fault after
      → Stops names p (asks limit text) (query_kind fault)
  in_edit : {add : Bool} {text : List ℕ} {k : Kind} → fits p (edits add text) ≡ true → HasEditFault text names k
      → Stops names p (edits add text) k

-- the fault of a line
pub data HasFault (line : List ℕ) (names : List Text) (p : Place) : Kind → Type 0 where
  formless : is_passed line ≡ false → form_of line ≡ None → HasFault line names p kind.Form
  stopped : {f : Form} {k : Kind} → is_passed line ≡ false → form_of line ≡ Some f → Stops names p f k
      → HasFault line names p k

-- the lines have no fault: they lead from a place to another one, and to the names after them; the first one has this
-- number
pub data AreRead : List (List ℕ) → ℕ → List Text → Place → Place → List Text → Type 0 where
  none : {n : ℕ} {names : List Text} {p : Place} → AreRead [] n names p p names
  line : {one : List ℕ} {lines : List (List ℕ)} {n : ℕ} {names middle after : List Text} {p q r : Place}
      → Gives one n names p q middle → AreRead lines (n + 1) middle q r after → AreRead (one ∷ lines) n names p r after

-- the first fault of the lines, with the number of its line: that of the first line that has one, or else of a commit
-- that isn't ended
pub data FirstFault : List (List ℕ) → ℕ → List Text → Place → ℕ → Kind → Type 0 where
  here : {one : List ℕ} {lines : List (List ℕ)} {n : ℕ} {names : List Text} {p : Place} {k : Kind}
      → HasFault one names p k → FirstFault (one ∷ lines) n names p n k
  later : {one : List ℕ} {lines : List (List ℕ)} {n at : ℕ} {names middle : List Text} {p q : Place} {k : Kind}
      → Gives one n names p q middle → FirstFault lines (n + 1) middle q at k → FirstFault (one ∷ lines) n names p at k
  not_ended : {n at : ℕ} {names : List Text} {before : List (List Command)} {commands : List Command}
      {made : List Edit} → FirstFault [] n names (in_commit before commands at made) at kind.NotEnded

-- the streams so far, where no commit is open
abbrev pub streams_at : Place → Option (List (List Command))
streams_at outside = Some []
streams_at (in_stream before commands) = Some (before ++ commands ∷ [])
streams_at (in_commit before commands at made) = None

-- the value of the bytes, behind these names: the commands of each stream, and the names after them
pub record IsValue (bytes : List ℕ) (names : List Text) (streams : List (List Command)) (after : List Text)
    : Type 0 where
  pub place : Place
  pub read : AreRead (lines_of bytes) 1 names outside place after
  pub ended : streams_at place ≡ Some streams

-- the first fault of the bytes, behind these names; lines are numbered from 1
pub data IsFirstFault (bytes : List ℕ) (names : List Text) : StreamFault → Type 0 where
  at_line : {n : ℕ} {k : Kind} → FirstFault (lines_of bytes) 1 names outside n k
      → IsFirstFault bytes names (Line n k)

-- what a set of names may hold after a fault: the names after some first lines, and maybe more behind them, which are
-- of the next line
pub record HoldsPart (bytes : List ℕ) (names now : List Text) : Type 0 where
  pub done : List (List ℕ)
  pub one : List ℕ
  pub more : List (List ℕ)
  pub cut : lines_of bytes ≡ done ++ one ∷ more
  pub place : Place
  pub middle : List Text
  pub read : AreRead done 1 names outside place middle
  pub grows : Extends middle now
