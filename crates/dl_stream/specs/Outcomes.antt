-- The lines of what becomes of a command. Their form is this project's own.
use Rattle.std.specs.Prelude.{ℕ, ◌≡◌, List, [], ◌∷◌, ◌++◌, map, codes, IfSome}
use Rattle.std.specs.declared.option.Option.{Option}
use Rattle.std.specs.declared.option.Option.TheVariants.{Some, None}
use Rattle.std.specs.List.{flat_map}
use Rattle.std.specs.Fmt.{decimal}
use Rattle.dl_names.specs.NameList.{Text}
use Rattle.dl_event.specs.Answers.{answer_version}
use Rattle.dl_event.specs.declared.answer.Answer.{Answer}
use Rattle.dl_event.specs.declared.answer.Answer.TheVariants as answer
use Rattle.dl_event.specs.declared.answer.AskFault.{AskFault}
use Rattle.dl_event.specs.declared.answer.AskFault.TheVariants as ask
use Rattle.dl_event.specs.declared.answer.Placed.{Placed}
use Rattle.dl_event.specs.declared.reply.Looked.{Looked}
use Rattle.dl_event.specs.declared.reply.Refusal.{Refusal}
use Rattle.dl_event.specs.declared.reply.Refusal.TheVariants.{TooManyAxioms, TooManyPredicates, TooManyEpochs, Full, PinOpen, NoPin, NoShard}
use Rattle.dl_event.specs.declared.reply.Reply.{Reply}
use Rattle.dl_event.specs.declared.reply.Reply.TheVariants.{Committed, Pinned, Unpinned, Migrated, Swept, Reclaimed, Looked as Look, Refused}
use Rattle.dl_stream.specs.declared.outcome.Outcome.{Outcome}
use Rattle.dl_stream.specs.declared.outcome.Outcome.TheVariants as outcome
use Rattle.dl_stream.specs.Lines.{words_line, predicate_lines, row_line, individuals}
use Rattle.dl_text.specs.AnswerText.{answers_text, inconsistent_text, broken_names}

-- ---- events

-- the line of an event at its place, in these words
abbrev pub placed_line : ℕ → List Text → Text
placed_line place words = words_line (codes "place" ∷ decimal place ∷ words)

-- why an event is refused
abbrev pub refusal_words : Refusal → List Text
refusal_words (TooManyAxioms weight) = codes "too many axioms" ∷ decimal weight ∷ []
refusal_words (TooManyPredicates count) = codes "too many predicates" ∷ decimal count ∷ []
refusal_words (TooManyEpochs kept) = codes "too many epochs" ∷ decimal kept ∷ []
refusal_words (Full kept new) = codes "full kept" ∷ decimal kept ∷ codes "new" ∷ decimal new ∷ []
refusal_words (PinOpen version) = codes "pin open version" ∷ decimal version ∷ []
refusal_words NoPin = codes "no pin" ∷ []
refusal_words (NoShard shard) = codes "no shard" ∷ decimal shard ∷ []

-- the ids of the epochs that were dropped, or that there are none
abbrev pub dropped_words : List ℕ → List Text
dropped_words [] = codes "none" ∷ []
dropped_words ids = map decimal ids

-- the counts of a look
abbrev pub count_words : Looked → List Text
count_words look =
    codes "look version" ∷ decimal look.version ∷ codes "epoch" ∷ decimal look.epoch ∷ codes "epochs"
    ∷ decimal look.epochs ∷ codes "kept" ∷ decimal look.kept ∷ codes "visible" ∷ decimal look.visible ∷ codes "old"
    ∷ decimal look.behind ∷ []

-- what a look shows behind its counts: the predicates of the current epoch, and the rows
abbrev pub shown_text : List Text → Looked → Text
shown_text names look =
    predicate_lines names (codes "class") look.classes
    ++ (predicate_lines names (codes "role") look.roles ++ flat_map (row_line names look.epoch) look.rows)

-- what a stream was told at a place
abbrev pub reply_text : List Text → ℕ → Reply → Text
reply_text names place (Committed version epoch) =
    placed_line place (codes "commit version" ∷ decimal version ∷ codes "epoch" ∷ decimal epoch ∷ [])
reply_text names place (Pinned version) = placed_line place (codes "pin version" ∷ decimal version ∷ [])
reply_text names place (Unpinned version) = placed_line place (codes "unpin version" ∷ decimal version ∷ [])
reply_text names place (Migrated moved left) =
    placed_line place (codes "migrate moved" ∷ decimal moved ∷ codes "left" ∷ decimal left ∷ [])
reply_text names place (Swept dropped left) =
    placed_line place (codes "sweep dropped" ∷ decimal dropped ∷ codes "left" ∷ decimal left ∷ [])
reply_text names place (Reclaimed ids) = placed_line place (codes "reclaim" ∷ dropped_words ids)
reply_text names place (Look look) = placed_line place (count_words look) ++ shown_text names look
reply_text names place (Refused refusal) = placed_line place (refusal_words refusal)

-- the names in it
abbrev pub reply_names : Reply → List ℕ
reply_names (Look look) = look.classes ++ (look.roles ++ flat_map individuals look.rows)
reply_names reply = []

-- ---- queries

-- of a query that was asked at the place of a pin, this
abbrev pub asked_text : (place version : ℕ) → Text → Text
asked_text place version text =
    codes "ask place " ++ (decimal place ++ (codes " version " ++ (decimal version ++ 32 ∷ text)))

-- what a query is answered
abbrev pub answer_text : List Text → (place : ℕ) → Answer → Text
answer_text names place (answer.Found version tuples) = asked_text place version (answers_text names tuples.tuples)
answer_text names place (answer.Inconsistent version broken) =
    asked_text place version (inconsistent_text names broken)

-- the names in it
abbrev pub answer_names : Answer → List ℕ
answer_names (answer.Found version tuples) = flat_map (λ tuple. tuple) tuples.tuples
answer_names (answer.Inconsistent version broken) = broken_names broken

-- why a query has no answer, where this was its limit
abbrev pub fault_text : (place limit : ℕ) → AskFault → Text
fault_text place limit ask.NoPin = words_line (codes "ask no pin" ∷ [])
fault_text place limit (ask.TooMany version) =
    asked_text place version (words_line (codes "more than" ∷ decimal limit ∷ codes "answers" ∷ []))
fault_text place limit ask.NoMemory = words_line (codes "ask no memory" ∷ [])

-- ---- commands

-- the place of a pin; where there is none, nothing is printed of it
abbrev pub place_of : Option Placed → ℕ
place_of (Some pinned) = pinned.place
place_of None = 0

-- what becomes of a command: of a query, where this is the pin of its stream, and this its limit
abbrev pub outcome_text : List Text → Option Placed → ℕ → Outcome → Text
outcome_text names pinned limit (outcome.Placed placed) = reply_text names placed.place placed.reply
outcome_text names pinned limit (outcome.Asked answer) = answer_text names (place_of pinned) answer
outcome_text names pinned limit (outcome.AskRefused fault) = fault_text (place_of pinned) limit fault
outcome_text names pinned limit outcome.Spent = words_line (codes "spent" ∷ [])
outcome_text names pinned limit outcome.NoMemory = words_line (codes "no memory" ∷ [])

-- the names in it
abbrev pub outcome_names : Outcome → List ℕ
outcome_names (outcome.Placed placed) = reply_names placed.reply
outcome_names (outcome.Asked answer) = answer_names answer
outcome_names other = []

-- the version at which a query was asked, where its outcome tells one
abbrev pub asked_version : Outcome → Option ℕ
asked_version (outcome.Asked answer) = Some (answer_version answer)
asked_version (outcome.AskRefused (ask.TooMany version)) = Some version
asked_version other = None

-- there is a pin, and it is at this version
abbrev pub IsPinnedAt : Option Placed → ℕ → Type 0
IsPinnedAt (Some pinned) version = pinned.reply ≡ Pinned version
IsPinnedAt None version = ⊥

-- where an outcome tells a version, that is the version of the pin
abbrev pub IsAtItsPin : Option Placed → Outcome → Type 0
IsAtItsPin pinned outcome = IfSome (asked_version outcome) (IsPinnedAt pinned)
