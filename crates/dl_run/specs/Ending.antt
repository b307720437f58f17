-- How a command ends: its status, what its sink got, and the counts of faults.
use Rattle.std.specs.Prelude.{ℕ, ◌≡◌, ◌≤◌, ◌⊎◌, List, Option, IfSome}
use Rattle.dl_io.specs.Count.{HasRisen, NoneFalls}
use Rattle.dl_io.specs.Writing.{Gets, GetsPrefix}
use Rattle.dl_run.specs.declared.status.Status.{Status}
use Rattle.dl_run.specs.declared.status.Status.TheVariants.{Done, Usage, Refused, ReadFault, WriteFault, NoMemory}
use Rattle.dl_run.specs.Texts.{read_fault_text, no_memory_text}

-- What is seen of a run: its status, and before and after it what the library tells of its files, the counts of
-- faults of its names, what the sink got, where it tells it, and its count of faults.
pub record Run : Type 0 where
  pub status : Status
  pub told_before : Option (List ℕ → List ℕ)
  pub told : Option (List ℕ → List ℕ)
  pub reads_before : List ℕ → ℕ
  pub reads : List ℕ → ℕ
  pub got_before : Option (List ℕ)
  pub got : Option (List ℕ)
  pub writes_before : ℕ
  pub writes : ℕ

-- a fault of a file that is asked for was counted in the run
abbrev pub HasReadFault : (List ℕ → Type 0) → Run → Type 0
HasReadFault Asks run = (name : List ℕ) × Asks name × HasRisen (run.reads_before name) (run.reads name)

-- a fault of the sink was counted in the run
abbrev pub HasWriteFault : Run → Type 0
HasWriteFault run = HasRisen run.writes_before run.writes

-- What is printed is defined by the files (Prints), where the library tells them. A fault of reading was counted or not
-- (Fault).
module _ (Prints : (List ℕ → List ℕ) → Status → List ℕ → Type 0) (told : Option (List ℕ → List ℕ))
    (Fault : Type 0) where
  -- the text that goes with a status: the one that is printed, that of a fault of reading, or that of want of memory
  pub data Says : Status → List ℕ → Type 0 where
    done : {text : List ℕ} → IfSome told (λ file_of. Prints file_of Done text) → Says Done text
    usage : {text : List ℕ} → IfSome told (λ file_of. Prints file_of Usage text) → Says Usage text
    refused : {text : List ℕ} → IfSome told (λ file_of. Prints file_of Refused text) → Says Refused text
    read_fault : Fault → Says ReadFault read_fault_text
    no_memory : Says NoMemory no_memory_text

-- How printing a text ends: with the status that goes with it, or with a fault of the sink, which got a prefix of it.
pub data Printed (status : Status) (text : List ℕ) (before now : Option (List ℕ)) (writes_before writes : ℕ)
    : Status → Type 0 where
  whole : Gets before now text → Printed status text before now writes_before writes status
  part : GetsPrefix before now text → HasRisen writes_before writes
      → Printed status text before now writes_before writes WriteFault

-- What a run prints is defined by the files (Prints), and which files it asks for (Asks).
module _ (Prints : (List ℕ → List ℕ) → Status → List ℕ → Type 0) (Asks : List ℕ → Type 0) (run : Run) where
  -- where the library tells its files, the sink got a text that is printed with this status
  abbrev pub Wrote : Status → Type 0
  Wrote status =
      IfSome run.told_before (λ file_of.
      (text : List ℕ) × Prints file_of status text × Gets run.got_before run.got text)

  -- the sink got a prefix of a text that goes with some status
  abbrev pub WrotePart : Type 0
  WrotePart =
      (status : Status) × (text : List ℕ) × Says Prints run.told_before (HasReadFault Asks run) status text
      × GetsPrefix run.got_before run.got text

  -- where the library tells its files and no fault is counted, the status is that which is printed, or there was no
  -- memory
  abbrev pub IsComplete : Type 0
  IsComplete = IfSome run.told_before (λ file_of. (status : Status) (text : List ℕ) → Prints file_of status text
      → (HasReadFault Asks run → ⊥) → (HasWriteFault run → ⊥) → (run.status ≡ status) ⊎ (run.status ≡ NoMemory))

  -- how a run ends
  pub record Ends : Type 0 where
    -- where the library tells its files, the sink got the defined output
    pub done : run.status ≡ Done → Wrote Done
    pub refused : run.status ≡ Refused → Wrote Refused
    -- when each fault comes, and what the sink then got
    pub read_fault : run.status ≡ ReadFault → HasReadFault Asks run × Gets run.got_before run.got read_fault_text
    pub no_memory : run.status ≡ NoMemory → Gets run.got_before run.got no_memory_text
    pub write_fault : run.status ≡ WriteFault → HasWriteFault run
    pub part : run.status ≡ WriteFault → WrotePart
    pub complete : IsComplete
    -- what the library tells stays, and no count falls
    pub unchanged : run.told ≡ run.told_before
    pub reads : NoneFalls run.reads_before run.reads
    pub writes : run.writes_before ≤ run.writes
