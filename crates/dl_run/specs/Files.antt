-- Why reading a file of the input gives no bytes.
use Rattle.std.specs.Prelude.{◌≡◌, ◌<◌, ℕ, List, length, Option, IfSome}
use Rattle.dl_io.specs.Files.{max_bytes}
use Rattle.dl_run.specs.declared.stop.InputFile.{InputFile}
use Rattle.dl_run.specs.declared.stop.Refusal.TheVariants.{TooLong}
use Rattle.dl_run.specs.declared.stop.Stop.{Stop}
use Rattle.dl_run.specs.declared.stop.Stop.TheVariants.{Refused, ReadFault, NoMemory}

-- the file of this name is too long, a fault of reading was counted (Fault), or there was no memory
abbrev pub IsFileStop : InputFile → Option (List ℕ → List ℕ) → List ℕ → Type 0 → Stop → Type 0
IsFileStop which told name Fault (Refused refusal) =
    IfSome told (λ file_of. max_bytes < length (file_of name)) × (refusal ≡ TooLong which)
IsFileStop which told name Fault ReadFault = Fault
IsFileStop which told name Fault NoMemory = Unit {0}
