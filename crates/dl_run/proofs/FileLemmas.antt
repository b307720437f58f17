-- What a fault of a file means for the command.
use Rattle.std.proofs.Common.{◌≡◌, ℕ, ◌<◌, List, length, Option, IfSome, refl}
use Rattle.dl_io.specs.Files.{max_bytes}
use Rattle.dl_io.specs.declared.whole.FileFault.{FileFault}
use Rattle.dl_io.specs.declared.whole.FileFault.TheVariants.{Failed, TooLong, NoMemory}
use Rattle.dl_run.specs.Files.{IsFileStop}
use Rattle.dl_run.specs.Stops.{stop_of_file}
use Rattle.dl_run.specs.declared.stop.InputFile.{InputFile}
use Rattle.dl_run.specs.declared.stop.Stop.{Stop}

pub file_stops : (which : InputFile) (told : Option (List ℕ → List ℕ)) (name : List ℕ) (Fault : Type 0) (fault : FileFault) (stop : Stop)
    → stop ≡ stop_of_file which fault → (fault ≡ Failed → Fault) → (fault ≡ TooLong → IfSome told (λ file_of. max_bytes < length (file_of name)))
    → IsFileStop which told name Fault stop
file_stops which told name Fault Failed stop is failed long = rw is (failed refl)
file_stops which told name Fault TooLong stop is failed long = rw is (long refl, refl)
file_stops which told name Fault NoMemory stop is failed long = rw is tt
