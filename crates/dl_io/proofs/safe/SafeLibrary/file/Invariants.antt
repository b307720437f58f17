-- The name isn't among the files before.
use Rattle.std.proofs.Common.{◌≡◌, drop}
use Rattle.dl_io.specs.Files.{files_of, file_at}
use Rattle.dl_io.proofs.safe.SafeLibrary.file.Given as goal

abbrev pub invariant-loop-file : goal.invariant-loop-file
invariant-loop-file l = file_at (files_of (drop l.file-index l.file-items)) l.name ≡ file_at l.self l.name
