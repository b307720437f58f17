-- The names differ exactly if those of the rest do.
use Rattle.std.proofs.Common.{◌↔◌, length}
use Rattle.std.specs.List.{IsDistinct}
use Rattle.std.specs.Map.{keys_of}
use Rattle.std.specs.Str.{bytes_eq}
use Rattle.dl_io.specs.Files.{files_of}
use Rattle.dl_io.proofs.names.names_differ.Given as goal

abbrev pub invariant-loop-first : goal.invariant-loop-first
invariant-loop-first l = IsDistinct bytes_eq (keys_of (files_of l.rest)) ↔ IsDistinct bytes_eq (keys_of (files_of l.files))

abbrev pub decreases-loop-first : goal.decreases-loop-first
decreases-loop-first l = length l.rest
