-- The length of files, and files in memory: a list of names with their bytes.
use Rattle.std.specs.Prelude.{ℕ, ◌≢◌, List, [], ◌++◌, map, length, take, drop, Option, unwrap_or, String, string_bytes, Vec}
use Rattle.std.specs.declared.alloc.Global.{Global}
use Rattle.std.specs.Str.{bytes_eq}
use Rattle.std.specs.Map.{lookup, keys_of}
use Rattle.std.specs.List.{AllPairs}

-- the longest file that is read, in bytes
abbrev pub max_bytes : ℕ
max_bytes = 268435456

-- the names and the bytes of these files
abbrev pub files_of : List (String Global × Vec ℕ Global) → List (List ℕ × List ℕ)
files_of files = map (λ file. (string_bytes file.0, file.1.items)) files

-- the bytes of the file of this name, if it is there
abbrev pub file_at : List (List ℕ × List ℕ) → List ℕ → Option (List ℕ)
file_at files name = lookup (bytes_eq name) files

-- the bytes of the file of this name, where a file that isn't there is empty
abbrev pub bytes_of : List (List ℕ × List ℕ) → List ℕ → List ℕ
bytes_of files name = unwrap_or (file_at files name) []

-- no two files have one name
abbrev pub HaveDifferentNames : List (List ℕ × List ℕ) → Type 0
HaveDifferentNames files = AllPairs (λ one other. one ≢ other) (keys_of files)

-- what stands in a file from a place on, as far as there is room for it
abbrev pub part_of : List ℕ → ℕ → ℕ → List ℕ
part_of file from room = take room (drop from file)

-- a buffer after these bytes were copied to its front
abbrev pub with_front : List ℕ → List ℕ → List ℕ
with_front bytes buffer = bytes ++ drop (length bytes) buffer
