-- Names in byte order, and the rank of each place among them. That a name's number is its rank is this project's own.
use Rattle.std.specs.Prelude.{◌≡◌, ℕ, ◌<◌, List, length, slice_get, slice_index, AllPairs}
use Rattle.std.specs.declared.cmp.Ordering.{Ordering}
use Rattle.std.specs.Ordering.{nat_cmp}
use Rattle.std.specs.Cmp.Lexicographic.{slice_cmp}
use Rattle.std.specs.declared.cmp.Ordering.TheVariants.{Less}
use Rattle.dl_names.specs.NameList.{Text, has_name, HasNoRepeats}

-- byte order, as Rust's `Ord` of `str`: the first byte that differs decides, and a text is before the longer ones
-- that it begins
abbrev pub text_cmp : Text → Text → Ordering
text_cmp = slice_cmp nat_cmp

-- x is before y in byte order
abbrev pub IsBefore : Text → Text → Type 0
IsBefore x y = text_cmp x y ≡ Less

-- each name is before all that follow it
abbrev pub IsAscending : List Text → Type 0
IsAscending names = AllPairs IsBefore names

-- names are the texts of the set in ascending order, and ranks has for each place of the set the number of its text
-- among the names
pub record IsFrozen (set names : List Text) (ranks : List ℕ) : Type 0 where
  pub distinct : HasNoRepeats set
  pub members : (text : Text) → has_name names text ≡ has_name set text
  pub as_many : length names ≡ length set
  pub ascending : IsAscending names
  pub one_each : length ranks ≡ length set
  pub ranked : (p : ℕ) → p < length set → slice_get names (slice_index ranks p) ≡ slice_get set p
