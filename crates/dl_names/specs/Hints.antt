-- What is known at a guessed place.
use Rattle.std.specs.Prelude.{◌≡◌, ◌<◌, List, Some, length, slice_get}
use Rattle.dl_names.specs.declared.hints.Known.{Known}
use Rattle.dl_names.specs.NameList.{Text}

-- where the place is one of a name, the text is that name
abbrev pub IsKnown : List Text → Known → Type 0
IsKnown names known = known.place < length names → slice_get names known.place ≡ Some known.text.now
