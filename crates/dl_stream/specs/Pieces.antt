-- The parts in which the line of a row is printed.
use Rattle.std.specs.Prelude.{ℕ, ◌==◌, List, ◌++◌, codes, if◌then◌else◌}
use Rattle.std.specs.Fmt.{decimal}
use Rattle.dl_names.specs.NameList.{Text}
use Rattle.dl_row.specs.declared.row.Row.{Row}
use Rattle.dl_stream.specs.Lines.{line, spaced, fact_words}

-- the beginning of the line of a row, and the rest of it
abbrev pub row_start : (current carried : ℕ) → Text
row_start current carried = if carried == current then codes "row" else codes "old " ++ decimal carried

abbrev pub row_rest : List Text → Row → Text
row_rest names row = line (spaced (fact_words names row))
