-- The lines in which rows are printed. Their form is this project's own.
use Rattle.std.specs.Prelude.{ℕ, List, [], ◌∷◌, ◌++◌, ◌==◌, map, codes, if◌then◌else◌}
use Rattle.std.specs.List.{flat_map, enumerate_from}
use Rattle.std.specs.Fmt.{decimal}
use Rattle.dl_names.specs.NameList.{Text}
use Rattle.dl_text.specs.NameText.{name_text}
use Rattle.dl_row.specs.declared.row.Kind.{Kind}
use Rattle.dl_row.specs.declared.row.Kind.TheVariants as kind
use Rattle.dl_row.specs.declared.row.Row.{Row}

-- a line: texts one after another, and a line feed
abbrev pub line : List Text → Text
line [] = 10 ∷ []
line (text ∷ texts) = text ++ line texts

-- each with a space before it
abbrev pub spaced : List Text → List Text
spaced texts = flat_map (λ text. codes " " ∷ text ∷ []) texts

-- a line of words, with one space between them
abbrev pub words_line : List Text → Text
words_line [] = line []
words_line (word ∷ words) = line (word ∷ spaced words)

-- ---- rows

-- predicates of one kind, each on a line behind this word and its number; numbers go from 1
abbrev pub predicate_lines : List Text → Text → List ℕ → Text
predicate_lines names word predicates =
    flat_map (λ numbered. words_line (word ∷ decimal numbered.0 ∷ name_text names numbered.1 ∷ []))
    (enumerate_from 1 predicates)

-- that a row carries the current epoch, or which other one
abbrev pub epoch_words : (current carried : ℕ) → List Text
epoch_words current carried =
    if carried == current then codes "row" ∷ [] else codes "old" ∷ decimal carried ∷ []

abbrev pub kind_word : Kind → Text
kind_word kind.Class = codes "class"
kind_word kind.Role = codes "role"

-- the individuals of a row: the one that is in a class, or the two that a role joins
abbrev pub individuals_by : Kind → (s o : ℕ) → List ℕ
individuals_by kind.Class s o = s ∷ []
individuals_by kind.Role s o = s ∷ o ∷ []

abbrev pub individuals : Row → List ℕ
individuals row = individuals_by row.kind row.s row.o

-- what a row says: its kind, the number of its predicate, and its individuals
abbrev pub fact_words : List Text → Row → List Text
fact_words names row = kind_word row.kind ∷ decimal row.number ∷ map (name_text names) (individuals row)

-- the line of a row, where this is the current epoch
abbrev pub row_line : List Text → (current : ℕ) → Row → Text
row_line names current row = words_line (epoch_words current row.epoch ++ fact_words names row)
