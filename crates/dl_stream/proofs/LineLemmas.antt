-- Lines of replies and rows, as they are printed piece by piece.
use Rattle.std.proofs.Common.{◌≡◌, ◌≤◌, ◌+◌, ◌<◌, ◌==◌, ℕ, zero, suc, Bool, true, false, if◌then◌else◌, List, [], ◌∷◌, ◌++◌, length, map, get_or, codes, refl, sym, ap, ◌∙◌, arith, append_assoc}
use Rattle.std.proofs.lemmas.List.{append-nil}
use Rattle.std.proofs.lemmas.List.Folds.{flat_map-map}
use Rattle.std.proofs.lemmas.List.FromFn.{length-enumerate_from, get_or-enumerate_from}
use Rattle.std.specs.List.{flat_map, enumerate_from}
use Rattle.std.specs.Fmt.{decimal}
use Rattle.dl_names.specs.NameList.{Text}
use Rattle.dl_text.specs.NameText.{name_text}
use Rattle.dl_row.specs.declared.row.Row.{Row}
use Rattle.dl_stream.specs.Lines.{line, spaced, words_line, fact_words, row_line}
use Rattle.dl_stream.specs.Outcomes.{asked_text}
use Rattle.dl_stream.specs.Pieces.{row_start, row_rest}
use Rattle.dl_text.proofs.LineLemmas.{text_numbered}

-- the line of a predicate, where numbers go from 1
abbrev pub numbered_line : List Text → Text → ℕ × ℕ → Text
numbered_line names word numbered = words_line (word ∷ decimal numbered.0 ∷ name_text names numbered.1 ∷ [])

-- the line of the next one
pub line_next : (names : List Text) (word : Text) (predicates : List ℕ) (i : ℕ) → i < length predicates
    → numbered_line names word (i + 1, get_or predicates i 0) ≡ numbered_line names word (get_or (enumerate_from 1 predicates) i (0, 0))
line_next names word predicates i within =
    ap (λ n. numbered_line names word (n, get_or predicates i 0)) (omega arith)
    ∙ text_numbered (numbered_line names word) 1 predicates i (0, 0) within

-- ---- the line of a row

-- it begins with what it carries
pub row_printed : (names : List Text) (current : ℕ) (row : Row) → row_start current row.epoch ++ row_rest names row ≡ row_line names current row
row_printed names current row = by (row.epoch == current) row.epoch (fact_words names row)
  where
    by : (is_current : Bool) (carried : ℕ) (words : List Text)
        → (if is_current then codes "row" else codes "old " ++ decimal carried) ++ line (spaced words)
        ≡ words_line ((if is_current then codes "row" ∷ [] else codes "old" ∷ decimal carried ∷ []) ++ words)
    by true carried words = refl
    by false carried words = refl

-- ---- lines that are printed in parts

-- at which place and version a query was asked, and what stands behind that
pub asked_printed : (place version : ℕ) (rest : Text) → asked_text place version [] ++ rest ≡ asked_text place version rest
asked_printed place version rest = by (codes "ask place ") (decimal place) (codes " version ") (decimal version)
  where
    by : (text digits next two : Text) → (text ++ (digits ++ (next ++ (two ++ 32 ∷ [])))) ++ rest ≡ text ++ (digits ++ (next ++ (two ++ 32 ∷ rest)))
    by text digits next two = simp append_assoc

-- words with a space before each, and the end of the line
pub line_of_spaced : (words : List Text) → flat_map (λ word. 32 ∷ word) words ++ 10 ∷ [] ≡ line (spaced words)
line_of_spaced [] = refl
line_of_spaced (word ∷ words) =
    append_assoc (32 ∷ word) (flat_map (λ next. 32 ∷ next) words) (10 ∷ []) ∙ ap (λ l. 32 ∷ (word ++ l)) (line_of_spaced words)
