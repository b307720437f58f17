-- The lines of a text. RDF 1.1 N-Triples ends a triple by a run of line ends (EOL), so lines may be empty, and
-- the last one needs no end.
use Rattle.std.specs.Prelude.{◌≡◌, ℕ, Bool, true, not, ◌||◌, ◌==◌, List, [], ◌∷◌, ◌++◌}
use Rattle.std.specs.List.{list_all}

-- no carriage return and no line feed
abbrev pub is_line_byte : ℕ → Bool
is_line_byte b = not (b == 13 || b == 10)

-- a line: a run of bytes without carriage returns and line feeds; it may be empty
abbrev pub IsLine : List ℕ → Type 0
IsLine line = list_all is_line_byte line ≡ true

-- what ends a line before this rest: CR LF, LF, or a CR with no LF behind it
pub data IsLineEnd : List ℕ → List ℕ → Type 0 where
  cr_lf : {rest : List ℕ} → IsLineEnd (13 ∷ 10 ∷ []) rest
  lf : {rest : List ℕ} → IsLineEnd (10 ∷ []) rest
  cr : {rest : List ℕ} → ((more : List ℕ) → rest ≡ 10 ∷ more → ⊥) → IsLineEnd (13 ∷ []) rest

-- the bytes are these lines, each ended by a line end, but for the last one, which the end of the bytes
-- ends
pub data AreLines : List ℕ → List (List ℕ) → Type 0 where
  last : {line : List ℕ} → IsLine line → AreLines line (line ∷ [])
  ended : {bytes line end rest : List ℕ} {lines : List (List ℕ)}
      → IsLine line → IsLineEnd end rest → bytes ≡ line ++ (end ++ rest)
      → AreLines rest lines → AreLines bytes (line ∷ lines)
