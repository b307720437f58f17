-- How far a text is read, for private functions.
use Rattle.std.specs.Prelude.{◌≡◌, ℕ, ◌+◌, ◌<◌, ◌≤◌, List, [], ◌∷◌, ◌++◌, length}
use Rattle.dl_names.specs.NameList.{Text}
use Rattle.dl_terms.specs.declared.axiom.Fact.{Fact}
use Rattle.dl_triples.specs.declared.line.Form.{Form}
use Rattle.dl_triples.specs.Lines.{IsLine, AreLines}
use Rattle.dl_triples.specs.Parts.{HasForm, LineThen}
use Rattle.dl_triples.specs.Reading.{AreRead}

-- the forms are those of lines at the front, each of which has its end, and behind them stands the rest
pub data AreCut : List ℕ → List Form → List ℕ → Type 0 where
  cut_none : {bytes : List ℕ} → AreCut bytes [] bytes
  cut_line : {bytes first behind rest : List ℕ} {form : Form} {forms : List Form}
      → IsLine first → LineThen bytes first behind → HasForm first form → AreCut behind forms rest
      → AreCut bytes (form ∷ forms) rest

-- the lines before the rest are read, and the next line has this number
pub record Read (bytes rest : List ℕ) (names now : List Text) (n : ℕ) (facts : List Fact)
    (skipped : ℕ) : Type 0 where
  pub done : List (List ℕ)
  pub cut : (lines : List (List ℕ)) → AreLines rest lines → AreLines bytes (done ++ lines)
  pub read : AreRead done names facts skipped now
  pub number : n ≡ 1 + length done
  pub few : skipped < n
  pub fits : n + length rest ≤ length bytes + 1
