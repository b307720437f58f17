-- Runs of bytes at the front, for the private readers.
use Rattle.std.specs.Prelude.{◌≡◌, ℕ, Bool, true, false, List, [], ◌∷◌, ◌++◌, if◌then◌else◌}
use Rattle.std.specs.List.{list_all}
use Rattle.std.specs.Char.{is_ascii_alphabetic, is_ascii_alphanumeric}
use Rattle.dl_triples.specs.declared.runs.Class.{Class}
use Rattle.dl_triples.specs.declared.runs.Class.TheVariants.{Blank, Plain, Letter, LetterOrDigit, Line}
use Rattle.dl_triples.specs.Lines.{is_line_byte}
use Rattle.dl_triples.specs.Spelling.{is_plain}
use Rattle.dl_triples.specs.Terms.{is_blank}

-- the bytes of a class
abbrev pub admits : Class → ℕ → Bool
admits Blank = is_blank
admits (Plain quoting) = is_plain quoting
admits Letter = is_ascii_alphabetic
admits LetterOrDigit = is_ascii_alphanumeric
admits Line = is_line_byte

-- what stands behind the bytes at the front that pass
abbrev pub behind : (ℕ → Bool) → List ℕ → List ℕ
behind p [] = []
behind p (b ∷ bytes) = if p b then behind p bytes else b ∷ bytes

-- whether the first byte passes
abbrev pub begins : (ℕ → Bool) → List ℕ → Bool
begins p [] = false
begins p (b ∷ bytes) = p b

-- the bytes are a run of bytes that pass, and a rest that begins with none
pub record IsSplit (p : ℕ → Bool) (bytes run rest : List ℕ) : Type 0 where
  pub parts : bytes ≡ run ++ rest
  pub passes : list_all p run ≡ true
  pub ends : begins p rest ≡ false
