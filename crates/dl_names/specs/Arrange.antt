-- The steps from a set of names to names in order, for private functions.
use Rattle.std.specs.Prelude.{◌≡◌, ℕ, ◌<◌, All, List, [], ◌∷◌, length, map, take, drop, slice_index, slice_index_or, String, string_bytes}
use Rattle.std.specs.Int.{w64, from_be_bytes}
use Rattle.std.specs.declared.alloc.Global.{Global}
use Rattle.std.specs.Borrow.{Bor}
use Rattle.dl_names.specs.NameList.{Text}

-- the first eight bytes of a text as a number, the first one the highest; zeros stand for bytes that it lacks
abbrev pub front : Text → ℕ
front text = from_be_bytes w64 (map (slice_index text) (0 ∷ 1 ∷ 2 ∷ 3 ∷ 4 ∷ 5 ∷ 6 ∷ 7 ∷ []))

-- a text between the number of its front and its place
abbrev pub Entry : Type 0
Entry = ℕ × Bor (List ℕ) × ℕ

-- the texts begin with the same bytes, as many as n
abbrev pub AreAlike : ℕ → List (String Global) → Type 0
AreAlike n texts = (start : Text) × All (λ text. take n (string_bytes text) ≡ start) texts

-- the number is that of the text's front, behind as many bytes as are skipped
pub record IsFronted (skip : ℕ) (entry : Entry) : Type 0 where
  pub number : entry.0 ≡ front (drop skip entry.1.now)
  pub bytes : (i : ℕ) → slice_index entry.1.now i < 256

-- the entries are the texts in order, each with its place
pub record ArePlaced (skip : ℕ) (texts : List (String Global)) (entries : List Entry) : Type 0 where
  pub as_many : length entries ≡ length texts
  pub shown : map (λ entry. entry.1.now) entries ≡ map string_bytes texts
  pub places : (k : ℕ) (d : Entry) → k < length entries → (slice_index_or entries k d).2 ≡ k
  pub fronted : All (IsFronted skip) entries
