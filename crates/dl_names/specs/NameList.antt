-- Lists of names: texts in the order in which they were first named. Places and their limit are this project's own.
use Rattle.std.specs.Prelude.{ℕ, ◌≡◌, ◌≢◌, Bool, not, ◌&&◌, nat_le, List, [], ◌∷◌, ◌++◌, length, if◌then◌else◌, AllPairs}
use Rattle.std.specs.List.{list_any, position_or_len}
use Rattle.std.specs.Str.{bytes_eq}

-- the most names of a run
abbrev pub max_names : ℕ
max_names = 4000000

-- a text, by the bytes of its UTF-8
abbrev pub Text : Type 0
Text = List ℕ

-- whether the text is among the names
abbrev pub has_name : List Text → Text → Bool
has_name names text = list_any (bytes_eq text) names

-- the names after a text is named: a text that is among them changes nothing, and a new one goes last
abbrev pub names_after : List Text → Text → List Text
names_after names text = if has_name names text then names else names ++ text ∷ []

-- the place of the text by first occurrence: how many names stand before it
abbrev pub place_of : List Text → Text → ℕ
place_of names text = position_or_len (bytes_eq text) names

-- a name that isn't met yet has no place where there are as many as there may be
abbrev pub has_no_place : List Text → Text → Bool
has_no_place names text = not (has_name names text) && nat_le max_names (length names)

-- no text stands at two places
abbrev pub HasNoRepeats : List Text → Type 0
HasNoRepeats names = AllPairs (λ x y. x ≢ y) names

-- new has the names of old, each at its place, and maybe more after them
pub record Extends (old new : List Text) : Type 0 where
  pub more : List Text
  pub is : new ≡ old ++ more
