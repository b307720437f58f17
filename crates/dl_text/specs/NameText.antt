-- The text of a name. That it is this one text is this project's own.
use Rattle.std.specs.Prelude.{ℕ, ◌<◌, All, List, [], ◌∷◌, ◌++◌, slice_get, unwrap_or}
use Rattle.std.specs.List.{flat_map}
use Rattle.dl_names.specs.NameList.{Text}

-- a name by its number: its IRI in full, in < and >
abbrev pub name_text : List Text → ℕ → Text
name_text names n = 60 ∷ unwrap_or (slice_get names n) [] ++ 62 ∷ []

-- the numbers are below the count of the names
abbrev pub AreBelow : ℕ → List ℕ → Type 0
AreBelow count numbers = All (λ n. n < count) numbers

-- texts with a comma and a space between them
abbrev pub comma_joined : List Text → Text
comma_joined [] = []
comma_joined (text ∷ texts) = text ++ flat_map (λ t. 44 ∷ 32 ∷ t) texts
