-- The lines of answers, and of a broken axiom. Their form is this project's own.
use Rattle.std.specs.Prelude.{ℕ, List, [], ◌∷◌, ◌++◌, length, map, codes}
use Rattle.std.specs.declared.option.Option.{Option}
use Rattle.std.specs.declared.option.Option.TheVariants.{Some, None}
use Rattle.std.specs.List.{flat_map}
use Rattle.std.specs.Fmt.{decimal}
use Rattle.dl_names.specs.NameList.{Text}
use Rattle.dl_terms.specs.Occurring.{axiom_names}
use Rattle.dl_terms.specs.declared.axiom.Axiom.{Axiom}
use Rattle.dl_text.specs.NameText.{name_text, comma_joined}
use Rattle.dl_text.specs.AxiomText.{axiom_text}

-- the line of a tuple of names
abbrev pub tuple_line : List Text → List ℕ → Text
tuple_line names tuple = 40 ∷ comma_joined (map (name_text names) tuple) ++ 41 ∷ 10 ∷ []

-- how many answers there are, and each on a line
abbrev pub answers_text : List Text → List (List ℕ) → Text
answers_text names tuples = codes "answers " ++ (decimal (length tuples) ++ 10 ∷ flat_map (tuple_line names) tuples)

-- a broken axiom; None stands for owl:Nothing
abbrev pub broken_text : List Text → Option Axiom → Text
broken_text names (Some broken) = axiom_text names broken
broken_text names None = codes "owl:Nothing"

-- the names in it
abbrev pub broken_names : Option Axiom → List ℕ
broken_names (Some broken) = axiom_names broken
broken_names None = []

-- the line that says that an axiom is broken
abbrev pub inconsistent_text : List Text → Option Axiom → Text
inconsistent_text names broken = codes "inconsistent " ++ (broken_text names broken ++ 10 ∷ [])
