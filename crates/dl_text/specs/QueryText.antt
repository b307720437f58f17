-- The text of a query, with variables by number. Its form is this project's own.
use Rattle.std.specs.Prelude.{ℕ, List, [], ◌∷◌, ◌++◌, map, codes}
use Rattle.std.specs.Fmt.{decimal}
use Rattle.dl_names.specs.NameList.{Text}
use Rattle.dl_terms.specs.declared.query.Term.{Term}
use Rattle.dl_terms.specs.declared.query.Term.TheVariants.{Var, Name}
use Rattle.dl_terms.specs.declared.query.Atom.{Atom}
use Rattle.dl_terms.specs.declared.query.Atom.TheVariants as atom
use Rattle.dl_terms.specs.declared.query.Query.{Query}
use Rattle.dl_text.specs.NameText.{name_text, comma_joined}

-- a variable by its number
abbrev pub variable_text : ℕ → Text
variable_text v = codes "?v" ++ decimal v

module _ (names : List Text) where
  abbrev pub term_text : Term → Text
  term_text (Var v) = variable_text v
  term_text (Name a) = name_text names a

  abbrev pub atom_text : Atom → Text
  atom_text (atom.Is c t) = name_text names c ++ (40 ∷ term_text t ++ 41 ∷ [])
  atom_text (atom.Link p t u) = name_text names p ++ (40 ∷ term_text t ++ (codes ", " ++ (term_text u ++ 41 ∷ [])))

  abbrev pub query_text : Query → Text
  query_text q =
      codes "q(" ++ (comma_joined (map variable_text q.head) ++ (codes ") :- " ++ comma_joined (map atom_text q.atoms)))
