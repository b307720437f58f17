-- The variables of a query (Calvanese et al. 2007), and well-formed queries, whose limits are this project's own.
use Rattle.std.specs.Prelude.{ℕ, ◌<◌, ◌≤◌, Bool, not, ◌&&◌, List, [], ◌∷◌, ◌++◌, length, nat_eq}
use Rattle.std.specs.List.{All, Contains, filter, flat_map, list_any, range_with_len}
use Rattle.dl_terms.specs.declared.query.Term.{Term}
use Rattle.dl_terms.specs.declared.query.Term.TheVariants.{Var, Name}
use Rattle.dl_terms.specs.declared.query.Atom.{Atom}
use Rattle.dl_terms.specs.declared.query.Atom.TheVariants.{Is, Link}
use Rattle.dl_terms.specs.declared.query.Query.{Query}

abbrev pub term_variables : Term → List ℕ
term_variables (Var v) = v ∷ []
term_variables (Name a) = []

abbrev pub atom_variables : Atom → List ℕ
atom_variables (Is c t) = term_variables t
atom_variables (Link p t u) = term_variables t ++ term_variables u

-- the variables of the body, in the order of its terms
abbrev pub body_variables : Query → List ℕ
body_variables q = flat_map atom_variables q.atoms

-- a variable of the body that isn't in the head is existential
abbrev pub is_existential : Query → ℕ → Bool
is_existential q v = list_any (nat_eq v) (body_variables q) && not (list_any (nat_eq v) q.head)

-- the existential variables, ascending
abbrev pub existential_variables : Query → List ℕ
existential_variables q = filter (is_existential q) (range_with_len 0 q.vars)

-- a well-formed query: its limits are those of the program
pub record IsWellFormed (q : Query) : Type 0 where
  pub variables : All (λ v. v < q.vars) (body_variables q)
  pub head_in_body : All (Contains (body_variables q)) q.head
  pub some_atom : 1 ≤ length q.atoms
  pub atoms : length q.atoms ≤ 16
  pub existential : length (existential_variables q) ≤ 8
  pub head : length q.head ≤ 16
