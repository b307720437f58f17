-- One need and a head of its variables in order: the tuples are what the pairs have in the columns of these.
use Rattle.std.specs.Prelude.{◌≡◌, ℕ, Option, Some, None, List, [], ◌∷◌, take}
use Rattle.dl_terms.specs.declared.query.Term.{Term}
use Rattle.dl_terms.specs.declared.query.Term.TheVariants.{Var}
use Rattle.dl_join.specs.declared.need.Need.{Need}
use Rattle.dl_join.specs.declared.need.Column.{Column}
use Rattle.dl_join.specs.Needs.{in_column}

-- the variables of a need, in the order of its columns
abbrev pub other_variable : Option ℕ → List Term
other_variable None = []
other_variable (Some w) = Var w ∷ []

abbrev pub variables_of : Need → List Term
variables_of need = Var need.at ∷ other_variable need.other

-- there is one need, and the head is its variables
pub record IsDirect (needs : List Need) (head : List Term) : Type 0 where
  pub need : Need
  pub only : needs ≡ need ∷ []
  pub head_is : head ≡ variables_of need

-- the first names, one or two, of a pair from a column on
abbrev pub row_of : Column → ℕ → ℕ × ℕ → List ℕ
row_of column width p = take width (in_column column p ∷ p.1 ∷ [])
