-- The table of folds of a query over the roles of a hierarchy. That it has a row for each number of a set is this
-- project's own.
use Rattle.std.specs.Prelude.{ℕ, ◌<◌, ◌^◌, ◌↔◌, List, [], length, slice_index_or}
use Rattle.std.specs.List.{Contains}
use Rattle.std.specs.List.Sorted.{IsStrictlySortedBy}
use Rattle.dl_terms.specs.Order.{role_cmp}
use Rattle.dl_terms.specs.Queries.{existential_variables}
use Rattle.dl_terms.specs.declared.role.Role.{Role}
use Rattle.dl_terms.specs.declared.axiom.Axiom.{Axiom}
use Rattle.dl_terms.specs.declared.query.Query.{Query}
use Rattle.dl_tree.specs.Sets.{IsConnected}
use Rattle.dl_tree.specs.Folds.{IsGeneratingRole}
use Rattle.dl_tree.specs.Masks.{set_of}

-- the row of a number: ascending, exactly the roles into whose trees its set folds, where it stands for a connected set
-- of existential variables
pub record IsRowOf (axioms : List Axiom) (roles : List Role) (q : Query) (number : ℕ) (row : List Role) : Type 0 where
  pub ascending : IsStrictlySortedBy role_cmp row
  pub exact : (t : Role) → Contains row t ↔ ((number < 2 ^ length (existential_variables q))
      × IsConnected q (set_of (existential_variables q) number)
      × IsGeneratingRole axioms roles q (set_of (existential_variables q) number) t)

-- a table has the row of each number below 256
abbrev pub IsTableOf : List Axiom → List Role → Query → List (List Role) → Type 0
IsTableOf axioms roles q rows =
    (number : ℕ) → number < 256 → IsRowOf axioms roles q number (slice_index_or rows number [])
