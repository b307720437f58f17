-- Sets of axioms, facts and names, as lists that ascend strictly. That is this project's own.
use Rattle.std.specs.Prelude.{List, ◌↔◌}
use Rattle.std.specs.declared.cmp.Ordering.{Ordering}
use Rattle.std.specs.List.{Contains}
use Rattle.std.specs.List.Sorted.{IsStrictlySortedBy}

-- the set of the items of a list: each once, ascending
pub record IsSetOf {A : Type 0} (cmp : A → A → Ordering) (set items : List A) : Type 0 where
  pub ascending : IsStrictlySortedBy cmp set
  pub members : (x : A) → Contains set x ↔ Contains items x
