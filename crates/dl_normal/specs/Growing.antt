-- A normal form that is being made, for private functions.
use Rattle.std.specs.Prelude.{◌≡◌, ℕ, List, ◌++◌, map}
use Rattle.std.specs.List.{filter_map}
use Rattle.dl_terms.specs.NormalForm.{Row, as_role_in, as_concept_in, as_negative}
use Rattle.dl_terms.specs.declared.role.Normal.{Normal}

-- the new one has these rows of the axiom at an index too, behind what the old one has
pub record Gains (index : ℕ) (rows : List Row) (old new : Normal) : Type 0 where
  pub roles : new.roles ≡ old.roles ++ filter_map as_role_in rows
  pub concepts : new.concepts ≡ old.concepts ++ filter_map as_concept_in rows
  pub negatives : new.negatives ≡ old.negatives ++ map (λ n. (index, n)) (filter_map as_negative rows)
