-- The normal form sorted into its three lists, with each negative beside the index of its axiom. The rows are those of
-- `NormalForm` of `dl_terms`; that they are sorted is this project's own.
use Rattle.std.specs.Prelude.{◌≡◌, ℕ, List, map}
use Rattle.std.specs.List.{flat_map, filter_map, enumerate_from}
use Rattle.dl_terms.specs.NormalForm.{axiom_rows, as_negative, role_inclusions, concept_inclusions}
use Rattle.dl_terms.specs.declared.role.Negative.{Negative}
use Rattle.dl_terms.specs.declared.role.Normal.{Normal}
use Rattle.dl_terms.specs.declared.axiom.Axiom.{Axiom}

-- the negatives of an axiom at an index, each beside that
abbrev pub indexed_negatives : ℕ × Axiom → List (ℕ × Negative)
indexed_negatives a = map (λ n. (a.0, n)) (filter_map as_negative (axiom_rows a.1))

-- the negatives of the axioms in axiom order, each beside the index of its axiom in the list, from 0
abbrev pub negatives_by_index : List Axiom → List (ℕ × Negative)
negatives_by_index axioms = flat_map indexed_negatives (enumerate_from 0 axioms)

-- these are the normal form of the axioms
pub record IsNormalForm (axioms : List Axiom) (normal : Normal) : Type 0 where
  pub roles : normal.roles ≡ role_inclusions axioms
  pub concepts : normal.concepts ≡ concept_inclusions axioms
  pub negatives : normal.negatives ≡ negatives_by_index axioms
