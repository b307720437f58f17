-- How large a normal form is. That measure is this project's own.
use Rattle.std.specs.Prelude.{ℕ, List, length, max}
use Rattle.std.specs.List.{sum_by}
use Rattle.dl_terms.specs.NormalForm.{axiom_rows}
use Rattle.dl_terms.specs.declared.axiom.Axiom.{Axiom}

-- how many rows an axiom has, at least 1
abbrev pub axiom_weight : Axiom → ℕ
axiom_weight a = max (length (axiom_rows a)) 1

-- the weight of axioms: the sum of theirs
abbrev pub total_weight : List Axiom → ℕ
total_weight axioms = sum_by axiom_weight axioms
