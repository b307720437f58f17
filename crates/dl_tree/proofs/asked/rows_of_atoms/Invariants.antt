use Rattle.std.proofs.Common.{List, slice_index_or}
use Rattle.dl_terms.specs.declared.axiom.Axiom.{Axiom}
use Rattle.dl_hier.specs.Predicates.{roles}
use Rattle.dl_hier.specs.Hierarchy.{IsHierarchyOf}
use Rattle.dl_tree.specs.Each.{IsEach}
use Rattle.dl_tree.specs.TestsOf.{IsRowsOf, no_atom, no_rows}
use Rattle.dl_tree.proofs.asked.rows_of_atoms.Given as goal

abbrev pub invariant-loop-i : goal.invariant-loop-i
invariant-loop-i l = (axioms : List Axiom) → IsHierarchyOf l.hier axioms
    → IsEach no_rows l.i (λ k x. IsRowsOf axioms l.variables (roles l.hier.predicates) (slice_index_or l.atoms k no_atom) x) l.rows
