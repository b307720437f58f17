use Rattle.std.proofs.Common.{◌*◌, ◌-◌, ◌≤◌, List, length}
use Rattle.dl_terms.specs.declared.axiom.Axiom.{Axiom}
use Rattle.dl_hier.specs.Predicates.{roles}
use Rattle.dl_hier.specs.Hierarchy.{IsHierarchyOf}
use Rattle.dl_tree.specs.Rows.{TellsRow}
use Rattle.dl_tree.proofs.LeadLemmas.{LeadsBelow}
use Rattle.dl_tree.proofs.rows.followed.Given as goal

abbrev pub invariant-loop-i : goal.invariant-loop-i
invariant-loop-i l = record {
  le : l.start ≤ length (roles l.hier.predicates);
  wide : length (roles l.hier.predicates) ≤ 64 * length l.found.items;
  told : (axioms : List Axiom) → IsHierarchyOf l.hier axioms
      → TellsRow (length (roles l.hier.predicates)) (LeadsBelow axioms (roles l.hier.predicates) l.row l.start) l.found.items;
}

abbrev pub decreases-loop-i : goal.decreases-loop-i
decreases-loop-i l = length (roles l.hier.predicates) - l.start
