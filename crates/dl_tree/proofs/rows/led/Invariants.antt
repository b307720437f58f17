use Rattle.std.proofs.Common.{◌≡◌, ◌*◌, ◌≤◌, List, length, not}
use Rattle.std.specs.List.{count_by}
use Rattle.dl_terms.specs.declared.axiom.Axiom.{Axiom}
use Rattle.dl_hier.specs.Predicates.{roles}
use Rattle.dl_hier.specs.Hierarchy.{IsHierarchyOf}
use Rattle.dl_tree.proofs.LeadLemmas.{Searches}
use Rattle.dl_tree.proofs.rows.led.Given as goal

abbrev pub invariant-loop-i : goal.invariant-loop-i
invariant-loop-i l = record {
  as_many : length l.done.items ≡ length (roles l.hier.predicates);
  wide : length (roles l.hier.predicates) ≤ 64 * length l.found.items;
  searches : (axioms : List Axiom) → IsHierarchyOf l.hier axioms → Searches axioms (roles l.hier.predicates) l.row l.done.items l.found.items;
}

abbrev pub decreases-loop-i : goal.decreases-loop-i
decreases-loop-i l = count_by not l.done.items
