use Rattle.std.proofs.Common.{[]}
use Rattle.dl_tree.specs.Each.{IsEach}
use Rattle.dl_tree.specs.Plans.{IsRowFor, TellsBelowFor}
use Rattle.dl_tree.proofs.table.rows_to.Given as goal

abbrev pub invariant-loop-s : goal.invariant-loop-s
invariant-loop-s l = record {
  rows : IsEach [] l.s (IsRowFor l.hier l.links l.atoms l.last) l.rows;
  below : IsEach [] l.s (TellsBelowFor l.hier l.links l.atoms l.last) l.below;
}
