-- The index in the names is below their end, and the name there is that of the table.
use Rattle.std.proofs.Common.{sym, arith}
use Rattle.dl_terms.proofs.TableLemmas.{table_index}
use Rattle.dl_terms.proofs.tuples.Tuples.name.Goals as goal

pub overflow_mul-result : goal.overflow_mul-result
overflow_mul-result c = omega (arith, (table_index _ _ _ _ _ _ c.self.view_is c.self.invariant c.requires.row c.requires.column).0)

pub overflow_add-result : goal.overflow_add-result
overflow_add-result c = omega (arith, (table_index _ _ _ _ _ _ c.self.view_is c.self.invariant c.requires.row c.requires.column).0)

pub offset_bounds-names-i : goal.offset_bounds-names-i
offset_bounds-names-i c = omega (arith, (table_index _ _ _ _ _ _ c.self.view_is c.self.invariant c.requires.row c.requires.column).0)

pub bounds-names-i : goal.bounds-names-i
bounds-names-i c =
    rw c.as_slice-names.ensures.value (table_index _ _ _ _ _ _ c.self.view_is c.self.invariant c.requires.row c.requires.column).0

pub returns : goal.returns
returns c =
    rw c.as_slice-names.ensures.value (sym (table_index _ _ _ _ _ _ c.self.view_is c.self.invariant c.requires.row c.requires.column).1)
