-- Rows that a sweep may drop. They are this project's own.
use Rattle.std.specs.Prelude.{ℕ, Bool, nat_le}
use Rattle.dl_row.specs.declared.row.Row.{Row}

-- a row that ends by a horizon
abbrev pub is_over : ℕ → Row → Bool
is_over horizon r = nat_le r.last horizon
