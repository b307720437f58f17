-- Rows that a sweep may drop are seen at no version from the horizon on.
use Rattle.std.proofs.Common.{◌≡◌, ℕ, ◌≤◌, true, false, nat_le, nat_lt, arith}
use Rattle.std.proofs.lemmas.Bool.{leb-true, le-ltb, and_right}
use Rattle.dl_row.specs.Rows.{visible}
use Rattle.dl_row.specs.declared.row.Row.{Row}
use Rattle.dl_migrate.specs.Sweeping.{is_over}

pub over_unseen : (horizon v : ℕ) (r : Row) → horizon ≤ v → is_over horizon r ≡ true → visible v r ≡ false
over_unseen horizon v r h over =
    let ends = leb-true r.last horizon over in
    and_right (nat_le r.first v) (nat_lt v r.last) (le-ltb v r.last (omega (arith, ends, h)))
