-- The order of rows is total.
use Rattle.std.specs.Cmp.{IsTotalOrder, nat_cmp_total, then_total, on_total}
use Rattle.dl_row.specs.Rows.{kind_number, row_cmp}

pub row_total : IsTotalOrder row_cmp
row_total =
    then_total (on_total (λ r. r.epoch) nat_cmp_total)
    (then_total (on_total (λ r. kind_number r.kind) nat_cmp_total)
    (then_total (on_total (λ r. r.number) nat_cmp_total)
    (then_total (on_total (λ r. r.s) nat_cmp_total)
    (then_total (on_total (λ r. r.o) nat_cmp_total)
    (then_total (on_total (λ r. r.first) nat_cmp_total) (on_total (λ r. r.last) nat_cmp_total))))))
