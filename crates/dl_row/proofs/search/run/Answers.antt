use Rattle.std.proofs.Common.{length, sym, subst}
use Rattle.dl_row.specs.Searching.{Bounds, Divides}
use Rattle.dl_row.proofs.ScanLemmas.{Bounds-behind, run_is}
use Rattle.dl_row.proofs.search.run.Goals as goal

pub rows_below-high-requires : goal.rows_below-high-requires
rows_below-high-requires g c =
    let rows = g.R.Rows.rows c.args.rows.now in
    let low = c.rows_below-low.result in
    subst (λ q. Bounds q rows low (length rows)) (sym c.least_with-2.ensures)
    (Bounds-behind c.args.epoch c.args.kind c.args.range.0 c.args.range.1 rows low c.requires.inhabited
    (subst (λ q. Divides q rows low) c.least_with.ensures c.rows_below-low.ensures.place))

pub returns-clause-run : goal.returns-clause-run
returns-clause-run g c =
    let rows = g.R.Rows.rows c.args.rows.now in
    run_is c.args.epoch c.args.kind c.args.range.0 c.args.range.1 rows c.rows_below-low.result c.rows_below-high.result c.rows_below-high.ensures.behind
    (subst (λ q. Divides q rows c.rows_below-low.result) c.least_with.ensures c.rows_below-low.ensures.place)
    (subst (λ q. Divides q rows c.rows_below-high.result) c.least_with-2.ensures c.rows_below-high.ensures.place)
