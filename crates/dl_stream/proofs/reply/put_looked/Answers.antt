use Rattle.std.proofs.Common.{length, ap, sym, subst, codes, ◌++◌}
use Rattle.std.specs.List.{flat_map}
use Rattle.dl_text.specs.NameText.{AreBelow}
use Rattle.dl_text.proofs.TextLemmas.{below_left, below_right}
use Rattle.dl_stream.specs.Lines.{individuals, predicate_lines, row_line}
use Rattle.dl_io.proofs.PrintLemmas.{prints_as, prints_failed, prints_then}
use Rattle.dl_stream.proofs.reply.put_looked.Goals as goal

pub put_predicates-requires : goal.put_predicates-requires
put_predicates-requires g c =
    let look = c.args.look.now in
    let count = length c.args.names.now in
    subst (AreBelow count) (sym c.as_slice.ensures) (below_left count look.classes (look.roles ++ flat_map individuals look.rows) c.requires)

pub put_predicates-requires-2 : goal.put_predicates-requires-2
put_predicates-requires-2 g c =
    let look = c.args.look.now in
    let count = length c.args.names.now in
    let rows = flat_map individuals look.rows in
    subst (AreBelow count) (sym c.as_slice-2.ensures) (below_left count look.roles rows (below_right count look.classes (look.roles ++ rows) c.requires))

pub put_rows-requires : goal.put_rows-requires
put_rows-requires g c =
    let look = c.args.look.now in
    let count = length c.args.names.now in
    let rows = flat_map individuals look.rows in
    subst (λ l. AreBelow count (flat_map individuals l)) (sym c.as_slice-3.ensures)
    (below_right count look.roles rows (below_right count look.classes (look.roles ++ rows) c.requires))

pub returns-in_err-put_counts : goal.returns-in_err-put_counts
returns-in_err-put_counts g c = prints_failed _ c.from_residual.ensures.0 c.in_err-put_counts.ensures

pub returns-in_err-put_predicates : goal.returns-in_err-put_predicates
returns-in_err-put_predicates g c =
    prints_then c.in_ok-put_counts.ensures
    (prints_failed _ c.from_residual-in_err-put_predicates.ensures.0
    (prints_as (ap (predicate_lines c.args.names.now (codes "class")) c.as_slice.ensures) c.in_err-put_predicates.ensures))

pub returns-in_err-put_predicates-2 : goal.returns-in_err-put_predicates-2
returns-in_err-put_predicates-2 g c =
    prints_then c.in_ok-put_counts.ensures
    (prints_then (prints_as (ap (predicate_lines c.args.names.now (codes "class")) c.as_slice.ensures) c.in_ok-put_predicates.ensures)
    (prints_failed _ c.from_residual-in_err-put_predicates-2.ensures.0
    (prints_as (ap (predicate_lines c.args.names.now (codes "role")) c.as_slice-2.ensures) c.in_err-put_predicates-2.ensures)))

pub returns : goal.returns
returns g c =
    let look = c.args.look.now in
    prints_then c.in_ok-put_counts.ensures
    (prints_then (prints_as (ap (predicate_lines c.args.names.now (codes "class")) c.as_slice.ensures) c.in_ok-put_predicates.ensures)
    (prints_then (prints_as (ap (predicate_lines c.args.names.now (codes "role")) c.as_slice-2.ensures) c.in_ok-put_predicates-2.ensures)
    (prints_as (ap (flat_map (row_line c.args.names.now look.epoch)) c.as_slice-3.ensures) c.put_rows.ensures)))
