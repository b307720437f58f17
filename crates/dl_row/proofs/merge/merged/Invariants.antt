use Rattle.dl_row.proofs.MergeLemmas.{ArePast, Merges}
use Rattle.dl_row.proofs.merge.merged.Given as goal

abbrev pub invariant-loop-i : goal.invariant-loop-i
invariant-loop-i l = record {
  past : ArePast l.places l.place l.i;
  merges : Merges l.rows l.places l.new l.merged.items l.i l.at;
}
