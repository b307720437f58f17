use Rattle.dl_tree.specs.TestsOf.{no_rows}
use Rattle.dl_tree.proofs.EachLemmas.{IsEach-none, IsEach-push}
use Rattle.dl_tree.proofs.asked.rows_of_atoms.Goals as goal

pub loop-i-init : goal.loop-i-init
loop-i-init c = λ axioms of. IsEach-none no_rows _ c.new-rows.result c.new-rows.ensures

pub loop-i-preserved : goal.loop-i-preserved
loop-i-preserved c = λ axioms of.
    IsEach-push no_rows _ c.loop-i.i c.loop-i.rows c.push.new.self c.in_ok-rows_of_atom.field-0 (c.loop-i.invariant axioms of)
    (c.in_ok-rows_of_atom.ensures axioms of) c.in_ok-push.ensures.ok
