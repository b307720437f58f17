use Rattle.std.proofs.Common.{length, ap, arith}
use Rattle.dl_edits.proofs.FewLemmas.{auxiliaries_are}
use Rattle.dl_edits.proofs.AuxiliaryLemmas.{auxiliaries_weigh}
use Rattle.dl_edits.proofs.counts.predicate_count.Goals as goal

pub overflow_add-result : goal.overflow_add-result
overflow_add-result c =
    let axioms = c.args.axioms.now in
    let few = c.name_count-names.ensures.few in
    let are = auxiliaries_are axioms c.in_ok-auxiliaries.field-0 c.in_ok-auxiliaries.ensures in
    let weigh = auxiliaries_weigh axioms in
    let light = c.requires.light in
    omega (arith, few, are, weigh, light)

pub returns : goal.returns
returns c =
    let axioms = c.args.axioms.now in
    let count = c.name_count-names.ensures.count in
    let are = auxiliaries_are axioms c.in_ok-auxiliaries.field-0 c.in_ok-auxiliaries.ensures in
    let classes = ap length c.as_slice.ensures in
    let roles = ap length c.as_slice-2.ensures in
    omega (arith, count, are, classes, roles)
