use Rattle.dl_core.proofs.NewRowLemmas.{class_row, role_row}
use Rattle.dl_core.proofs.new_rows.row_of.Goals as goal

pub returns-in-Is : goal.returns-in-Is
returns-in-Is c =
    λ first. class_row c.args.epoch.now c.id.ensures.frozen first c.args.version c.id.result c.class_number.result
    c.args.fact c.id.ensures.id c.in-Is.class c.in-Is.who c.in-Is.is c.class_number.ensures

pub returns-in-Link : goal.returns-in-Link
returns-in-Link c =
    λ first. role_row c.args.epoch.now c.id-in-Link.ensures.frozen first c.args.version c.id-in-Link.result
    c.role_number.result c.args.fact c.id-in-Link.ensures.id c.in-Link.role c.in-Link.from c.in-Link.to c.in-Link.is
    c.role_number.ensures
