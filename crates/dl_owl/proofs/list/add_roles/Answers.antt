use Rattle.std.proofs.Common.{[]}
use Rattle.dl_terms.specs.declared.role.Role.{Role}
use Rattle.dl_owl.specs.Expected.{prologue, roles_close}
use Rattle.dl_owl.specs.Walk.{here}
use Rattle.dl_owl.specs.Series.{Appends}
use Rattle.dl_owl.proofs.CursorLemmas.{not_kind}
use Rattle.dl_owl.proofs.SeriesLemmas.{exit_by, series_first, series_first_faults, series_next, series_next_faults, series_again, series_again_faults, series_closes, one_role, roles_series}
use Rattle.dl_owl.proofs.list.add_roles.Goals as goal

pub returns-in_err-add_role : goal.returns-in_err-add_role
returns-in_err-add_role c =
    exit_by (Appends (roles_close 2 []) (here c.args.at.now c.args.prefixes.now c.args.names.now)
    (here c.add_role.new.at c.args.prefixes.now c.add_role.new.names) c.args.roles.now c.add_role.new.roles)
    c.from_residual.result c.in_err-add_role.field-0.0 c.from_residual.ensures.1
    (series_first_faults Role roles_close one_role roles_series (here c.args.at.now c.args.prefixes.now
    c.args.names.now) (here c.add_role.new.at c.args.prefixes.now c.add_role.new.names) c.args.roles.now
    c.add_role.new.roles
    c.in_err-add_role.field-0.0 c.in_err-add_role.ensures)

pub returns-in_err-add_role-2 : goal.returns-in_err-add_role-2
returns-in_err-add_role-2 c =
    exit_by (Appends (roles_close 2 []) (here c.args.at.now c.args.prefixes.now c.args.names.now)
    (here c.add_role-2.new.at c.args.prefixes.now c.add_role-2.new.names) c.args.roles.now c.add_role-2.new.roles)
    c.from_residual-in_err-add_role-2.result c.in_err-add_role-2.field-0.0 c.from_residual-in_err-add_role-2.ensures.1
    (series_next_faults Role roles_close one_role roles_series (roles_close 2 []) c.args.roles.now
    c.add_role.new.roles c.add_role-2.new.roles (here c.args.at.now c.args.prefixes.now c.args.names.now)
    (here c.add_role.new.at c.args.prefixes.now c.add_role.new.names) (here c.add_role-2.new.at c.args.prefixes.now
    c.add_role-2.new.names) 0 c.in_err-add_role-2.field-0.0
    (series_first Role roles_close one_role roles_series (here c.args.at.now c.args.prefixes.now c.args.names.now)
    (here c.add_role.new.at c.args.prefixes.now c.add_role.new.names) c.args.roles.now c.add_role.new.roles
    c.in_ok-add_role.ensures)
    c.in_err-add_role-2.ensures)

pub loop-at-init : goal.loop-at-init
loop-at-init c =
    series_next Role roles_close one_role roles_series (roles_close 2 []) c.args.roles.now c.add_role.new.roles
    c.add_role-2.new.roles (here c.args.at.now c.args.prefixes.now c.args.names.now)
    (here c.add_role.new.at c.args.prefixes.now c.add_role.new.names) (here c.add_role-2.new.at c.args.prefixes.now
    c.add_role-2.new.names) 0
    (series_first Role roles_close one_role roles_series (here c.args.at.now c.args.prefixes.now c.args.names.now)
    (here c.add_role.new.at c.args.prefixes.now c.add_role.new.names) c.args.roles.now c.add_role.new.roles
    c.in_ok-add_role.ensures)
    c.in_ok-add_role-2.ensures

pub returns-in_err-add_role-3 : goal.returns-in_err-add_role-3
returns-in_err-add_role-3 c =
    exit_by (Appends (roles_close 2 []) (here c.args.at.now c.args.prefixes.now c.args.names.now)
    (here c.add_role-in-loop-at.new.at c.args.prefixes.now c.add_role-in-loop-at.new.names) c.args.roles.now
    c.add_role-in-loop-at.new.roles)
    c.from_residual-in_err-add_role-3.result c.in_err-add_role-3.field-0.0 c.from_residual-in_err-add_role-3.ensures.1
    (series_again_faults Role roles_close one_role roles_series (roles_close 2 []) c.args.roles.now c.loop-at.roles
    c.add_role-in-loop-at.new.roles (here c.args.at.now c.args.prefixes.now c.args.names.now)
    (here c.loop-at.at c.args.prefixes.now c.loop-at.names) (here c.add_role-in-loop-at.new.at c.args.prefixes.now
    c.add_role-in-loop-at.new.names) c.in_err-add_role-3.field-0.0 c.loop-at.invariant
    (not_kind c.is_close.result _ c.is_close.ensures c.loop-at-test.true) c.in_err-add_role-3.ensures)

pub loop-at-preserved : goal.loop-at-preserved
loop-at-preserved c =
    series_again Role roles_close one_role roles_series (roles_close 2 []) c.args.roles.now c.loop-at.roles
    c.add_role-in-loop-at.new.roles (here c.args.at.now c.args.prefixes.now c.args.names.now)
    (here c.loop-at.at c.args.prefixes.now c.loop-at.names) (here c.add_role-in-loop-at.new.at c.args.prefixes.now
    c.add_role-in-loop-at.new.names) c.loop-at.invariant
    (not_kind c.is_close.result _ c.is_close.ensures c.loop-at-test.true) c.in_ok-add_role-3.ensures

pub loop-at-smaller : goal.loop-at-smaller
loop-at-smaller c = (c.in_ok-add_role-3.ensures.2 (λ _. prologue)).ahead

pub returns : goal.returns
returns c =
    series_closes Role roles_close one_role roles_series (roles_close 2 []) c.args.roles.now c.loop-at.roles
    (here c.args.at.now c.args.prefixes.now c.args.names.now)
    (here c.loop-at.at c.args.prefixes.now c.loop-at.names) (here c.close.new.at c.args.prefixes.now c.loop-at.names)
    c.close.result
    c.loop-at.invariant (c.is_close.ensures.0 c.loop-at-test.false)
    (c.close.ensures c.args.prefixes.now c.loop-at.names)
