use Rattle.dl_terms.specs.declared.axiom.Axiom.TheVariants as axioms
use Rattle.dl_owl.specs.declared.item.Item.TheVariants as item
use Rattle.dl_owl.specs.Expected.{close_then, role_then}
use Rattle.dl_owl.specs.Walk.{here}
use Rattle.dl_owl.proofs.WalkLemmas.{goes-then, goes-faults}
use Rattle.dl_owl.proofs.CursorLemmas.{exit_reads}
use Rattle.dl_owl.proofs.role_axiom.inverse_roles.Goals as goal

pub returns-in_err-one : goal.returns-in_err-one
returns-in_err-one c =
    exit_reads (λ k. role_then (λ r. role_then (λ s. close_then (k (item.Axiom (axioms.InverseRoles r s)))))) (here
    c.args.at.now c.args.prefixes.now c.args.names.now) (here c.role.new.at c.args.prefixes.now c.role.new.names)
    c.from_residual.result c.in_err-one.field-0.0 c.from_residual.ensures.1
    (λ k.
    (c.in_err-one.ensures (λ r. role_then (λ s. close_then (k (item.Axiom (axioms.InverseRoles r s)))))))

pub returns-in_err-two : goal.returns-in_err-two
returns-in_err-two c =
    exit_reads (λ k. role_then (λ r. role_then (λ s. close_then (k (item.Axiom (axioms.InverseRoles r s)))))) (here
    c.args.at.now c.args.prefixes.now c.args.names.now) (here c.role-2.new.at c.args.prefixes.now c.role-2.new.names)
    c.from_residual-in_err-two.result c.in_err-two.field-0.0 c.from_residual-in_err-two.ensures.1
    (λ k.
    goes-faults (role_then (λ r. role_then (λ s. close_then (k (item.Axiom (axioms.InverseRoles r s)))))) (here
    c.args.at.now c.args.prefixes.now c.args.names.now) (role_then (λ s. close_then (k (item.Axiom
    (axioms.InverseRoles c.in_ok-one.one s))))) (here c.role.new.at c.args.prefixes.now c.role.new.names)
    c.in_err-two.field-0.0
    (c.in_ok-one.ensures (λ r. role_then (λ s. close_then (k (item.Axiom (axioms.InverseRoles r s))))))
    (c.in_err-two.ensures (λ s. close_then (k (item.Axiom (axioms.InverseRoles c.in_ok-one.one s))))))

pub returns-in_err-close : goal.returns-in_err-close
returns-in_err-close c =
    exit_reads (λ k. role_then (λ r. role_then (λ s. close_then (k (item.Axiom (axioms.InverseRoles r s)))))) (here
    c.args.at.now c.args.prefixes.now c.args.names.now) (here c.close.new.at c.args.prefixes.now c.role-2.new.names)
    c.from_residual-in_err-close.result c.in_err-close.field-0.0 c.from_residual-in_err-close.ensures.1
    (λ k.
    goes-faults (role_then (λ r. role_then (λ s. close_then (k (item.Axiom (axioms.InverseRoles r s)))))) (here
    c.args.at.now c.args.prefixes.now c.args.names.now) (close_then (k (item.Axiom (axioms.InverseRoles
    c.in_ok-one.one c.in_ok-two.two)))) (here c.role-2.new.at c.args.prefixes.now c.role-2.new.names)
    c.in_err-close.field-0.0
    (goes-then (role_then (λ r. role_then (λ s. close_then (k (item.Axiom (axioms.InverseRoles r s)))))) (here
    c.args.at.now c.args.prefixes.now c.args.names.now) (role_then (λ s. close_then (k (item.Axiom
    (axioms.InverseRoles c.in_ok-one.one s))))) (here c.role.new.at c.args.prefixes.now c.role.new.names) (close_then
    (k (item.Axiom (axioms.InverseRoles c.in_ok-one.one c.in_ok-two.two)))) (here c.role-2.new.at c.args.prefixes.now
    c.role-2.new.names)
    (c.in_ok-one.ensures (λ r. role_then (λ s. close_then (k (item.Axiom (axioms.InverseRoles r s))))))
    (c.in_ok-two.ensures (λ s. close_then (k (item.Axiom (axioms.InverseRoles c.in_ok-one.one s))))))
    (c.in_err-close.ensures c.args.prefixes.now c.role-2.new.names (k (item.Axiom (axioms.InverseRoles
    c.in_ok-one.one c.in_ok-two.two)))))

pub returns : goal.returns
returns c =
    λ k.
    goes-then (role_then (λ r. role_then (λ s. close_then (k (item.Axiom (axioms.InverseRoles r s)))))) (here
    c.args.at.now c.args.prefixes.now c.args.names.now) (close_then (k (item.Axiom (axioms.InverseRoles
    c.in_ok-one.one c.in_ok-two.two)))) (here c.role-2.new.at c.args.prefixes.now c.role-2.new.names) (k (item.Axiom
    (axioms.InverseRoles c.in_ok-one.one c.in_ok-two.two))) (here c.close.new.at c.args.prefixes.now
    c.role-2.new.names)
    (goes-then (role_then (λ r. role_then (λ s. close_then (k (item.Axiom (axioms.InverseRoles r s)))))) (here
    c.args.at.now c.args.prefixes.now c.args.names.now) (role_then (λ s. close_then (k (item.Axiom
    (axioms.InverseRoles c.in_ok-one.one s))))) (here c.role.new.at c.args.prefixes.now c.role.new.names) (close_then
    (k (item.Axiom (axioms.InverseRoles c.in_ok-one.one c.in_ok-two.two)))) (here c.role-2.new.at c.args.prefixes.now
    c.role-2.new.names)
    (c.in_ok-one.ensures (λ r. role_then (λ s. close_then (k (item.Axiom (axioms.InverseRoles r s))))))
    (c.in_ok-two.ensures (λ s. close_then (k (item.Axiom (axioms.InverseRoles c.in_ok-one.one s))))))
    (c.in_ok-close.ensures c.args.prefixes.now c.role-2.new.names (k (item.Axiom (axioms.InverseRoles c.in_ok-one.one
    c.in_ok-two.two))))
