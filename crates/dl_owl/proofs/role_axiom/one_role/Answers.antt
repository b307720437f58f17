use Rattle.std.proofs.Common.{sym, subst}
use Rattle.dl_owl.specs.declared.item.Item.TheVariants as item
use Rattle.dl_owl.specs.Expected.{close_then, role_then}
use Rattle.dl_owl.specs.Operands.{one_role}
use Rattle.dl_owl.specs.Walk.{here, Goes}
use Rattle.dl_owl.proofs.WalkLemmas.{goes-then, goes-faults}
use Rattle.dl_owl.proofs.CursorLemmas.{exit_reads}
use Rattle.dl_owl.proofs.role_axiom.one_role.Goals as goal

pub returns-in_err-over : goal.returns-in_err-over
returns-in_err-over c =
    exit_reads (λ k. role_then (λ r. close_then (k (item.Axiom (one_role c.args.word r))))) (here c.args.at.now c.args.prefixes.now c.args.names.now)
    (here c.role.new.at c.args.prefixes.now c.role.new.names)
    c.from_residual.result c.in_err-over.field-0.0 c.from_residual.ensures.1
    (λ k.
    (c.in_err-over.ensures (λ r. close_then (k (item.Axiom (one_role c.args.word r))))))

pub returns-in_err-close : goal.returns-in_err-close
returns-in_err-close c =
    exit_reads (λ k. role_then (λ r. close_then (k (item.Axiom (one_role c.args.word r))))) (here c.args.at.now c.args.prefixes.now c.args.names.now)
    (here c.close.new.at c.args.prefixes.now c.role.new.names)
    c.from_residual-in_err-close.result c.in_err-close.field-0.0 c.from_residual-in_err-close.ensures.1
    (λ k.
    goes-faults (role_then (λ r. close_then (k (item.Axiom (one_role c.args.word r))))) (here c.args.at.now c.args.prefixes.now c.args.names.now)
    (close_then (k (item.Axiom (one_role c.args.word c.in_ok-over.over)))) (here c.role.new.at c.args.prefixes.now c.role.new.names)
    c.in_err-close.field-0.0
    (c.in_ok-over.ensures (λ r. close_then (k (item.Axiom (one_role c.args.word r)))))
    (c.in_err-close.ensures c.args.prefixes.now c.role.new.names (k (item.Axiom (one_role c.args.word c.in_ok-over.over)))))

pub returns : goal.returns
returns c =
    λ k.
    subst (λ x. Goes (role_then (λ r. close_then (k (item.Axiom (one_role c.args.word r))))) (here c.args.at.now
    c.args.prefixes.now c.args.names.now) (k (item.Axiom x)) (here c.close.new.at c.args.prefixes.now c.role.new.names))
    (sym c.characteristic.ensures)
    (goes-then (role_then (λ r. close_then (k (item.Axiom (one_role c.args.word r))))) (here c.args.at.now c.args.prefixes.now c.args.names.now)
    (close_then (k (item.Axiom (one_role c.args.word c.in_ok-over.over)))) (here c.role.new.at c.args.prefixes.now c.role.new.names) (k (item.Axiom (one_role c.args.word
    c.in_ok-over.over))) (here c.close.new.at c.args.prefixes.now c.role.new.names)
    (c.in_ok-over.ensures (λ r. close_then (k (item.Axiom (one_role c.args.word r)))))
    (c.in_ok-close.ensures c.args.prefixes.now c.role.new.names (k (item.Axiom (one_role c.args.word c.in_ok-over.over)))))
