use Rattle.std.proofs.Common.{sym, subst, Some, None}
use Rattle.dl_owl.specs.Operands.{sub_role_item}
use Rattle.dl_owl.specs.Expected.{close_then, first_role, second_role}
use Rattle.dl_owl.specs.Walk.{here, Goes}
use Rattle.dl_owl.proofs.WalkLemmas.{goes-then, goes-faults}
use Rattle.dl_owl.proofs.CursorLemmas.{exit_reads}
use Rattle.dl_owl.proofs.role_axiom.sub_role_of.Goals as goal

pub returns-in_err-sub : goal.returns-in_err-sub
returns-in_err-sub c =
    exit_reads (λ k. first_role (λ r. second_role (λ s. close_then (k (sub_role_item r (Some s)))) (close_then (k
    (sub_role_item r None))))) (here c.args.at.now c.args.prefixes.now c.args.names.now) (here c.first_role.new.at
    c.args.prefixes.now c.first_role.new.names)
    c.from_residual.result c.in_err-sub.field-0.0 c.from_residual.ensures.1
    (λ k.
    (c.in_err-sub.ensures (λ r. second_role (λ s. close_then (k (sub_role_item r (Some s)))) (close_then (k
    (sub_role_item r None))))))

pub returns-in_err-sup : goal.returns-in_err-sup
returns-in_err-sup c =
    exit_reads (λ k. first_role (λ r. second_role (λ s. close_then (k (sub_role_item r (Some s)))) (close_then (k
    (sub_role_item r None))))) (here c.args.at.now c.args.prefixes.now c.args.names.now) (here c.second_role.new.at
    c.args.prefixes.now c.second_role.new.names)
    c.from_residual-in_err-sup.result c.in_err-sup.field-0.0 c.from_residual-in_err-sup.ensures.1
    (λ k.
    goes-faults (first_role (λ r. second_role (λ s. close_then (k (sub_role_item r (Some s)))) (close_then (k
    (sub_role_item r None))))) (here c.args.at.now c.args.prefixes.now c.args.names.now) (second_role (λ s.
    close_then (k (sub_role_item c.in_ok-sub.sub (Some s)))) (close_then (k (sub_role_item c.in_ok-sub.sub None))))
    (here c.first_role.new.at c.args.prefixes.now c.first_role.new.names) c.in_err-sup.field-0.0
    (c.in_ok-sub.ensures (λ r. second_role (λ s. close_then (k (sub_role_item r (Some s)))) (close_then (k
    (sub_role_item r None)))))
    (c.in_err-sup.ensures (λ o. close_then (k (sub_role_item c.in_ok-sub.sub o)))))

pub returns-in_err-close : goal.returns-in_err-close
returns-in_err-close c =
    exit_reads (λ k. first_role (λ r. second_role (λ s. close_then (k (sub_role_item r (Some s)))) (close_then (k
    (sub_role_item r None))))) (here c.args.at.now c.args.prefixes.now c.args.names.now) (here c.close.new.at
    c.args.prefixes.now c.second_role.new.names)
    c.from_residual-in_err-close.result c.in_err-close.field-0.0 c.from_residual-in_err-close.ensures.1
    (λ k.
    goes-faults (first_role (λ r. second_role (λ s. close_then (k (sub_role_item r (Some s)))) (close_then (k
    (sub_role_item r None))))) (here c.args.at.now c.args.prefixes.now c.args.names.now) (close_then (k
    (sub_role_item c.in_ok-sub.sub c.in_ok-sup.sup))) (here c.second_role.new.at c.args.prefixes.now
    c.second_role.new.names) c.in_err-close.field-0.0
    (goes-then (first_role (λ r. second_role (λ s. close_then (k (sub_role_item r (Some s)))) (close_then (k
    (sub_role_item r None))))) (here c.args.at.now c.args.prefixes.now c.args.names.now) (second_role (λ s.
    close_then (k (sub_role_item c.in_ok-sub.sub (Some s)))) (close_then (k (sub_role_item c.in_ok-sub.sub None))))
    (here c.first_role.new.at c.args.prefixes.now c.first_role.new.names) (close_then (k (sub_role_item
    c.in_ok-sub.sub c.in_ok-sup.sup))) (here c.second_role.new.at c.args.prefixes.now c.second_role.new.names)
    (c.in_ok-sub.ensures (λ r. second_role (λ s. close_then (k (sub_role_item r (Some s)))) (close_then (k
    (sub_role_item r None)))))
    (c.in_ok-sup.ensures (λ o. close_then (k (sub_role_item c.in_ok-sub.sub o)))))
    (c.in_err-close.ensures c.args.prefixes.now c.second_role.new.names (k (sub_role_item c.in_ok-sub.sub
    c.in_ok-sup.sup))))

pub returns : goal.returns
returns c =
    λ k.
    subst (λ i. Goes (first_role (λ r. second_role (λ s. close_then (k (sub_role_item r (Some s)))) (close_then (k
    (sub_role_item r None))))) (here c.args.at.now c.args.prefixes.now c.args.names.now) (k i) (here c.close.new.at
    c.args.prefixes.now c.second_role.new.names))
    (sym c.sub_role_item.ensures)
    (goes-then (first_role (λ r. second_role (λ s. close_then (k (sub_role_item r (Some s)))) (close_then (k
    (sub_role_item r None))))) (here c.args.at.now c.args.prefixes.now c.args.names.now) (close_then (k
    (sub_role_item c.in_ok-sub.sub c.in_ok-sup.sup))) (here c.second_role.new.at c.args.prefixes.now
    c.second_role.new.names) (k (sub_role_item c.in_ok-sub.sub c.in_ok-sup.sup)) (here c.close.new.at
    c.args.prefixes.now c.second_role.new.names)
    (goes-then (first_role (λ r. second_role (λ s. close_then (k (sub_role_item r (Some s)))) (close_then (k
    (sub_role_item r None))))) (here c.args.at.now c.args.prefixes.now c.args.names.now) (second_role (λ s.
    close_then (k (sub_role_item c.in_ok-sub.sub (Some s)))) (close_then (k (sub_role_item c.in_ok-sub.sub None))))
    (here c.first_role.new.at c.args.prefixes.now c.first_role.new.names) (close_then (k (sub_role_item
    c.in_ok-sub.sub c.in_ok-sup.sup))) (here c.second_role.new.at c.args.prefixes.now c.second_role.new.names)
    (c.in_ok-sub.ensures (λ r. second_role (λ s. close_then (k (sub_role_item r (Some s)))) (close_then (k
    (sub_role_item r None)))))
    (c.in_ok-sup.ensures (λ o. close_then (k (sub_role_item c.in_ok-sub.sub o)))))
    (c.in_ok-close.ensures c.args.prefixes.now c.second_role.new.names (k (sub_role_item c.in_ok-sub.sub
    c.in_ok-sup.sup))))
