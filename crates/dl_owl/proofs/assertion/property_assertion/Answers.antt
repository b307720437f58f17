use Rattle.std.proofs.Common.{sym, subst}
use Rattle.dl_owl.specs.declared.item.Item.TheVariants as item
use Rattle.dl_owl.specs.Items.{link}
use Rattle.dl_owl.specs.Expected.{close_then, role_then, individual_then}
use Rattle.dl_owl.specs.Walk.{here, Goes}
use Rattle.dl_owl.proofs.WalkLemmas.{goes-then, goes-faults}
use Rattle.dl_owl.proofs.CursorLemmas.{exit_reads}
use Rattle.dl_owl.proofs.assertion.property_assertion.Goals as goal

pub returns-in_err-over : goal.returns-in_err-over
returns-in_err-over c =
    exit_reads (λ k. role_then (λ r. individual_then (λ a. individual_then (λ b. close_then (k (item.Fact (link r a
    b))))))) (here c.args.at.now c.args.prefixes.now c.args.names.now) (here c.role.new.at c.args.prefixes.now
    c.role.new.names)
    c.from_residual.result c.in_err-over.field-0.0 c.from_residual.ensures.1
    (λ k.
    (c.in_err-over.ensures (λ r. individual_then (λ a. individual_then (λ b. close_then (k (item.Fact (link r a
    b))))))))

pub returns-in_err-from : goal.returns-in_err-from
returns-in_err-from c =
    exit_reads (λ k. role_then (λ r. individual_then (λ a. individual_then (λ b. close_then (k (item.Fact (link r a
    b))))))) (here c.args.at.now c.args.prefixes.now c.args.names.now) (here c.individual.new.at c.args.prefixes.now
    c.individual.new.names)
    c.from_residual-in_err-from.result c.in_err-from.field-0.0 c.from_residual-in_err-from.ensures.1
    (λ k.
    goes-faults (role_then (λ r. individual_then (λ a. individual_then (λ b. close_then (k (item.Fact (link r a
    b))))))) (here c.args.at.now c.args.prefixes.now c.args.names.now) (individual_then (λ a. individual_then (λ b.
    close_then (k (item.Fact (link c.in_ok-over.over a b)))))) (here c.role.new.at c.args.prefixes.now
    c.role.new.names) c.in_err-from.field-0.0
    (c.in_ok-over.ensures (λ r. individual_then (λ a. individual_then (λ b. close_then (k (item.Fact (link r a
    b)))))))
    (c.in_err-from.ensures (λ a. individual_then (λ b. close_then (k (item.Fact (link c.in_ok-over.over a b)))))))

pub returns-in_err-to : goal.returns-in_err-to
returns-in_err-to c =
    exit_reads (λ k. role_then (λ r. individual_then (λ a. individual_then (λ b. close_then (k (item.Fact (link r a
    b))))))) (here c.args.at.now c.args.prefixes.now c.args.names.now) (here c.individual-2.new.at
    c.args.prefixes.now c.individual-2.new.names)
    c.from_residual-in_err-to.result c.in_err-to.field-0.0 c.from_residual-in_err-to.ensures.1
    (λ k.
    goes-faults (role_then (λ r. individual_then (λ a. individual_then (λ b. close_then (k (item.Fact (link r a
    b))))))) (here c.args.at.now c.args.prefixes.now c.args.names.now) (individual_then (λ b. close_then (k
    (item.Fact (link c.in_ok-over.over c.in_ok-from.from b))))) (here c.individual.new.at c.args.prefixes.now
    c.individual.new.names) c.in_err-to.field-0.0
    (goes-then (role_then (λ r. individual_then (λ a. individual_then (λ b. close_then (k (item.Fact (link r a
    b))))))) (here c.args.at.now c.args.prefixes.now c.args.names.now) (individual_then (λ a. individual_then (λ b.
    close_then (k (item.Fact (link c.in_ok-over.over a b)))))) (here c.role.new.at c.args.prefixes.now
    c.role.new.names) (individual_then (λ b. close_then (k (item.Fact (link c.in_ok-over.over c.in_ok-from.from
    b))))) (here c.individual.new.at c.args.prefixes.now c.individual.new.names)
    (c.in_ok-over.ensures (λ r. individual_then (λ a. individual_then (λ b. close_then (k (item.Fact (link r a
    b)))))))
    (c.in_ok-from.ensures (λ a. individual_then (λ b. close_then (k (item.Fact (link c.in_ok-over.over a b)))))))
    (c.in_err-to.ensures (λ b. close_then (k (item.Fact (link c.in_ok-over.over c.in_ok-from.from b))))))

pub returns-in_err-close : goal.returns-in_err-close
returns-in_err-close c =
    exit_reads (λ k. role_then (λ r. individual_then (λ a. individual_then (λ b. close_then (k (item.Fact (link r a
    b))))))) (here c.args.at.now c.args.prefixes.now c.args.names.now) (here c.close.new.at c.args.prefixes.now
    c.individual-2.new.names)
    c.from_residual-in_err-close.result c.in_err-close.field-0.0 c.from_residual-in_err-close.ensures.1
    (λ k.
    goes-faults (role_then (λ r. individual_then (λ a. individual_then (λ b. close_then (k (item.Fact (link r a
    b))))))) (here c.args.at.now c.args.prefixes.now c.args.names.now) (close_then (k (item.Fact (link
    c.in_ok-over.over c.in_ok-from.from c.in_ok-to.to)))) (here c.individual-2.new.at c.args.prefixes.now
    c.individual-2.new.names) c.in_err-close.field-0.0
    (goes-then (role_then (λ r. individual_then (λ a. individual_then (λ b. close_then (k (item.Fact (link r a
    b))))))) (here c.args.at.now c.args.prefixes.now c.args.names.now) (individual_then (λ b. close_then (k
    (item.Fact (link c.in_ok-over.over c.in_ok-from.from b))))) (here c.individual.new.at c.args.prefixes.now
    c.individual.new.names) (close_then (k (item.Fact (link c.in_ok-over.over c.in_ok-from.from c.in_ok-to.to))))
    (here c.individual-2.new.at c.args.prefixes.now c.individual-2.new.names)
    (goes-then (role_then (λ r. individual_then (λ a. individual_then (λ b. close_then (k (item.Fact (link r a
    b))))))) (here c.args.at.now c.args.prefixes.now c.args.names.now) (individual_then (λ a. individual_then (λ b.
    close_then (k (item.Fact (link c.in_ok-over.over a b)))))) (here c.role.new.at c.args.prefixes.now
    c.role.new.names) (individual_then (λ b. close_then (k (item.Fact (link c.in_ok-over.over c.in_ok-from.from
    b))))) (here c.individual.new.at c.args.prefixes.now c.individual.new.names)
    (c.in_ok-over.ensures (λ r. individual_then (λ a. individual_then (λ b. close_then (k (item.Fact (link r a
    b)))))))
    (c.in_ok-from.ensures (λ a. individual_then (λ b. close_then (k (item.Fact (link c.in_ok-over.over a b)))))))
    (c.in_ok-to.ensures (λ b. close_then (k (item.Fact (link c.in_ok-over.over c.in_ok-from.from b))))))
    (c.in_err-close.ensures c.args.prefixes.now c.individual-2.new.names (k (item.Fact (link c.in_ok-over.over
    c.in_ok-from.from c.in_ok-to.to)))))

pub returns : goal.returns
returns c =
    λ k.
    subst (λ f. Goes (role_then (λ r. individual_then (λ a. individual_then (λ b. close_then (k (item.Fact (link r a
    b))))))) (here c.args.at.now c.args.prefixes.now c.args.names.now) (k (item.Fact f)) (here c.close.new.at
    c.args.prefixes.now c.individual-2.new.names))
    (sym c.link.ensures)
    (goes-then (role_then (λ r. individual_then (λ a. individual_then (λ b. close_then (k (item.Fact (link r a
    b))))))) (here c.args.at.now c.args.prefixes.now c.args.names.now) (close_then (k (item.Fact (link
    c.in_ok-over.over c.in_ok-from.from c.in_ok-to.to)))) (here c.individual-2.new.at c.args.prefixes.now
    c.individual-2.new.names) (k (item.Fact (link c.in_ok-over.over c.in_ok-from.from c.in_ok-to.to))) (here
    c.close.new.at c.args.prefixes.now c.individual-2.new.names)
    (goes-then (role_then (λ r. individual_then (λ a. individual_then (λ b. close_then (k (item.Fact (link r a
    b))))))) (here c.args.at.now c.args.prefixes.now c.args.names.now) (individual_then (λ b. close_then (k
    (item.Fact (link c.in_ok-over.over c.in_ok-from.from b))))) (here c.individual.new.at c.args.prefixes.now
    c.individual.new.names) (close_then (k (item.Fact (link c.in_ok-over.over c.in_ok-from.from c.in_ok-to.to))))
    (here c.individual-2.new.at c.args.prefixes.now c.individual-2.new.names)
    (goes-then (role_then (λ r. individual_then (λ a. individual_then (λ b. close_then (k (item.Fact (link r a
    b))))))) (here c.args.at.now c.args.prefixes.now c.args.names.now) (individual_then (λ a. individual_then (λ b.
    close_then (k (item.Fact (link c.in_ok-over.over a b)))))) (here c.role.new.at c.args.prefixes.now
    c.role.new.names) (individual_then (λ b. close_then (k (item.Fact (link c.in_ok-over.over c.in_ok-from.from
    b))))) (here c.individual.new.at c.args.prefixes.now c.individual.new.names)
    (c.in_ok-over.ensures (λ r. individual_then (λ a. individual_then (λ b. close_then (k (item.Fact (link r a
    b)))))))
    (c.in_ok-from.ensures (λ a. individual_then (λ b. close_then (k (item.Fact (link c.in_ok-over.over a b)))))))
    (c.in_ok-to.ensures (λ b. close_then (k (item.Fact (link c.in_ok-over.over c.in_ok-from.from b))))))
    (c.in_ok-close.ensures c.args.prefixes.now c.individual-2.new.names (k (item.Fact (link c.in_ok-over.over
    c.in_ok-from.from c.in_ok-to.to)))))
