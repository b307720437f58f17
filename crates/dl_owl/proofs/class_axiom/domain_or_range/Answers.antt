use Rattle.std.proofs.Common.{sym, subst}
use Rattle.dl_owl.specs.declared.item.Item.TheVariants as item
use Rattle.dl_owl.specs.Expected.{close_then, role_then, sup_then}
use Rattle.dl_owl.specs.Operands.{domain_or_range}
use Rattle.dl_owl.specs.Walk.{here, Goes}
use Rattle.dl_owl.proofs.WalkLemmas.{goes-then, goes-faults}
use Rattle.dl_owl.proofs.CursorLemmas.{exit_reads}
use Rattle.dl_owl.proofs.class_axiom.domain_or_range.Goals as goal

pub returns-in_err-over : goal.returns-in_err-over
returns-in_err-over c =
    exit_reads (λ k. role_then (λ r. sup_then (λ ps. close_then (k (item.Axiom (domain_or_range c.args.word r ps)))))) (here
    c.args.at.now c.args.prefixes.now c.args.names.now) (here c.role.new.at c.args.prefixes.now c.role.new.names)
    c.from_residual.result c.in_err-over.field-0.0 c.from_residual.ensures.1
    (λ k.
    (c.in_err-over.ensures (λ r. sup_then (λ ps. close_then (k (item.Axiom (domain_or_range c.args.word r ps)))))))

pub returns-in_err-parts : goal.returns-in_err-parts
returns-in_err-parts c =
    exit_reads (λ k. role_then (λ r. sup_then (λ ps. close_then (k (item.Axiom (domain_or_range c.args.word r ps)))))) (here
    c.args.at.now c.args.prefixes.now c.args.names.now) (here c.sup.new.at c.args.prefixes.now c.sup.new.names)
    c.from_residual-in_err-parts.result c.in_err-parts.field-0.0 c.from_residual-in_err-parts.ensures.1
    (λ k.
    goes-faults (role_then (λ r. sup_then (λ ps. close_then (k (item.Axiom (domain_or_range c.args.word r ps)))))) (here
    c.args.at.now c.args.prefixes.now c.args.names.now) (sup_then (λ ps. close_then (k (item.Axiom (domain_or_range c.args.word
    c.in_ok-over.over ps))))) (here c.role.new.at c.args.prefixes.now c.role.new.names) c.in_err-parts.field-0.0
    (c.in_ok-over.ensures (λ r. sup_then (λ ps. close_then (k (item.Axiom (domain_or_range c.args.word r ps))))))
    (c.in_err-parts.ensures (λ ps. close_then (k (item.Axiom (domain_or_range c.args.word c.in_ok-over.over ps))))))

pub returns-in_err-close : goal.returns-in_err-close
returns-in_err-close c =
    exit_reads (λ k. role_then (λ r. sup_then (λ ps. close_then (k (item.Axiom (domain_or_range c.args.word r ps)))))) (here
    c.args.at.now c.args.prefixes.now c.args.names.now) (here c.close.new.at c.args.prefixes.now c.sup.new.names)
    c.from_residual-in_err-close.result c.in_err-close.field-0.0 c.from_residual-in_err-close.ensures.1
    (λ k.
    goes-faults (role_then (λ r. sup_then (λ ps. close_then (k (item.Axiom (domain_or_range c.args.word r ps)))))) (here
    c.args.at.now c.args.prefixes.now c.args.names.now) (close_then (k (item.Axiom (domain_or_range c.args.word c.in_ok-over.over
    c.in_ok-parts.parts)))) (here c.sup.new.at c.args.prefixes.now c.sup.new.names) c.in_err-close.field-0.0
    (goes-then (role_then (λ r. sup_then (λ ps. close_then (k (item.Axiom (domain_or_range c.args.word r ps)))))) (here
    c.args.at.now c.args.prefixes.now c.args.names.now) (sup_then (λ ps. close_then (k (item.Axiom (domain_or_range c.args.word
    c.in_ok-over.over ps))))) (here c.role.new.at c.args.prefixes.now c.role.new.names) (close_then (k (item.Axiom
    (domain_or_range c.args.word c.in_ok-over.over c.in_ok-parts.parts)))) (here c.sup.new.at c.args.prefixes.now c.sup.new.names)
    (c.in_ok-over.ensures (λ r. sup_then (λ ps. close_then (k (item.Axiom (domain_or_range c.args.word r ps))))))
    (c.in_ok-parts.ensures (λ ps. close_then (k (item.Axiom (domain_or_range c.args.word c.in_ok-over.over ps))))))
    (c.in_err-close.ensures c.args.prefixes.now c.sup.new.names (k (item.Axiom (domain_or_range c.args.word c.in_ok-over.over
    c.in_ok-parts.parts)))))

pub returns : goal.returns
returns c =
    λ k.
    subst (λ x. Goes (role_then (λ r. sup_then (λ ps. close_then (k (item.Axiom (domain_or_range c.args.word r ps))))))
    (here c.args.at.now c.args.prefixes.now c.args.names.now) (k (item.Axiom x)) (here c.close.new.at
    c.args.prefixes.now c.sup.new.names)) (sym c.restriction.ensures)
    (goes-then (role_then (λ r. sup_then (λ ps. close_then (k (item.Axiom (domain_or_range c.args.word r ps)))))) (here
    c.args.at.now c.args.prefixes.now c.args.names.now) (close_then (k (item.Axiom (domain_or_range c.args.word c.in_ok-over.over
    c.in_ok-parts.parts)))) (here c.sup.new.at c.args.prefixes.now c.sup.new.names) (k (item.Axiom (domain_or_range c.args.word
    c.in_ok-over.over c.in_ok-parts.parts))) (here c.close.new.at c.args.prefixes.now c.sup.new.names)
    (goes-then (role_then (λ r. sup_then (λ ps. close_then (k (item.Axiom (domain_or_range c.args.word r ps)))))) (here
    c.args.at.now c.args.prefixes.now c.args.names.now) (sup_then (λ ps. close_then (k (item.Axiom (domain_or_range c.args.word
    c.in_ok-over.over ps))))) (here c.role.new.at c.args.prefixes.now c.role.new.names) (close_then (k (item.Axiom
    (domain_or_range c.args.word c.in_ok-over.over c.in_ok-parts.parts)))) (here c.sup.new.at c.args.prefixes.now c.sup.new.names)
    (c.in_ok-over.ensures (λ r. sup_then (λ ps. close_then (k (item.Axiom (domain_or_range c.args.word r ps))))))
    (c.in_ok-parts.ensures (λ ps. close_then (k (item.Axiom (domain_or_range c.args.word c.in_ok-over.over ps))))))
    (c.in_ok-close.ensures c.args.prefixes.now c.sup.new.names (k (item.Axiom (domain_or_range c.args.word c.in_ok-over.over
    c.in_ok-parts.parts)))))
