use Rattle.std.proofs.Common.{[]}
use Rattle.dl_terms.specs.declared.axiom.Axiom.TheVariants as axioms
use Rattle.dl_owl.specs.declared.item.Item.TheVariants as item
use Rattle.dl_owl.specs.Expected.{roles_close}
use Rattle.dl_owl.specs.Walk.{here}
use Rattle.dl_owl.proofs.CursorLemmas.{exit_reads}
use Rattle.dl_owl.proofs.role_axiom.equivalent_roles.Goals as goal

pub returns-in_err-several : goal.returns-in_err-several
returns-in_err-several c =
    exit_reads (λ k. roles_close 2 [] (λ rs. k (item.Axiom (axioms.EquivalentRoles rs)))) (here c.args.at.now
    c.args.prefixes.now c.args.names.now) (here c.roles.new.at c.args.prefixes.now c.roles.new.names)
    c.from_residual.result c.in_err-several.field-0.0 c.from_residual.ensures.1
    (λ k.
    (c.in_err-several.ensures (λ rs. k (item.Axiom (axioms.EquivalentRoles rs)))))

pub returns : goal.returns
returns c =
    λ k.
    c.in_ok-several.ensures (λ rs. k (item.Axiom (axioms.EquivalentRoles rs)))
