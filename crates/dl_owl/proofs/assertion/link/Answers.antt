use Rattle.std.proofs.Common.{if◌then◌else◌, sym, ap, ◌∙◌}
use Rattle.dl_terms.specs.declared.axiom.Fact.TheVariants as facts
use Rattle.dl_text.specs.AxiomText.{property_of}
use Rattle.dl_owl.proofs.assertion.link.Goals as goal

pub returns-then-role : goal.returns-then-role
returns-then-role c =
    ap (λ n. facts.Link n c.args.to c.args.from) c.property_of-property.ensures
    ∙ sym
    (ap
    (λ b.
    if b then facts.Link (property_of c.args.role) c.args.to c.args.from
    else facts.Link (property_of c.args.role) c.args.from c.args.to)
    c.if-role.true)

pub returns : goal.returns
returns c =
    ap (λ n. facts.Link n c.args.from c.args.to) c.property_of-property.ensures
    ∙ sym
    (ap
    (λ b.
    if b then facts.Link (property_of c.args.role) c.args.to c.args.from
    else facts.Link (property_of c.args.role) c.args.from c.args.to)
    c.if-role.false)
