use Rattle.std.proofs.Common.{sym, ap, ◌∙◌, slice_range}
use Rattle.dl_owl.specs.declared.fault.Construct.TheVariants.{AnonymousIndividual}
use Rattle.dl_owl.specs.declared.fault.OwlFault.TheVariants as fault
use Rattle.dl_owl.specs.Symbols.{symbol_of}
use Rattle.dl_owl.specs.Causes.{fault_of}
use Rattle.dl_owl.specs.Steps.{refused_individual}
use Rattle.dl_owl.proofs.CursorLemmas.{not_kind}
use Rattle.dl_owl.proofs.TakenLemmas.{no_node}
use Rattle.dl_owl.proofs.name.no_individual.Goals as goal

pub returns-then-is_node : goal.returns-then-is_node
returns-then-is_node c =
    let s = c.args.at.now in
    ap (λ n. fault.LeftOut n AnonymousIndividual) c.start-start.ensures
    ∙ ap (λ kind. fault_of (refused_individual (symbol_of kind (slice_range s.bytes s.token.start s.token.end))) s.token.start)
    (sym (c.is_node.ensures.0 c.if-is_node.true))

pub returns : goal.returns
returns c =
    let s = c.args.at.now in
    ap fault.Syntax c.start-start.ensures
    ∙ ap (λ cause. fault_of cause s.token.start)
    (sym
    (no_node s.token.kind (slice_range s.bytes s.token.start s.token.end) (not_kind c.is_node.result _ c.is_node.ensures c.if-is_node.false)))
