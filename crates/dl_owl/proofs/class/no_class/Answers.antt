use Rattle.std.proofs.Common.{if◌then◌else◌, sym, ap, ◌∙◌}
use Rattle.dl_owl.specs.declared.fault.Construct.TheVariants as construct
use Rattle.dl_owl.specs.declared.fault.OwlFault.TheVariants as fault
use Rattle.dl_owl.specs.Causes.{syntax, not_ql, fault_of}
use Rattle.dl_owl.proofs.class.no_class.Goals as goal

pub returns-then-stands_class : goal.returns-then-stands_class
returns-then-stands_class c =
    let s = c.args.at.now in
    ap (λ n. fault.NotQl n (construct.Keyword c.args.word)) c.start-start.ensures
    ∙ ap (λ cause. fault_of cause s.token.start)
    (sym (c.stands_class.ensures c.args.word ∙ ap (λ b. if b then not_ql c.args.word else syntax) c.if-stands_class.true))

pub returns : goal.returns
returns c =
    let s = c.args.at.now in
    ap fault.Syntax c.start-start.ensures
    ∙ ap (λ cause. fault_of cause s.token.start)
    (sym (c.stands_class.ensures c.args.word ∙ ap (λ b. if b then not_ql c.args.word else syntax) c.if-stands_class.false))
