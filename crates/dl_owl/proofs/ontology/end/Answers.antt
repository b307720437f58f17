use Rattle.std.proofs.Common.{sym, ◌∙◌, subst, slice_range}
use Rattle.dl_owl.specs.declared.fault.OwlFault.TheVariants as fault
use Rattle.dl_owl.specs.Causes.{syntax}
use Rattle.dl_owl.specs.Expected.{finish}
use Rattle.dl_owl.specs.Walk.{here, Faults}
use Rattle.dl_owl.proofs.WalkLemmas.{faults-refused}
use Rattle.dl_owl.proofs.OntologyLemmas.{finish_refused, text_ends}
use Rattle.dl_owl.proofs.ontology.end.Goals as goal

pub returns-in-End : goal.returns-in-End
returns-in-End c =
    λ p names. text_ends c.args.at.now p names c.args.document (sym c.kind.ensures ∙ c.in-End.is)

pub returns-in_default : goal.returns-in_default
returns-in_default c =
    λ p names.
    subst (λ n. Faults (finish c.args.document) (here c.args.at.now p names) names (fault.Syntax n)) (sym
    c.start-start.ensures)
    (faults-refused (finish c.args.document) c.args.at.now p names syntax
    (finish_refused c.args.at.now.token.kind (slice_range c.args.at.now.bytes c.args.at.now.token.start
    c.args.at.now.token.end) p c.args.document (λ is. c.in_default.not-End (c.kind.ensures ∙ is))))
