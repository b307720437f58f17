use Rattle.std.proofs.Common.{if◌then◌else◌, sym, ap, ◌∙◌, subst}
use Rattle.dl_owl.specs.declared.fault.OwlFault.TheVariants as fault
use Rattle.dl_names.specs.Iris.{may_be_class}
use Rattle.dl_owl.specs.Causes.{reserved}
use Rattle.dl_owl.specs.Expected.{takes_name, refuses}
use Rattle.dl_owl.specs.Steps.{name_next}
use Rattle.dl_owl.specs.Walk.{here, Faults}
use Rattle.dl_owl.proofs.WalkLemmas.{faults-refused}
use Rattle.dl_owl.proofs.TakenLemmas.{follows_as}
use Rattle.dl_owl.proofs.name.take_class.Goals as goal

pub returns-then-not-may_be_class : goal.returns-then-not-may_be_class
returns-then-not-may_be_class c =
    λ p iri e k is.
    subst (λ n. Faults e (here c.args.at.now p c.args.names.now) c.args.names.now (fault.Reserved n)) (sym c.start-start.ensures)
    (faults-refused e c.args.at.now p c.args.names.now reserved
    (is ∙ ap (λ b. if b then takes_name c.args.text.now k else refuses reserved) (sym c.may_be_class.ensures ∙ c.if-not-may_be_class.true)))

pub returns : goal.returns
returns c =
    λ p iri.
    follows_as (takes_name c.args.text.now) (λ k. name_next may_be_class c.args.text.now k) (here c.args.at.now p c.args.names.now)
    (here c.take_name.new.at p c.take_name.new.names) c.take_name.result
    (λ k. ap (λ b. if b then takes_name c.args.text.now k else refuses reserved) (sym c.may_be_class.ensures ∙ c.if-not-may_be_class.false))
    (c.take_name.ensures p iri)
