use Rattle.std.proofs.Common.{List as Items, ◌↔◌, IsTrue, sym, subst}
use Rattle.std.proofs.lemmas.Result.{IfOk-weaker}
use Rattle.dl_terms.specs.Broken.{IsMet}
use Rattle.dl_terms.specs.declared.role.Basic.TheVariants.{Class}
use Rattle.dl_terms.specs.declared.role.Negative.TheVariants.{Basics}
use Rattle.dl_terms.specs.declared.axiom.Axiom.{Axiom}
use Rattle.dl_terms.specs.declared.axiom.Fact.{Fact}
use Rattle.dl_answer.specs.Searches.{AreRead}
use Rattle.dl_answer.proofs.ReaderLemmas.{goes_nowhere}
use Rattle.dl_answer.specs.Verdicts.{HasMember}
use Rattle.dl_answer.proofs.BrokenLemmas.{none_named}
use Rattle.dl_answer.proofs.broken.has_member.Goals as goal

pub returns-in-Some-clause-member : goal.returns-in-Some-clause-member
returns-in-Some-clause-member g c =
    let Read = AreRead (g.R.Reads.stands c.args.reads.now) c.args.version c.args.hier.now c.args.kept.now in
    IfOk-weaker c.is_met.result
    (λ met. (axioms : Items Axiom) (known : Items Fact) → Read axioms known
    → IsTrue met ↔ IsMet axioms known (Basics (Class c.in-Some.class) (Class c.in-Some.class)))
    (λ has. (axioms : Items Axiom) (known : Items Fact) → Read axioms known
    → IsTrue has ↔ HasMember axioms known c.args.nothing)
    (λ has told axioms known read. subst (λ o. IsTrue has ↔ HasMember axioms known o) (sym c.in-Some.is)
    (told axioms known read)) c.is_met.ensures.met

pub returns-in-None-clause-member : goal.returns-in-None-clause-member
returns-in-None-clause-member g c = λ axioms known read. none_named axioms known c.args.nothing c.in-None.is

pub returns-in-None-clause-goes : goal.returns-in-None-clause-goes
returns-in-None-clause-goes g c = goes_nowhere _ _ _ _ _
