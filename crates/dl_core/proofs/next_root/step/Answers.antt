use Rattle.std.proofs.Common.{◌≡◌}
use Rattle.std.proofs.lemmas.Result.{IfOk-weaker}
use Rattle.dl_core.specs.Root.{StandsFor}
use Rattle.dl_core.specs.Next.{next}
use Rattle.dl_core.specs.Steps.{longer, IsStep}
use Rattle.dl_core.proofs.RuleLemmas.{rule_exists}
use Rattle.dl_core.proofs.StepLemmas.{step_keeps, step_legal}
use Rattle.dl_core.proofs.next_root.step.Goals as goal

pub returns-clause-next : goal.returns-clause-next
returns-clause-next c = c.stepped.ensures

pub returns-clause-keeps : goal.returns-clause-keeps
returns-clause-keeps c = λ load history stands.
    let root = c.args.root.now in
    let event = c.args.event.now in
    IfOk-weaker c.stepped.result (λ after. after ≡ next rule_exists.0 root c.args.stream event)
    (λ after. StandsFor load (longer history c.args.stream event after.1) after.0)
    (λ after is. step_keeps rule_exists.0 rule_exists.1 root c.args.stream event c.requires load history stands after
    is) (c.stepped.ensures rule_exists.0 rule_exists.1)

pub returns-clause-legal : goal.returns-clause-legal
returns-clause-legal c = λ numbering rule load history legal at.
    let root = c.args.root.now in
    let event = c.args.event.now in
    IfOk-weaker c.stepped.result (λ after. after ≡ next numbering root c.args.stream event)
    (IsStep numbering load history c.args.stream event)
    (λ after is. step_legal numbering root c.args.stream event c.requires load history legal at after is)
    (c.stepped.ensures numbering rule)
