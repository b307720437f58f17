use Rattle.dl_deny.proofs.DenialLemmas.{pushed-denial}
use Rattle.dl_deny.proofs.denial.push_denial.Goals as goal

pub returns : goal.returns
returns c =
    pushed-denial c.push.result c.args.found.now c.push.new.self c.in_ok-copy.copy c.args.axiom.now c.in_ok-query.query c.args.negative
    c.in_ok-copy.ensures c.in_ok-query.ensures.value c.push.ensures.ok
