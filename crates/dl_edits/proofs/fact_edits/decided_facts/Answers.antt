use Rattle.std.proofs.Common.{◌≡◌, rules}
use Rattle.dl_edits.proofs.SaidLemmas.{pairs_exact}
use Rattle.dl_edits.proofs.fact_edits.decided_facts.Goals as goal

pub returns-clause-exact : goal.returns-clause-exact
returns-clause-exact c =
    let is : c.of.result ≡ c.in_ok-facts.facts.entries = search rules in
    pairs_exact c.facts_are_ordered.ensures.derived c.in_ok-facts.facts c.of.result c.args.edits.now (search rules) is c.in_ok-facts.ensures
