use Rattle.dl_core.proofs.RuleLemmas.{rule_exists, rule_is_numbering}
use Rattle.dl_laws.proofs.root_laws.numberings_go_by_the_rule.Goals as goal

pub returns : goal.returns
returns c = record { exists = rule_exists; numbers = rule_is_numbering }
