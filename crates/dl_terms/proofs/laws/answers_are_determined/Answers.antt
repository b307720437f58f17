use Rattle.dl_terms.proofs.AnswerLemmas.{AreCertain-unique, IsFirstBroken-unique, IsReply-unique}
use Rattle.dl_terms.proofs.laws.answers_are_determined.Goals as goal

pub returns-clause-certain : goal.returns-clause-certain
returns-clause-certain c = AreCertain-unique

pub returns-clause-broken : goal.returns-clause-broken
returns-clause-broken c = IsFirstBroken-unique

pub returns-clause-reply : goal.returns-clause-reply
returns-clause-reply c = IsReply-unique
