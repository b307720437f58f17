use Rattle.dl_examples.proofs.ReplyExampleLemmas.{as_many_as_the_limit, one_over_the_limit, broken_reply}
use Rattle.dl_examples.proofs.examples.reply_examples.Goals as goal

pub returns-clause-as_many_as_the_limit : goal.returns-clause-as_many_as_the_limit
returns-clause-as_many_as_the_limit c = as_many_as_the_limit

pub returns-clause-one_over_the_limit : goal.returns-clause-one_over_the_limit
returns-clause-one_over_the_limit c = one_over_the_limit

pub returns-clause-broken : goal.returns-clause-broken
returns-clause-broken c = broken_reply
