use Rattle.std.proofs.Common.{refl}
use Rattle.dl_laws.specs.Examples.{pin_again, remove_and_add, refused_events}
use Rattle.dl_laws.proofs.ExampleLemmas.{only_a_told, both_told}
use Rattle.dl_laws.proofs.worked_examples.reply_examples.Goals as goal

pub returns-clause-pin_again : goal.returns-clause-pin_again
returns-clause-pin_again c numbering is = both_told numbering is pin_again _ refl refl

pub returns-clause-remove_and_add : goal.returns-clause-remove_and_add
returns-clause-remove_and_add c numbering is = only_a_told numbering is remove_and_add _ refl

pub returns-clause-refused : goal.returns-clause-refused
returns-clause-refused c numbering is = only_a_told numbering is refused_events _ refl
