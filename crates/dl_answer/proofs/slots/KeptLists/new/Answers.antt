use Rattle.dl_answer.proofs.KeptLemmas.{none_kept}
use Rattle.dl_answer.proofs.slots.KeptLists.new.Goals as goal

pub returns : goal.returns
returns c = λ axioms facts. none_kept axioms facts c.in_ok-slots.slots.items c.in_ok-slots.ensures.none
