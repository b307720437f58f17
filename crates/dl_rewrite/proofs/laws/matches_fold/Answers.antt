use Rattle.dl_rewrite.proofs.SoundLemmas.{closed_itself, match_of}
use Rattle.dl_rewrite.proofs.CompleteLemmas.{all_parts}
use Rattle.dl_rewrite.proofs.laws.matches_fold.Goals as goal

pub returns-clause-sound : goal.returns-clause-sound
returns-clause-sound c = match_of

pub returns-clause-complete : goal.returns-clause-complete
returns-clause-complete c = λ axioms facts q m match roles known s unnamed bounded outside parts are.
    all_parts axioms facts q m match roles known s unnamed bounded outside parts s are (closed_itself q s)
