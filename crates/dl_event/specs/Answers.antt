-- What an answer tells. Answers at versions are this project's own.
use Rattle.std.specs.Prelude.{ℕ}
use Rattle.dl_terms.specs.Reply.{Reply, inconsistent, found}
use Rattle.dl_event.specs.declared.answer.Answer.{Answer}
use Rattle.dl_event.specs.declared.answer.Answer.TheVariants.{Found, Inconsistent}

-- the defined reply that an answer is
abbrev pub reply_of : Answer → Reply
reply_of (Found version tuples) = found tuples.tuples
reply_of (Inconsistent version broken) = inconsistent broken

-- the version at which it is given
abbrev pub answer_version : Answer → ℕ
answer_version (Found version tuples) = version
answer_version (Inconsistent version broken) = version
