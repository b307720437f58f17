use Rattle.std.proofs.Common.{◌<◌, ◌^◌, Ok, length, refl, sym, subst, ◌∙◌}
use Rattle.dl_event.specs.declared.answer.Answer.TheVariants.{Inconsistent}
use Rattle.dl_answer.specs.Replies.{RepliesTo}
use Rattle.dl_answer.proofs.AskLemmas.{all_read}
use Rattle.dl_answer.proofs.BrokenLemmas.{broken_reply, sound_reply}
use Rattle.dl_answer.proofs.BuiltLemmas.{few_axioms}
use Rattle.dl_answer.proofs.ReaderLemmas.{no_fetch, more_fetched}
use Rattle.dl_answer.proofs.asked.reply.Goals as goal

pub first_broken-requires-clause-count : goal.first_broken-requires-clause-count
first_broken-requires-clause-count g c =
    subst (λ l. length l < 2 ^ 32) (sym c.axioms-axioms.ensures) (few_axioms c.args.epoch.now.axioms c.requires.weight)

pub certain-requires-clause-pin : goal.certain-requires-clause-pin
certain-requires-clause-pin g c = c.in_ok-verdict.ensures.goes.fetched.pin ∙ c.requires.pin

pub returns-in_err-kept-clause-fetched : goal.returns-in_err-kept-clause-fetched
returns-in_err-kept-clause-fetched g c = no_fetch _ _

pub returns-in_err-verdict-clause-fetched : goal.returns-in_err-verdict-clause-fetched
returns-in_err-verdict-clause-fetched g c = c.in_err-verdict.ensures.goes.fetched

pub returns-in-Broken-clause-fetched : goal.returns-in-Broken-clause-fetched
returns-in-Broken-clause-fetched g c = c.in_ok-verdict.ensures.goes.fetched

pub returns-clause-fetched : goal.returns-clause-fetched
returns-clause-fetched g c = more_fetched c.in_ok-verdict.ensures.goes.fetched c.certain.ensures.goes.fetched

pub returns-in-Broken-clause-reply : goal.returns-in-Broken-clause-reply
returns-in-Broken-clause-reply g c = λ facts has known.
    let axioms = c.axioms-axioms.result.now in
    let read = all_read (g.R.Reads.stands c.args.reads.now) c.args.version c.hier-hier.result.now c.in_ok-kept.kept
    c.args.epoch.now axioms facts c.axioms-axioms.ensures c.hier-hier.ensures c.requires.frozen known has
    (c.in_ok-kept.ensures axioms facts) in
    subst (λ l. RepliesTo l facts c.args.nothing c.args.query.now c.args.limit c.args.version
    (Ok (Inconsistent c.args.version c.in-Broken.axiom))) c.axioms-axioms.ensures (
      broken_reply axioms facts c.args.nothing c.in_ok-verdict.verdict (c.in_ok-verdict.ensures.verdict facts read)
          c.args.query.now c.args.limit c.in-Broken.axiom c.in-Broken.is,
      refl,
    )

pub returns-clause-reply : goal.returns-clause-reply
returns-clause-reply g c = λ facts has known.
    let axioms = c.axioms-axioms.result.now in
    let read = all_read (g.R.Reads.stands c.args.reads.now) c.args.version c.hier-hier.result.now c.in_ok-kept.kept
    c.args.epoch.now axioms facts c.axioms-axioms.ensures c.hier-hier.ensures c.requires.frozen known has
    (c.in_ok-kept.ensures axioms facts) in
    subst (λ l. RepliesTo l facts c.args.nothing c.args.query.now c.args.limit c.args.version c.told.result)
    c.axioms-axioms.ensures
    (c.told.ensures.reply axioms facts c.args.nothing c.args.query.now c.args.limit
    (sound_reply axioms facts c.args.nothing c.in_ok-verdict.verdict (c.in_ok-verdict.ensures.verdict facts read) c.in-Sound.is)
    (c.certain.ensures.tuples axioms facts (c.in_ok-verdict.ensures.goes.stays axioms facts read)))
