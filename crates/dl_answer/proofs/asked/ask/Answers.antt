use Rattle.std.proofs.Common.{sym, ap, subst, ◌∙◌}
use Rattle.std.specs.Arc.{arc_value}
use Rattle.std.specs.List.{All}
use Rattle.dl_epoch.specs.Frozen.{Frozen}
use Rattle.dl_core.specs.History.{axioms_at, facts_at}
use Rattle.dl_core.specs.Loading.{IsFactIn}
use Rattle.dl_answer.specs.Replies.{RepliesTo}
use Rattle.dl_answer.proofs.AskLemmas.{pin_is, some_pin, one_version, has_facts, has_axioms, knows_facts}
use Rattle.dl_answer.proofs.ReaderLemmas.{one_fetch}
use Rattle.dl_answer.proofs.asked.ask.Goals as goal

pub fetch-requires-clause-pin : goal.fetch-requires-clause-pin
fetch-requires-clause-pin g c =
    let r = g.R.Reads.reader c.args.reads.now in
    some_pin r.pin c.in-Some.pin.version (pin_is r c.pin.result c.in-Some.pin c.pin.ensures.pin c.in-Some.is)

pub returns-clause-reply : goal.returns-clause-reply
returns-clause-reply g c = λ numbering l seen version is_numbering is_load stands pin.
    let S = g.R.Reads.stands c.args.reads.now in
    let T = g.R.Reads.stands c.fetch.new.self in
    let r = g.R.Reads.reader c.args.reads.now in
    let s = g.R.Reads.reader c.fetch.new.self in
    let law = g.met.R.Reads.stands_for c.args.reads.now in
    let now = g.met.R.Reads.stands_for c.fetch.new.self in
    let v = c.in-Some.pin.version in
    let own = pin_is r c.pin.result c.in-Some.pin c.pin.ensures.pin c.in-Some.is in
    let fetched = one_fetch S T r s 0 c.fetch.ensures.fetch c.fetch.ensures.seen in
    let facts = facts_at l seen v in
    let e = arc_value c.in_ok-epoch.epoch in
    let has = has_facts S T r s law now fetched v own numbering l seen is_numbering is_load stands in
    let axioms = has_axioms S T r s law now fetched v own numbering l seen is_numbering is_load stands e
    c.in_ok-epoch.ensures.covers in
    let known = subst (λ (x : Frozen). All (IsFactIn x.signature) facts) (sym c.deref.ensures)
    (knows_facts S T r s law now fetched v own numbering l seen is_numbering is_load stands e c.in_ok-epoch.ensures.covers) in
    subst (λ w. RepliesTo (axioms_at l seen w) (facts_at l seen w) c.args.nothing c.args.query.now c.args.limit w c.reply.result)
    (one_version r.pin v version own pin)
    (subst (λ a. RepliesTo a facts c.args.nothing c.args.query.now c.args.limit v c.reply.result)
    (ap (λ (x : Frozen). x.axioms) c.deref.ensures ∙ axioms) (c.reply.ensures.reply facts has known))
