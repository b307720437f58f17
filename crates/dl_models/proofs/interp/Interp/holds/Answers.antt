use Rattle.std.proofs.Common.{sym, subst}
use Rattle.dl_models.specs.Meaning.{GivesHead}
use Rattle.dl_models.specs.Structures.{finite}
use Rattle.dl_models.specs.Values.{CanAgree}
use Rattle.dl_models.proofs.ValueLemmas.{adds-true}
use Rattle.dl_models.proofs.MatchLemmas.{none-given, query-long, query-holds}
use Rattle.dl_models.proofs.interp.Interp.holds.Goals as goal

pub returns-then-head-tuple : goal.returns-then-head-tuple
returns-then-head-tuple c = query-long c.args.self.now c.args.query.now c.args.tuple.now c.as_slice-head.result.now c.as_slice-head.ensures c.if-head-tuple.true

pub bind_head-requires-clause-some : goal.bind_head-requires-clause-some
bind_head-requires-clause-some c = none-given c.args.self.now c.new-values.result.items c.new-values.ensures.items

pub holds_from-requires : goal.holds_from-requires
holds_from-requires c =
    subst CanAgree (sym c.as_slice.ensures.value)
    (adds-true (λ m. GivesHead (finite c.args.self.now) m c.as_slice-head.result.now c.args.tuple.now) c.new-values.result.items c.bind_head.new.values.items c.in_ok-bind_head.field-0 c.in_ok-bind_head.ensures c.if-not-branch.false).some

pub returns : goal.returns
returns c =
    query-holds c.args.self.now c.holds_from.result c.args.query.now c.args.tuple.now c.as_slice-head.result.now c.as_slice-2.result.now c.new-values.result.items c.bind_head.new.values.items c.as_slice.result.now
    c.as_slice-head.ensures c.as_slice-2.ensures c.new-values.ensures.items c.as_slice.ensures.value
    (adds-true (λ m. GivesHead (finite c.args.self.now) m c.as_slice-head.result.now c.args.tuple.now) c.new-values.result.items c.bind_head.new.values.items c.in_ok-bind_head.field-0 c.in_ok-bind_head.ensures c.if-not-branch.false) c.holds_from.ensures
