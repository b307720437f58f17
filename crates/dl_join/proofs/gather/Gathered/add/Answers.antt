use Rattle.std.proofs.Common.{◌≡◌, ◌⊎◌, inl, map}
use Rattle.std.proofs.lemmas.Result.{err_from_is_err_and}
use Rattle.dl_join.specs.Searching.{name_or_zero}
use Rattle.dl_join.specs.Gathering.{Has}
use Rattle.dl_join.proofs.GatherLemmas.{AreMoreThan-weaker, ok_same, ok_after, over_after}
use Rattle.dl_join.proofs.gather.Gathered.add.Goals as goal

pub returns-in_err-begin-clause-many : goal.returns-in_err-begin-clause-many
returns-in_err-begin-clause-many c = λ e.
    let p = err_from_is_err_and c.from_residual-in_err-begin.result c.from_residual-in_err-begin.ensures.1 in
    AreMoreThan-weaker c.args.self.now.limit (Has c.args.self.now) (λ t. Has c.args.self.now t ⊎ (t ≡ map name_or_zero c.args.head.now)) (λ t h. inl h)
    (c.in_err-begin.ensures.many (cc (p.1, p.2, e)))

pub returns-clause-ok : goal.returns-clause-ok
returns-clause-ok c =
    ok_after (λ t. t ≡ map name_or_zero c.args.head.now) c.args.self.now c.begin.new.self c.add_own.new.self c.add_own.result c.in_ok-begin.ensures.ok
    (ok_same c.in_ok-tuple.tuple.items (map name_or_zero c.args.head.now) c.begin.new.self c.add_own.new.self c.add_own.result c.in_ok-tuple.ensures c.add_own.ensures.ok)

pub returns-clause-many : goal.returns-clause-many
returns-clause-many c = λ e.
    over_after (λ t. t ≡ map name_or_zero c.args.head.now) c.args.self.now c.begin.new.self c.in_ok-begin.ensures.ok
    (rw c.in_ok-tuple.ensures at (c.add_own.ensures.many e))
