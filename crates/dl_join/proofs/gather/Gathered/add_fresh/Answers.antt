use Rattle.std.proofs.Common.{◌≡◌}
use Rattle.dl_join.proofs.GatherLemmas.{ok_then, over_then}
use Rattle.dl_join.proofs.gather.Gathered.add_fresh.Goals as goal

pub returns-clause-ok : goal.returns-clause-ok
returns-clause-ok c =
    ok_then (λ t. t ≡ c.args.tuple.items) c.args.self.now c.push_fresh.new.self c.settle.new.self c.settle.result c.in_ok-push_fresh.ensures c.settle.ensures.ok

pub returns-clause-many : goal.returns-clause-many
returns-clause-many c = λ e. over_then (λ t. t ≡ c.args.tuple.items) c.args.self.now c.push_fresh.new.self c.in_ok-push_fresh.ensures (c.settle.ensures.many e)
