use Rattle.std.proofs.Common.{◌≡◌}
use Rattle.dl_join.proofs.GatherLemmas.{ok_from}
use Rattle.dl_join.proofs.gather.Gathered.add_tuple.Goals as goal

pub returns-in-Less-clause-ok : goal.returns-in-Less-clause-ok
returns-in-Less-clause-ok c =
    ok_from (λ t. t ≡ c.args.tuple.now) c.args.self.now c.compare_last.new.self c.add_copy-in-Less.new.self c.add_copy-in-Less.result
    c.in_ok-compare_last.ensures.known c.in_ok-compare_last.ensures.fresh c.in_ok-compare_last.ensures.limit c.add_copy-in-Less.ensures.ok

pub returns-in-Greater-clause-ok : goal.returns-in-Greater-clause-ok
returns-in-Greater-clause-ok c =
    ok_from (λ t. t ≡ c.args.tuple.now) c.args.self.now c.compare_last.new.self c.add_known.new.self c.add_known.result
    c.in_ok-compare_last.ensures.known c.in_ok-compare_last.ensures.fresh c.in_ok-compare_last.ensures.limit c.add_known.ensures.ok
