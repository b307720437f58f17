use Rattle.std.proofs.Common.{refl, arith}
use Rattle.dl_join.proofs.GatherLemmas.{gathers_known, over_known}
use Rattle.dl_join.proofs.gather.Gathered.add_known.Goals as goal

pub returns-then-len-self-clause-many : goal.returns-then-len-self-clause-many
returns-then-len-self-clause-many c = λ _. over_known c.args.self.now c.args.tuple.now c.requires.valid c.requires.after (grind arith)

pub returns-clause-ok : goal.returns-clause-ok
returns-clause-ok c =
    gathers_known c.args.self.now _ c.args.tuple.now c.requires.valid refl c.in_ok-push.ensures.width c.in_ok-push.ensures.ok refl c.requires.after (grind arith)
