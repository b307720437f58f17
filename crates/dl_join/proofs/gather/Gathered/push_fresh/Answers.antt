use Rattle.std.proofs.Common.{refl}
use Rattle.dl_join.proofs.GatherLemmas.{gathers_fresh}
use Rattle.dl_join.proofs.gather.Gathered.push_fresh.Goals as goal

pub returns : goal.returns
returns c = gathers_fresh c.args.self.now _ c.args.tuple.items c.requires.valid refl refl (rw c.of.ensures at c.in_ok-push.ensures.ok) c.requires.width
