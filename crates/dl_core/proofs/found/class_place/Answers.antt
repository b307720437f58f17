use Rattle.dl_core.proofs.FoundLemmas.{class_place, class_unknown}
use Rattle.dl_core.proofs.found.class_place.Goals as goal

pub returns-in-Some : goal.returns-in-Some
returns-in-Some c =
    class_place c.args.shard.now c.args.epoch.now c.id.result c.in-Some.number c.args.class c.args.who c.id.ensures.id
    c.in-Some.ensures c.find.result c.find.ensures

pub returns-in-None : goal.returns-in-None
returns-in-None c = class_unknown c.args.shard.now c.args.epoch.now c.args.class c.args.who c.in-None.ensures
