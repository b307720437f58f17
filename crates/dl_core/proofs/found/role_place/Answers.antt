use Rattle.dl_core.proofs.FoundLemmas.{role_place, role_unknown}
use Rattle.dl_core.proofs.found.role_place.Goals as goal

pub returns-in-Some : goal.returns-in-Some
returns-in-Some c =
    role_place c.args.shard.now c.args.epoch.now c.id.result c.in-Some.number c.args.role c.args.from c.args.to
    c.id.ensures.id
    c.in-Some.ensures c.find.result c.find.ensures

pub returns-in-None : goal.returns-in-None
returns-in-None c = role_unknown c.args.shard.now c.args.epoch.now c.args.role c.args.from c.args.to c.in-None.ensures
