use Rattle.std.proofs.Common.{◌≡◌, [], rules}
use Rattle.std.proofs.lemmas.Result.{on_ok_weaker, on_err_weaker}
use Rattle.dl_io.proofs.Gathered.{Takes-past, TakesPrefix-past}
use Rattle.dl_io.proofs.gathering.GatheringSink.put.Goals as goal

pub returns-clause-all : goal.returns-clause-all
returns-clause-all g c =
    let none : c.make_room.new.self.gathered.now.items ≡ [] = search rules in
    on_ok_weaker c.write_all.result (Takes-past _ _ _ _ _ none c.make_room.ensures.same) c.write_all.ensures.all

pub returns-clause-prefix : goal.returns-clause-prefix
returns-clause-prefix g c =
    let none : c.make_room.new.self.gathered.now.items ≡ [] = search rules in
    on_err_weaker c.write_all.result (TakesPrefix-past _ _ _ _ _ none c.make_room.ensures.same) c.write_all.ensures.prefix
