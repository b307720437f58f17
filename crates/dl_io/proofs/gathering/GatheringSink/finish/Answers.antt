use Rattle.std.proofs.Common.{refl}
use Rattle.dl_io.proofs.Handed.{prints_nothing}
use Rattle.dl_io.proofs.gathering.GatheringSink.finish.Goals as goal

pub returns-clause-printed : goal.returns-clause-printed
returns-clause-printed g c =
    let handed = c.hand_on.ensures in
    prints_nothing g.S.Sink.got g.S.Sink.faults _ _ c.hand_on.result refl handed.same handed.count handed.failed
