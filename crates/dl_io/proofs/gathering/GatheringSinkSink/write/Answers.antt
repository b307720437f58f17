use Rattle.dl_io.proofs.Lent.{grown, grown-prefix, grown-answer}
use Rattle.std.proofs.Common.{take}
use Rattle.dl_io.proofs.gathering.GatheringSinkSink.write.Goals as goal

pub returns-clause-lent : goal.returns-clause-lent
returns-clause-lent g c =
    record {
      same = c.make_room.ensures.same_reference;
      more = grown _ _ _ (grown-prefix _ _ _ c.make_room.ensures.same.handed)
          (grown-answer c.write.result _ _ (λ n. take n c.args.piece.now) c.write.ensures.appended c.write.ensures.nothing);
    }
