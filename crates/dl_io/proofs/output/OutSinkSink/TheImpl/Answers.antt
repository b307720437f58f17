use Rattle.dl_io.proofs.Answered.{IfOk-each, OnErr-anyway, HasRisen-counted}
use Rattle.dl_io.proofs.output.OutSinkSink.TheImpl.Goals as goal

-- It tells nothing, so no clause on what it tells has anything to say.
pub write-tells : goal.write-tells
write-tells g c =
    record {
      fits = c.ensures.fits;
      some = c.ensures.some;
      appended = IfOk-each c.result _ (λ _. tt);
      nothing = OnErr-anyway c.result _ tt;
      count = c.ensures.count;
      lent = tt;
      failed = HasRisen-counted c.result c.args.self.now c.new.self.now c.ensures.counted;
    }
