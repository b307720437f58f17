use Rattle.std.proofs.Common.{refl}
use Rattle.dl_io.proofs.Answered.{IfOk-each}
use Rattle.dl_io.proofs.system.FileLibraryLibrary.TheImpl.Goals as goal

-- It tells nothing, so no clause on what it tells has anything to say.
pub read-tells : goal.read-tells
read-tells g c =
    record {
      fits = c.ensures.fits;
      copied = IfOk-each c.result _ (λ _. tt);
      end = IfOk-each c.result _ (λ _. tt);
      unchanged = refl;
      count = c.ensures.count;
      failed = c.ensures.failed;
    }
