use Rattle.dl_io.proofs.Gathered.{Takes-handed}
use Rattle.dl_io.proofs.gathering.hand_on.Goals as goal

pub returns-then-is_empty-clause-same : goal.returns-then-is_empty-clause-same
returns-then-is_empty-clause-same g c =
    let written = c.write_some-written.ensures in
    rw c.drop_front.ensures.rest
    (Takes-handed _ _ _ _ (rw c.as_slice.ensures.value at written.fits) (rw c.as_slice.ensures.value at written.got))

pub returns-clause-same : goal.returns-clause-same
returns-clause-same g c =
    let written = c.write_some-written.ensures in
    rw c.drop_front.ensures.rest
    (Takes-handed _ _ _ _ (rw c.as_slice.ensures.value at written.fits) (rw c.as_slice.ensures.value at written.got))
