use Rattle.std.proofs.Common.{sym, subst}
use Rattle.dl_stream.specs.declared.fault.Kind.TheVariants.{NotEnded}
use Rattle.dl_stream.specs.declared.fault.StreamFault.TheVariants.{Line}
use Rattle.dl_stream.specs.Parts.{shown, IsOpenAt, wanting, not_closed}
use Rattle.dl_stream.proofs.reading.streams_at.Goals as goal

pub returns-in_default : goal.returns-in_default
returns-in_default c = wanting

pub returns : goal.returns
returns c = subst (λ p. IsOpenAt (shown p) (Line c.in-InCommit.at NotEnded)) (sym c.in-InCommit.is) not_closed
