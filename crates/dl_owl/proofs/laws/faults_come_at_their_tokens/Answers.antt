use Rattle.dl_owl.proofs.Turns.{fails_at}
use Rattle.dl_owl.proofs.laws.faults_come_at_their_tokens.Goals as goal

pub returns : goal.returns
returns c = λ e met tokens cause at h. fails_at tokens e met cause at h
