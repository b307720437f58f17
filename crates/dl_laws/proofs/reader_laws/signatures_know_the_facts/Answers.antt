use Rattle.dl_core.proofs.FactSignatureLemmas.{facts_known, facts_in}
use Rattle.dl_laws.proofs.reader_laws.signatures_know_the_facts.Goals as goal

pub returns : goal.returns
returns c = record { known = facts_known; each = facts_in }
