use Rattle.dl_core.proofs.GrowthLemmas.{axioms_stay, facts_stay, signature_stays}
use Rattle.dl_laws.proofs.reader_laws.versions_have_the_same.Goals as goal

pub returns : goal.returns
returns c = record { axioms = axioms_stay; facts = facts_stay; signature = signature_stays }
