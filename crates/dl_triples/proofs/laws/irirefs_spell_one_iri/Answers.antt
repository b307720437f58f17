use Rattle.dl_triples.proofs.TextUtf8Lemmas.{one_iriref, iri_is_iri, iri_plain}
use Rattle.dl_triples.proofs.laws.irirefs_spell_one_iri.Goals as goal

pub returns : goal.returns
returns c = record { one = one_iriref; iri = iri_is_iri; plain = iri_plain }
