-- What the axiom of a text names, and that no role of it is an auxiliary role.
use Rattle.std.proofs.Common.{ℕ, List, All}
use Rattle.dl_names.specs.NameList.{Text}
use Rattle.dl_terms.specs.Auxiliaries.{HasNoAuxiliary}
use Rattle.dl_owl.specs.declared.document.Document.{Document}
use Rattle.dl_owl.specs.Expected.{lone_axiom}
use Rattle.dl_owl.specs.Reading.{ReadsValue}
use Rattle.dl_owl.proofs.PlaceLemmas.{Places}
use Rattle.dl_owl.proofs.PlaceLemmas as places
use Rattle.dl_owl.proofs.ReadBack as back

pub axiom_places : {text : List ℕ} {names after : List Text} (d : Document) → ReadsValue text lone_axiom names d after → Places names d after
axiom_places {names = names} {after = after} d h = places.axiom_places names h.tokens d after h.comes

pub axioms_plain : {text : List ℕ} {names after : List Text} (d : Document) → ReadsValue text lone_axiom names d after → All HasNoAuxiliary d.axioms
axioms_plain {text = text} {names = names} {after = after} d h = back.axioms_plain after d.axioms (back.lone_axiom_in text names after d h)
