-- The first thing that is wrong with the files of an input. The order is this project's own: a file that is too long, a
-- fault of the ontology, of the data, of the third file, then the limits of the load.
use Rattle.std.specs.Prelude.{◌≡◌, ℕ, List, []}
use Rattle.dl_names.specs.NameList.{Text}
use Rattle.dl_terms.specs.declared.axiom.Fact.{Fact}
use Rattle.dl_owl.specs.declared.document.Document.{Document}
use Rattle.dl_owl.specs.declared.fault.OwlFault.{OwlFault}
use Rattle.dl_owl.specs.Expected.{prologue}
use Rattle.dl_owl.specs.Reading.{ReadsValue, IsFault}
use Rattle.dl_triples.specs.declared.fault.TripleFault.{TripleFault}
use Rattle.dl_triples.specs.Reading.{IsFirstFault}
use Rattle.dl_run.specs.declared.stop.InputFile.{InputFile}
use Rattle.dl_run.specs.declared.stop.Refusal.{Refusal}
use Rattle.dl_run.specs.declared.stop.Refusal.TheVariants.{TooLong}
use Rattle.dl_run.specs.declared.stop.Stop.TheVariants.{Refused}
use Rattle.dl_run.specs.Stops.{stop_of_ontology, stop_of_data}
use Rattle.dl_run.specs.Input.{KnowledgeBase, IsFirstTooLong, AllFit, AreRead, AreInput}
use Rattle.dl_run.specs.Store.{IsLoadWrong}
use Rattle.dl_run.specs.ThirdFile.{ThirdFile}

-- the fault of the ontology, or of the data behind an ontology without a fault, as it is refused
pub data HasBaseFault (ontology facts : List ℕ) : Refusal → Type 0 where
  in_ontology : {fault : OwlFault} {refusal : Refusal} → IsFault ontology prologue [] fault
      → stop_of_ontology fault ≡ Refused refusal → HasBaseFault ontology facts refusal
  in_data : {document : Document} {names : List Text} {fault : TripleFault} {refusal : Refusal}
      → ReadsValue ontology prologue [] document names → IsFirstFault facts names fault
      → stop_of_data fault ≡ Refused refusal → HasBaseFault ontology facts refusal

-- the first thing that is wrong, as it is refused
pub data IsFirstWrong (third : ThirdFile) (shards : ℕ) (ontology facts last : List ℕ) : Refusal → Type 0 where
  too_long : {which : InputFile} → IsFirstTooLong third.file ontology facts last which
      → IsFirstWrong third shards ontology facts last (TooLong which)
  in_base : {refusal : Refusal} → AllFit ontology facts last → HasBaseFault ontology facts refusal
      → IsFirstWrong third shards ontology facts last refusal
  in_third : {document : Document} {triples : List Fact} {skipped : ℕ} {names : List Text} {refusal : Refusal}
      → AllFit ontology facts last → AreRead ontology facts document triples skipped names
      → third.HasFault last names refusal → IsFirstWrong third shards ontology facts last refusal
  in_load : {base : KnowledgeBase} {value : third.Value} {refusal : Refusal}
      → AreInput third shards ontology facts last base value → IsLoadWrong base.load refusal
      → IsFirstWrong third shards ontology facts last refusal
