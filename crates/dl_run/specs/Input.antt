-- What the three files of an input give: the names, the load, and what the third file says.
use Rattle.std.specs.Prelude.{◌≡◌, ℕ, ◌<◌, ◌≤◌, false, List, [], ◌++◌, length, map, slice_get, slice_index, Option, Some, None}
use Rattle.dl_io.specs.Files.{max_bytes}
use Rattle.dl_names.specs.NameList.{Text, has_name}
use Rattle.dl_names.specs.Frozen.{IsFrozen}
use Rattle.dl_names.specs.Iris.{owl_nothing}
use Rattle.dl_terms.specs.Order.{axiom_cmp, fact_cmp}
use Rattle.dl_terms.specs.Sets.{IsSetOf}
use Rattle.dl_terms.specs.Renamed.{renamed_axiom, renamed_fact}
use Rattle.dl_terms.specs.declared.axiom.Fact.{Fact}
use Rattle.dl_owl.specs.declared.document.Document.{Document}
use Rattle.dl_owl.specs.Expected.{prologue}
use Rattle.dl_owl.specs.Reading.{ReadsValue}
use Rattle.dl_triples.specs.Reading.{IsValue}
use Rattle.dl_core.specs.History.{Load}
use Rattle.dl_run.specs.declared.stop.InputFile.{InputFile}
use Rattle.dl_run.specs.declared.stop.InputFile.TheVariants.{Ontology, Data}
use Rattle.dl_run.specs.Signature.{IsSignatureOf}
use Rattle.dl_run.specs.ThirdFile.{ThirdFile}

-- a knowledge base, which ontology and data give: the names in byte order, the load over their numbers, how many
-- triples were skipped, and the number of owl:Nothing, where it is a name
pub record KnowledgeBase : Type 0 where
  pub names : List Text
  pub load : Load
  pub skipped : ℕ
  pub nothing : Option ℕ

-- the number of a text among the names, or that it is none of them
abbrev pub IsNumberOf : List Text → Text → Option ℕ → Type 0
IsNumberOf names text (Some n) = slice_get names n ≡ Some text
IsNumberOf names text None = has_name names text ≡ false

-- no file is too long
pub record AllFit (ontology facts last : List ℕ) : Type 0 where
  pub ontology_fits : length ontology ≤ max_bytes
  pub data_fits : length facts ≤ max_bytes
  pub last_fits : length last ≤ max_bytes

-- this file is too long, and none before it is; the third one is named
pub data IsFirstTooLong (third : InputFile) (ontology facts last : List ℕ) : InputFile → Type 0 where
  ontology_is : max_bytes < length ontology → IsFirstTooLong third ontology facts last Ontology
  data_is : length ontology ≤ max_bytes → max_bytes < length facts → IsFirstTooLong third ontology facts last Data
  third_is : length ontology ≤ max_bytes → length facts ≤ max_bytes → max_bytes < length last
      → IsFirstTooLong third ontology facts last third

-- ontology and data have no fault: the document, the facts of the data, how many triples are skipped, and the names,
-- each at its place by first occurrence
pub record AreRead (ontology facts : List ℕ) (document : Document) (triples : List Fact) (skipped : ℕ)
    (names : List Text) : Type 0 where
  pub first : List Text
  pub is_ontology : ReadsValue ontology prologue [] document first
  pub is_data : IsValue facts first triples skipped names

-- a knowledge base is what was read, with the rank of each name as its number
pub record IsNumbered (document : Document) (triples : List Fact) (skipped : ℕ) (met : List Text) (ranks : List ℕ)
    (base : KnowledgeBase) : Type 0 where
  pub is_frozen : IsFrozen met base.names ranks
  pub is_axioms : IsSetOf axiom_cmp base.load.axioms (map (renamed_axiom (slice_index ranks)) document.axioms)
  pub is_facts : IsSetOf fact_cmp base.load.facts (map (renamed_fact (slice_index ranks)) (triples ++ document.facts))
  pub is_signature :
      IsSignatureOf base.load.axioms base.load.facts (map (slice_index ranks) document.classes)
      (map (slice_index ranks) document.roles) base.load.signature
  pub is_skipped : base.skipped ≡ skipped
  pub is_nothing : IsNumberOf base.names owl_nothing base.nothing

-- the three files give this knowledge base, in so many shards, and the third one says this
pub record AreInput (third : ThirdFile) (shards : ℕ) (ontology facts last : List ℕ) (base : KnowledgeBase)
    (value : third.Value) : Type 0 where
  pub fit : AllFit ontology facts last
  -- what is read, by the places of names
  pub document : Document
  pub triples : List Fact
  pub skipped : ℕ
  pub met_before : List Text
  pub are_read : AreRead ontology facts document triples skipped met_before
  pub read : third.Value
  pub met : List Text
  pub is_third : third.IsValue last met_before read met
  -- the number of a name is its rank
  pub ranks : List ℕ
  pub is_base : IsNumbered document triples skipped met ranks base
  pub is_value : value ≡ third.renamed (slice_index ranks) read
  pub are_shards : base.load.shards ≡ shards
