-- What private functions hold of ontology and data, and what it stands for.
use Rattle.std.specs.Prelude.{ℕ, ◌<◌, List}
use Rattle.std.specs.List.{All}
use Rattle.std.specs.List.Sorted.{IsStrictlySortedBy}
use Rattle.dl_terms.specs.Auxiliaries.{HasNoAuxiliary}
use Rattle.dl_terms.specs.Occurring.{axiom_names, fact_names}
use Rattle.dl_terms.specs.Order.{axiom_cmp, fact_cmp}
use Rattle.dl_terms.specs.declared.axiom.Fact.{Fact}
use Rattle.dl_epoch.specs.Known.{IsSignature, IsAxiomIn}
use Rattle.dl_core.specs.Loading.{IsFactIn, load_with}
use Rattle.dl_owl.specs.declared.document.Document.{Document}
use Rattle.dl_run.specs.Input.{KnowledgeBase}
use Rattle.dl_run.specs.Wrong.{HasBaseFault}
use Rattle.dl_run.specs.declared.base.NumberedBase.{NumberedBase}
use Rattle.dl_run.specs.declared.stop.Stop.{Stop}
use Rattle.dl_run.specs.declared.stop.Stop.TheVariants.{Refused, ReadFault, NoMemory}

-- the knowledge base that is held, loaded in so many shards
abbrev pub base_of : (shards : ℕ) → NumberedBase → KnowledgeBase
base_of shards base = record {
  names = base.names;
  load = load_with base.axioms base.signature base.facts shards;
  skipped = base.skipped;
  nothing = base.nothing;
}

-- all names of a document and of the listed facts of the data are places below a count, and no axiom has an auxiliary
-- role
pub record ArePlaced (count : ℕ) (document : Document) (listed : List Fact) : Type 0 where
  pub no_auxiliaries : All HasNoAuxiliary document.axioms
  pub axioms : All (λ stated. All (λ place. place < count) (axiom_names stated)) document.axioms
  pub facts : All (λ fact. All (λ place. place < count) (fact_names fact)) document.facts
  pub classes : All (λ place. place < count) document.classes
  pub roles : All (λ place. place < count) document.roles
  pub triples : All (λ fact. All (λ place. place < count) (fact_names fact)) listed

-- why ontology and data aren't read: the fault of them, or want of memory
abbrev pub IsBaseStop : (ontology facts : List ℕ) → Stop → Type 0
IsBaseStop ontology facts (Refused refusal) = HasBaseFault ontology facts refusal
IsBaseStop ontology facts ReadFault = ⊥
IsBaseStop ontology facts NoMemory = Unit {0}

-- what is held can be loaded: axioms and facts ascend, no axiom has an auxiliary role, and the signature is one and has
-- all predicates
pub record IsMade (base : NumberedBase) : Type 0 where
  pub ascending : IsStrictlySortedBy axiom_cmp base.axioms
  pub no_auxiliaries : All HasNoAuxiliary base.axioms
  pub known : All (IsAxiomIn base.signature) base.axioms
  pub signature : IsSignature base.signature
  pub facts_ascending : IsStrictlySortedBy fact_cmp base.facts
  pub facts_known : All (IsFactIn base.signature) base.facts
