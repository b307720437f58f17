-- Of the things that are wrong with the files one is the first, and where one is, the files give nothing that is answered.
use Rattle.std.proofs.Common.{◌≡◌, ◌≢◌, ℕ, List, [], subst, ap, sym, ◌∙◌, refl, arith}
use Rattle.dl_names.specs.NameList.{Text}
use Rattle.dl_terms.specs.declared.axiom.Fact.{Fact}
use Rattle.dl_owl.specs.declared.document.Document.{Document}
use Rattle.dl_owl.specs.declared.fault.OwlFault.{OwlFault}
use Rattle.dl_owl.specs.declared.fault.OwlFault.TheVariants as owl
use Rattle.dl_owl.specs.Causes.{fault_of}
use Rattle.dl_owl.specs.Expected.{prologue}
use Rattle.dl_owl.specs.Reading.{ReadsValue, IsFault}
use Rattle.dl_owl.proofs.TokenLists.{one_value, one_fault_read, no_fault_at_value}
use Rattle.dl_triples.specs.declared.fault.TripleFault.{TripleFault}
use Rattle.dl_triples.specs.declared.fault.TripleFault.TheVariants as triples
use Rattle.dl_triples.specs.Reading.{IsFirstFault}
use Rattle.dl_triples.proofs.ValueLemmas.{one_first, value_no_fault}
use Rattle.dl_run.specs.Input.{KnowledgeBase, IsFirstTooLong, AllFit, AreRead, AreInput}
use Rattle.dl_run.specs.Input.IsFirstTooLong.{ontology_is, data_is, third_is}
use Rattle.dl_run.specs.Numbered.{IsBaseStop}
use Rattle.dl_run.specs.Stops.{stop_of_ontology, stop_of_data}
use Rattle.dl_run.specs.Store.{IsWithinLimits, IsLoadWrong}
use Rattle.dl_run.specs.ThirdFile.{ThirdFile}
use Rattle.dl_run.specs.Wrong.{HasBaseFault, IsFirstWrong}
use Rattle.dl_run.specs.Wrong.HasBaseFault.{in_ontology, in_data}
use Rattle.dl_run.specs.Wrong.IsFirstWrong.{too_long, in_base, in_third, in_load}
use Rattle.dl_run.specs.declared.stop.InputFile.{InputFile}
use Rattle.dl_run.specs.declared.stop.Refusal.{Refusal}
use Rattle.dl_run.specs.declared.stop.Refusal.TheVariants.{TooLong}
use Rattle.dl_run.specs.declared.stop.Stop.{Stop}
use Rattle.dl_run.specs.declared.stop.Stop.TheVariants.{Refused, ReadFault, NoMemory}
use Rattle.dl_run.proofs.InputLemmas.{AreRead-unique, AreInput-unique}
use Rattle.dl_run.proofs.StoreLemmas.{one_load_wrong, wrong_or_within}
use Rattle.dl_run.proofs.ThirdLemmas.{IsDetermined, same_refusal}

-- an ontology has a value or one fault
value_no_owl_fault : {o : List ℕ} {document : Document} {names : List Text} {fault : OwlFault} → ReadsValue o prologue [] document names
    → IsFault o prologue [] fault → ⊥
value_no_owl_fault {o} {document} {names} value first = no_fault_at_value o prologue [] document names first.cause first.at value first.read

one_owl_fault : {o : List ℕ} {one two : OwlFault} → IsFault o prologue [] one → IsFault o prologue [] two → one ≡ two
one_owl_fault {o} first second =
    let same = one_fault_read o prologue [] first.cause second.cause first.at second.at first.read second.read in
    first.is ∙ (λ i. fault_of (same.0 i) (same.1 i)) ∙ sym second.is

module _ {o d : List ℕ} where
  -- where ontology and data are read, neither has a fault
  read_no_first : {document other : Document} {t : List Fact} {k : ℕ} {n m : List Text} {fault : TripleFault}
      → AreRead o d document t k n → ReadsValue o prologue [] other m → IsFirstFault d m fault → ⊥
  read_no_first {document} {other} {t} {k} {n} {m} {fault} read value first =
      let same = (one_value o prologue [] other document m read.first value read.is_ontology).1 in
      value_no_fault d read.first t k n fault read.is_data (subst (λ l. IsFirstFault d l fault) same first)

  read_no_fault : {document : Document} {t : List Fact} {k : ℕ} {n : List Text} {refusal : Refusal} → AreRead o d document t k n
      → HasBaseFault o d refusal → ⊥
  read_no_fault read (in_ontology first is) = value_no_owl_fault read.is_ontology first
  read_no_fault read (in_data value first is) = read_no_first read value first

  -- they have one fault at most
  one_base_fault : {one two : Refusal} → HasBaseFault o d one → HasBaseFault o d two → one ≡ two
  one_base_fault (in_ontology first is) (in_ontology first' is') = same_refusal _ _ is is' (ap stop_of_ontology (one_owl_fault first first'))
  one_base_fault (in_ontology first is) (in_data value first' is') = absurd (value_no_owl_fault value first)
  one_base_fault (in_data value first is) (in_ontology first' is') = absurd (value_no_owl_fault value first')
  one_base_fault (in_data {document = document} {names = m} {fault = f} value first is) (in_data {document = other} {names = n} {fault = g} value' first' is') =
      let same = (one_value o prologue [] document other m n value value').1 in
      same_refusal _ _ is is' (ap stop_of_data (one_first d n f g (subst (λ l. IsFirstFault d l f) same first) first'))

module _ {o d q : List ℕ} where
  long_or_fit : {third which : InputFile} → IsFirstTooLong third o d q which → AllFit o d q → ⊥
  long_or_fit (ontology_is long) fit = omega (arith, long, fit.ontology_fits)
  long_or_fit (data_is first long) fit = omega (arith, long, fit.data_fits)
  long_or_fit (third_is first then long) fit = omega (arith, long, fit.last_fits)

  -- the first file that is too long is one
  one_too_long : {third which other : InputFile} → IsFirstTooLong third o d q which → IsFirstTooLong third o d q other → which ≡ other
  one_too_long (ontology_is a) (ontology_is b) = refl
  one_too_long (ontology_is a) (data_is f b) = absurd (omega (arith, a, f))
  one_too_long (ontology_is a) (third_is f g b) = absurd (omega (arith, a, f))
  one_too_long (data_is f a) (ontology_is b) = absurd (omega (arith, b, f))
  one_too_long (data_is f a) (data_is g b) = refl
  one_too_long (data_is f a) (third_is g h b) = absurd (omega (arith, a, h))
  one_too_long (third_is f g a) (ontology_is b) = absurd (omega (arith, b, f))
  one_too_long (third_is f g a) (data_is h b) = absurd (omega (arith, b, g))
  one_too_long (third_is f g a) (third_is h i b) = refl

module _ {third : ThirdFile} (determined : IsDetermined third) {shards : ℕ} {o d q : List ℕ} where
  -- where the third file has a value, it has no fault
  read_no_third : {base : KnowledgeBase} {value : third.Value} {document : Document} {t : List Fact} {k : ℕ} {n : List Text} {refusal : Refusal}
      → AreInput third shards o d q base value → AreRead o d document t k n → third.HasFault q n refusal → ⊥
  read_no_third {n = n} {refusal = refusal} input read first =
      let same = (AreRead-unique input.are_read read).3 in
      determined.not_both q n input.read input.met refusal (subst (λ m. third.IsValue q m input.read input.met) same input.is_third) first

  -- where something is wrong, there is nothing that is answered
  pub wrong_no_answer : {base : KnowledgeBase} {value : third.Value} {refusal : Refusal} → IsFirstWrong third shards o d q refusal
      → AreInput third shards o d q base value → IsWithinLimits base.load → ⊥
  wrong_no_answer (too_long long) input limits = long_or_fit long input.fit
  wrong_no_answer (in_base fit first) input limits = read_no_fault input.are_read first
  wrong_no_answer (in_third fit read first) input limits = read_no_third input read first
  wrong_no_answer {base} {value} {refusal} (in_load {base = other} {value = also} again wrong) input limits =
      wrong_or_within (subst (λ (b : KnowledgeBase). IsLoadWrong b.load refusal) (AreInput-unique determined again input).0 wrong) limits

  same_load_wrong : {base other : KnowledgeBase} {value also : third.Value} {one two : Refusal} → AreInput third shards o d q base value
      → AreInput third shards o d q other also → IsLoadWrong base.load one → IsLoadWrong other.load two → one ≡ two
  same_load_wrong {base} {other} {value} {also} {one} {two} input again wrong more =
      one_load_wrong wrong (subst (λ (b : KnowledgeBase). IsLoadWrong b.load two) (AreInput-unique determined again input).0 more)

  -- one thing is the first that is wrong
  pub one_wrong : {one two : Refusal} → IsFirstWrong third shards o d q one → IsFirstWrong third shards o d q two → one ≡ two
  one_wrong (too_long a) (too_long b) = ap TooLong (one_too_long a b)
  one_wrong (too_long a) (in_base fit first) = absurd (long_or_fit a fit)
  one_wrong (too_long a) (in_third fit read first) = absurd (long_or_fit a fit)
  one_wrong (too_long a) (in_load input wrong) = absurd (long_or_fit a input.fit)
  one_wrong (in_base fit first) (too_long b) = absurd (long_or_fit b fit)
  one_wrong (in_base fit first) (in_base fit' first') = one_base_fault first first'
  one_wrong (in_base fit first) (in_third fit' read first') = absurd (read_no_fault read first)
  one_wrong (in_base fit first) (in_load input wrong) = absurd (read_no_fault input.are_read first)
  one_wrong (in_third fit read first) (too_long b) = absurd (long_or_fit b fit)
  one_wrong (in_third fit read first) (in_base fit' first') = absurd (read_no_fault read first')
  one_wrong (in_third {names = m} {refusal = r} fit read first) (in_third {names = n} {refusal = s} fit' read' first') =
      determined.one_fault q n r s (subst (λ l. third.HasFault q l r) (AreRead-unique read read').3 first) first'
  one_wrong (in_third fit read first) (in_load input wrong) = absurd (read_no_third input read first)
  one_wrong (in_load input wrong) (too_long b) = absurd (long_or_fit b input.fit)
  one_wrong (in_load input wrong) (in_base fit first) = absurd (read_no_fault input.are_read first)
  one_wrong (in_load input wrong) (in_third fit read first) = absurd (read_no_third input read first)
  one_wrong (in_load input wrong) (in_load again more) = same_load_wrong input again wrong more

-- ---- what the readers' faults mean

-- a fault of the ontology stops the command, and want of memory
module _ (o d : List ℕ) where
  pub ontology_stops : (fault : OwlFault) (stop : Stop) → stop ≡ stop_of_ontology fault
      → (fault ≢ owl.NoMemory → IsFault o prologue [] fault) → IsBaseStop o d stop
  ontology_stops fault stop made told = subst (IsBaseStop o d) (sym made) (by fault (stop_of_ontology fault) refl told)
    where
      by : (fault : OwlFault) (stop : Stop) → stop_of_ontology fault ≡ stop → (fault ≢ owl.NoMemory → IsFault o prologue [] fault)
          → IsBaseStop o d stop
      by fault (Refused refusal) is told =
          in_ontology (told (λ none. let no : NoMemory ≡ Refused refusal = ap stop_of_ontology (sym none) ∙ is in cc)) is
      by (owl.Syntax n) ReadFault is told = cc
      by (owl.TooDeep n) ReadFault is told = cc
      by (owl.PrefixUnknown n) ReadFault is told = cc
      by (owl.NotQl n what) ReadFault is told = cc
      by (owl.LeftOut n what) ReadFault is told = cc
      by (owl.Reserved n) ReadFault is told = cc
      by (owl.TooManyNames n) ReadFault is told = cc
      by owl.NoMemory ReadFault is told = cc
      by fault NoMemory is told = tt

  -- and a fault of the data
  pub data_stops : (document : Document) (first : List Text) → ReadsValue o prologue [] document first → (fault : TripleFault) (stop : Stop)
      → stop ≡ stop_of_data fault → (fault ≢ triples.NoMemory → IsFirstFault d first fault) → IsBaseStop o d stop
  data_stops document first value fault stop made told = subst (IsBaseStop o d) (sym made) (by fault (stop_of_data fault) refl told)
    where
      by : (fault : TripleFault) (stop : Stop) → stop_of_data fault ≡ stop → (fault ≢ triples.NoMemory → IsFirstFault d first fault)
          → IsBaseStop o d stop
      by fault (Refused refusal) is told =
          in_data value (told (λ none. let no : NoMemory ≡ Refused refusal = ap stop_of_data (sym none) ∙ is in cc)) is
      by (triples.Line n) ReadFault is told = cc
      by (triples.Blank n) ReadFault is told = cc
      by (triples.Reserved n) ReadFault is told = cc
      by (triples.TooManyNames n) ReadFault is told = cc
      by triples.NoMemory ReadFault is told = cc
      by fault NoMemory is told = tt
