-- What `answer` prints is decided by its files, and is printed.
use Rattle.std.proofs.Common.{◌≡◌, ℕ, ◌<◌, ◌≤◌, ◌≢◌, List, ◌++◌, length, slice_index, Option, None, Some, Result, Ok, Err, IfSome, subst, sym, ap, ◌∙◌, refl, arith}
use Rattle.dl_io.specs.Count.{HasRisen}
use Rattle.dl_io.specs.Files.{max_bytes}
use Rattle.dl_terms.specs.Reply.{Reply, inconsistent, found, too_many}
use Rattle.dl_terms.specs.declared.axiom.Axiom.{Axiom}
use Rattle.dl_terms.specs.declared.query.Query.{Query}
use Rattle.dl_terms.proofs.AnswerLemmas.{IsReply-unique}
use Rattle.dl_event.specs.Answers.{reply_of}
use Rattle.dl_event.specs.declared.answer.Answer.{Answer}
use Rattle.dl_event.specs.declared.answer.Answer.TheVariants.{Found, Inconsistent}
use Rattle.dl_triples.specs.declared.reading.Triples.{Triples}
use Rattle.dl_query.specs.declared.fault.QueryFault.{QueryFault}
use Rattle.dl_query.specs.declared.fault.QueryFault.TheVariants as query
use Rattle.dl_query.specs.Queries.{IsValue, HasFault}
use Rattle.dl_owl.specs.declared.document.Document.{Document}
use Rattle.dl_names.specs.NameList.{Text}
use Rattle.dl_terms.specs.Queries.{IsWellFormed}
use Rattle.dl_terms.specs.Renamed.{renamed_query}
use Rattle.dl_run.specs.Answered.{shards, AreAsked, HasReply, IsRefused, AnswerPrints, AnswerOf, Gives, RepliesTo, status_of, text_of}
use Rattle.dl_run.specs.Answered.IsUnanswered.{over_load, over_limit as answers_over}
use Rattle.dl_run.specs.Answered.IsRefused.{wrong, over_limit}
use Rattle.dl_run.specs.Answered.AnswerPrints.{refused, breaks, answers}
use Rattle.dl_run.specs.Numbered.{base_of, IsBaseStop, IsMade}
use Rattle.dl_run.specs.Stops.{stop_of_query}
use Rattle.dl_run.specs.ThirdFile.{query_file}
use Rattle.dl_run.specs.declared.base.NumberedBase.{NumberedBase}
use Rattle.dl_run.specs.Ending.{Says}
use Rattle.dl_run.specs.Ending.Says.{done, refused as stopped, read_fault, no_memory}
use Rattle.dl_run.specs.Files.{IsFileStop}
use Rattle.dl_run.specs.Input.{KnowledgeBase, IsFirstTooLong, AllFit, AreRead, IsNumbered}
use Rattle.dl_run.specs.Output.{facts_line, answer_text}
use Rattle.dl_text.specs.AnswerText.{answers_text, inconsistent_text}
use Rattle.dl_run.specs.Refusals.{refusal_text}
use Rattle.dl_run.specs.Store.{IsWithinLimits}
use Rattle.dl_run.specs.Wrong.{IsFirstWrong}
use Rattle.dl_run.specs.Wrong.IsFirstWrong.{too_long, in_base, in_third, in_load}
use Rattle.dl_run.specs.declared.answers.Answers.{Answers}
use Rattle.dl_run.specs.declared.status.Status.{Status}
use Rattle.dl_run.specs.declared.status.Status.TheVariants.{Done}
use Rattle.dl_run.specs.declared.stop.InputFile.{InputFile}
use Rattle.dl_run.specs.declared.stop.InputFile.TheVariants.{Ontology, Data, Query as QueryFile}
use Rattle.dl_run.specs.Input.IsFirstTooLong.{ontology_is, data_is, third_is}
use Rattle.dl_run.specs.declared.stop.Refusal.{Refusal}
use Rattle.dl_run.specs.declared.stop.Stop.{Stop}
use Rattle.dl_run.specs.declared.stop.Stop.TheVariants as stops
use Rattle.dl_run.proofs.EndingLemmas.{if_some}
use Rattle.dl_run.proofs.InputLemmas.{AreInput-unique}
use Rattle.dl_run.proofs.ThirdLemmas.{query_determined}
use Rattle.dl_run.proofs.WrongLemmas.{wrong_no_answer, one_wrong}

-- what holds of the bytes that were read holds of the files, where the library tells them
pub at_files : (told : Option (List ℕ → List ℕ)) (o d q : List ℕ) {x y z : List ℕ} (P : List ℕ → List ℕ → List ℕ → Type 0)
    → IfSome told (λ file_of. x ≡ file_of o) → IfSome told (λ file_of. y ≡ file_of d) → IfSome told (λ file_of. z ≡ file_of q)
    → P x y z → IfSome told (λ file_of. P (file_of o) (file_of d) (file_of q))
at_files None o d q P ex ey ez h = tt
at_files (Some file_of) o d q {x} {y} {z} P ex ey ez h =
    subst (λ w. P (file_of o) (file_of d) w) ez (subst (λ v. P (file_of o) v z) ey (subst (λ u. P u y z) ex h))

-- a knowledge base that is served has one reply
module _ {x y z : List ℕ} {base other : KnowledgeBase} {asked also : Query} {limit : ℕ} (one : AreAsked x y z base asked) (two : AreAsked x y z other also) where
  same_reply : (a b : Reply) → HasReply base asked limit a → HasReply other also limit b → a ≡ b
  same_reply a b first second =
      let same = AreInput-unique query_determined two one in
      IsReply-unique base.load.axioms base.load.facts base.nothing asked limit a b first
      (subst (λ (q : Query). HasReply base q limit b) same.1
      (subst (λ (k : KnowledgeBase). HasReply k also limit b) same.0 second))

  replies_exclude : {tuples : List (List ℕ)} → HasReply base asked limit too_many
      → HasReply other also limit (found tuples) → ⊥
  replies_exclude {tuples} first second =
      let equal : too_many ≡ found tuples = same_reply too_many (found tuples) first second in cc

  many_exclude : {broken : Option Axiom} → HasReply base asked limit too_many
      → HasReply other also limit (inconsistent broken) → ⊥
  many_exclude {broken} first second =
      let equal : too_many ≡ inconsistent broken = same_reply too_many (inconsistent broken) first second in cc

  broken_exclude : {broken : Option Axiom} {tuples : List (List ℕ)}
      → HasReply base asked limit (inconsistent broken)
      → HasReply other also limit (found tuples) → ⊥
  broken_exclude {broken} {tuples} first second =
      let equal : inconsistent broken ≡ found tuples = same_reply (inconsistent broken) (found tuples) first second in cc

  same_broken : {broken other_broken : Option Axiom} → HasReply base asked limit (inconsistent broken)
      → HasReply other also limit (inconsistent other_broken) → broken ≡ other_broken
  same_broken {broken} {other_broken} first second =
      let equal : inconsistent broken ≡ inconsistent other_broken =
      same_reply (inconsistent broken) (inconsistent other_broken) first second in cc

  same_tuples : {tuples others : List (List ℕ)} → HasReply base asked limit (found tuples)
      → HasReply other also limit (found others) → tuples ≡ others
  same_tuples {tuples} {others} first second =
      let equal : found tuples ≡ found others = same_reply (found tuples) (found others) first second in cc

-- the bytes of the files decide why they are refused
one_refusal : {x y z : List ℕ} {limit : ℕ} {one two : Refusal} → IsRefused x y z limit one → IsRefused x y z limit two → one ≡ two
one_refusal (wrong w) (wrong v) = one_wrong query_determined w v
one_refusal (wrong w) (over_limit input served reply) = absurd (wrong_no_answer query_determined w input served)
one_refusal (over_limit input served reply) (wrong w) = absurd (wrong_no_answer query_determined w input served)
one_refusal (over_limit a b c) (over_limit d e f) = refl

refused_or_broken : {x y z : List ℕ} {limit : ℕ} {refusal : Refusal} {base : KnowledgeBase} {asked : Query} {broken : Option Axiom}
    → IsRefused x y z limit refusal → AreAsked x y z base asked → IsWithinLimits base.load
    → HasReply base asked limit (inconsistent broken) → ⊥
refused_or_broken (wrong w) input served reply = wrong_no_answer query_determined w input served
refused_or_broken (over_limit again also many) input served reply = many_exclude again input many reply

refused_or_answered : {x y z : List ℕ} {limit : ℕ} {refusal : Refusal} {base : KnowledgeBase} {asked : Query} {tuples : List (List ℕ)}
    → IsRefused x y z limit refusal → AreAsked x y z base asked → IsWithinLimits base.load
    → HasReply base asked limit (found tuples) → ⊥
refused_or_answered (wrong w) input served reply = wrong_no_answer query_determined w input served
refused_or_answered (over_limit again also many) input served reply = replies_exclude again input many reply

-- the bytes of the files decide the output
pub one_output : {x y z : List ℕ} {limit : ℕ} {status other : Status} {text also : List ℕ}
    → AnswerPrints x y z limit status text → AnswerPrints x y z limit other also → (status ≡ other) × (text ≡ also)
one_output (refused r) (refused s) = (refl, ap refusal_text (one_refusal r s))
one_output (refused r) (answers input served reply) = absurd (refused_or_answered r input served reply)
one_output (refused r) (breaks input served reply) = absurd (refused_or_broken r input served reply)
one_output (breaks input served reply) (refused r) = absurd (refused_or_broken r input served reply)
one_output (breaks input served reply) (answers again also more) = absurd (broken_exclude input again reply more)
one_output (answers input served reply) (breaks again also more) = absurd (broken_exclude again input more reply)
one_output (breaks {base = base} {broken = a} input served reply) (breaks {base = other} {broken = b} again also more) =
    let same = (AreInput-unique query_determined input again).0 in (
      refl,
      ap (λ (k : KnowledgeBase). facts_line (length k.load.facts) k.skipped ++ inconsistent_text k.names a) same
          ∙ ap (λ n. facts_line (length other.load.facts) other.skipped ++ inconsistent_text other.names n)
          (same_broken input again reply more),
    )
one_output (answers input served reply) (refused r) = absurd (refused_or_answered r input served reply)
one_output (answers {base = base} {tuples = tuples} input served reply) (answers {base = other} {tuples = others} again also more) =
    let same = (AreInput-unique query_determined input again).0 in (
      refl,
      ap (λ (k : KnowledgeBase). facts_line (length k.load.facts) k.skipped ++ answers_text k.names tuples) same
          ∙ ap (λ t. facts_line (length other.load.facts) other.skipped ++ answers_text other.names t) (same_tuples input again reply more),
    )

-- an answer is printed
prints_answer : {x y z : List ℕ} {limit : ℕ} (base : KnowledgeBase) (asked : Query) → AreAsked x y z base asked → IsWithinLimits base.load
    → (answer : Answer) → HasReply base asked limit (reply_of answer)
    → AnswerPrints x y z limit Done (facts_line (length base.load.facts) base.skipped ++ answer_text base.names answer)
prints_answer base asked input limits (Found version tuples) reply = answers input limits reply
prints_answer base asked input limits (Inconsistent version broken) reply = breaks input limits reply

module _ (o d q : List ℕ) (limit : ℕ) (told : Option (List ℕ → List ℕ)) (Rose : Type 0) where
  -- a file that is too long, a fault of reading, or want of memory
  pub says_file_stop : (which : InputFile) (name : List ℕ) (Fault : Type 0) (stop : Stop) (output : Result Answers Stop) → output ≡ Err stop
      → IsFileStop which told name Fault stop → (Fault → Rose)
      → (IfSome told (λ file_of. max_bytes < length (file_of name)) → IfSome told (λ file_of. IsFirstTooLong QueryFile (file_of o) (file_of d) (file_of q) which))
      → Says (AnswerOf o d q limit) told Rose (status_of output) (text_of output)
  says_file_stop which name Fault (stops.Refused refusal) output is stopping rose first =
      rw (is, stopping.1) (stopped (if_some told (λ file_of long. refused (wrong (too_long long))) (first stopping.0)))
  says_file_stop which name Fault stops.ReadFault output is stopping rose first = rw is (read_fault (rose stopping))
  says_file_stop which name Fault stops.NoMemory output is stopping rose first = rw is no_memory

  pub says_no_memory : (stop : Stop) (output : Result Answers Stop) → output ≡ Err stop → stop ≡ stops.NoMemory
      → Says (AnswerOf o d q limit) told Rose (status_of output) (text_of output)
  says_no_memory stop output is made = rw (is, made) no_memory

  module _ (x y z : List ℕ) (ex : IfSome told (λ file_of. x ≡ file_of o)) (ey : IfSome told (λ file_of. y ≡ file_of d)) (ez : IfSome told (λ file_of. z ≡ file_of q)) where
    -- the first thing that is wrong with the files, or want of memory
    pub says_stop : (stop : Stop) (output : Result Answers Stop) → output ≡ Err stop → Gives x y z (Err stop)
        → Says (AnswerOf o d q limit) told Rose (status_of output) (text_of output)
    says_stop (stops.Refused refusal) output is first =
        rw is (stopped (if_some told (λ file_of w. refused (wrong w)) (at_files told o d q (λ x y z. IsFirstWrong query_file shards x y z refusal) ex ey ez first)))
    says_stop stops.ReadFault output is first = absurd first
    says_stop stops.NoMemory output is first = rw is no_memory

    -- the answers to what the files ask, or why there are none
    module _ (base : KnowledgeBase) (asked : Query) (input : AreAsked x y z base asked) where
      input_told : IfSome told (λ file_of. AreAsked (file_of o) (file_of d) (file_of q) base asked)
      input_told = at_files told o d q (λ x y z. AreAsked x y z base asked) ex ey ez input

      pub says_replies : (output : Result Answers Stop) → RepliesTo base asked limit output
          → Says (AnswerOf o d q limit) told Rose (status_of output) (text_of output)
      says_replies (Ok given) replies =
          done (if_some told (λ file_of there. rw (replies.2, replies.3, replies.4) (prints_answer base asked there replies.0 given.answer replies.1)) input_told)
      says_replies (Err (stops.Refused refusal)) (over_load passes) =
          stopped (if_some told (λ file_of there. refused (wrong (in_load there passes))) input_told)
      says_replies (Err (stops.Refused refusal)) (answers_over within reply) =
          stopped (if_some told (λ file_of there. refused (over_limit there within reply)) input_told)
      says_replies (Err stops.ReadFault) replies = absurd replies
      says_replies (Err stops.NoMemory) replies = no_memory

-- a file that was read is not too long
fits_told : (told : Option (List ℕ → List ℕ)) (name bytes : List ℕ) → IfSome told (λ file_of. bytes ≡ file_of name) → length bytes ≤ max_bytes
    → IfSome told (λ file_of. length (file_of name) ≤ max_bytes)
fits_told told name bytes is fits = if_some told (λ file_of is. subst (λ b. length b ≤ max_bytes) is fits) is

-- the first file that is too long, behind those that were read
module _ (told : Option (List ℕ → List ℕ)) (o d q : List ℕ) where
  pub long_ontology : IfSome told (λ file_of. max_bytes < length (file_of o)) → IfSome told (λ file_of. IsFirstTooLong QueryFile (file_of o) (file_of d) (file_of q) Ontology)
  long_ontology = if_some told (λ file_of long. ontology_is long)

  module _ (x : List ℕ) (ex : IfSome told (λ file_of. x ≡ file_of o)) (x_fits : length x ≤ max_bytes) where
    pub long_data : IfSome told (λ file_of. max_bytes < length (file_of d)) → IfSome told (λ file_of. IsFirstTooLong QueryFile (file_of o) (file_of d) (file_of q) Data)
    long_data = by told (fits_told told o x ex x_fits)
      where
        by : (told : Option (List ℕ → List ℕ)) → IfSome told (λ file_of. length (file_of o) ≤ max_bytes) → IfSome told (λ file_of. max_bytes < length (file_of d))
            → IfSome told (λ file_of. IsFirstTooLong QueryFile (file_of o) (file_of d) (file_of q) Data)
        by None a long = tt
        by (Some file_of) a long = data_is a long

    pub long_query : (y : List ℕ) → IfSome told (λ file_of. y ≡ file_of d) → length y ≤ max_bytes
        → IfSome told (λ file_of. max_bytes < length (file_of q)) → IfSome told (λ file_of. IsFirstTooLong QueryFile (file_of o) (file_of d) (file_of q) QueryFile)
    long_query y ey y_fits = by told (fits_told told o x ex x_fits) (fits_told told d y ey y_fits)
      where
        by : (told : Option (List ℕ → List ℕ)) → IfSome told (λ file_of. length (file_of o) ≤ max_bytes) → IfSome told (λ file_of. length (file_of d) ≤ max_bytes)
            → IfSome told (λ file_of. max_bytes < length (file_of q)) → IfSome told (λ file_of. IsFirstTooLong QueryFile (file_of o) (file_of d) (file_of q) QueryFile)
        by None a b long = tt
        by (Some file_of) a b long = third_is a b long

-- a count that rose later rose
pub risen_later : (before between now : ℕ) → before ≤ between → HasRisen between now → HasRisen before now
risen_later before between now grew risen = omega arith

-- ---- what the three files ask

module _ (o d q : List ℕ) (fit : AllFit o d q) where
  -- a fault of ontology or data, or want of memory
  pub base_stops : (stop : Stop) (r : Result (NumberedBase × Query) Stop) → r ≡ Err stop → IsBaseStop o d stop → Gives o d q r
  base_stops stop r is stopping = rw is (by stop stopping)
    where
      by : (stop : Stop) → IsBaseStop o d stop → Gives o d q (Err stop)
      by (stops.Refused refusal) first = in_base fit first
      by stops.ReadFault first = absurd first
      by stops.NoMemory first = tt

  module _ (document : Document) (triples : Triples) (before : List Text) (read : AreRead o d document triples.facts triples.skipped before) where
    -- a fault of the query, or want of memory
    pub query_stops : (fault : QueryFault) (after : List Text) (stop : Stop) (r : Result (NumberedBase × Query) Stop) → r ≡ Err stop
        → stop ≡ stop_of_query fault → (fault ≢ query.NoMemory → HasFault q before fault after) → Gives o d q r
    query_stops fault after stop r is made told = rw (is, made) (by fault (stop_of_query fault) refl told)
      where
        by : (fault : QueryFault) (stop : Stop) → stop_of_query fault ≡ stop → (fault ≢ query.NoMemory → HasFault q before fault after)
            → Gives o d q (Err stop)
        by fault (stops.Refused refusal) is told =
            let t = told (λ none. let no : stops.NoMemory ≡ stops.Refused refusal = ap stop_of_query (sym none) ∙ is in cc) in
            in_third fit read (fault, after, t, is)
        by (query.Syntax n) stops.ReadFault is told = cc
        by (query.Reserved n) stops.ReadFault is told = cc
        by (query.TooManyNames n) stops.ReadFault is told = cc
        by (query.Unsafe n) stops.ReadFault is told = cc
        by (query.TooLarge a e h) stops.ReadFault is told = cc
        by query.NoMemory stops.ReadFault is told = cc
        by fault stops.NoMemory is told = tt

    -- what was read by places, numbered, is what the files ask
    pub gives_asked : (met : List Text) (asked : Query) (ranks : List ℕ) (base : NumberedBase) (numbered : Query) → IsValue q before asked met
        → IsNumbered document triples.facts triples.skipped met ranks (base_of shards base) → numbered ≡ renamed_query (slice_index ranks) asked
        → IsMade base → IsWellFormed numbered → Gives o d q (Ok (base, numbered))
    gives_asked met asked ranks base numbered value is_base is_value made formed = (
      record {
        fit = fit;
        document = document;
        triples = triples.facts;
        skipped = triples.skipped;
        met_before = before;
        are_read = read;
        read = asked;
        met = met;
        is_third = value;
        ranks = ranks;
        is_base = is_base;
        is_value = is_value;
        are_shards = refl;
      },
      made,
      formed,
    )

-- want of memory stops it, too
pub memory_stops : (o d q : List ℕ) (stop : Stop) (r : Result (NumberedBase × Query) Stop) → r ≡ Err stop → stop ≡ stops.NoMemory → Gives o d q r
memory_stops o d q stop r is made = rw (is, made) tt
