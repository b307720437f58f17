-- The command `answer`: what it prints for its three files.
use Rattle.std.specs.Prelude.{◌≡◌, ℕ, List, ◌++◌, length, Option, Result, Ok, Err}
use Rattle.dl_terms.specs.Queries.{IsWellFormed}
use Rattle.dl_terms.specs.Reply.{Reply, IsReply, inconsistent, found, too_many}
use Rattle.dl_terms.specs.declared.axiom.Axiom.{Axiom}
use Rattle.dl_terms.specs.declared.query.Query.{Query}
use Rattle.dl_answer.specs.Replies as answer
use Rattle.dl_event.specs.Answers.{reply_of}
use Rattle.dl_event.specs.declared.answer.Answer.{Answer}
use Rattle.dl_event.specs.declared.answer.AskFault.{AskFault}
use Rattle.dl_text.specs.AnswerText.{answers_text, inconsistent_text}
use Rattle.dl_run.specs.Input.{KnowledgeBase, AreInput}
use Rattle.dl_run.specs.Numbered.{base_of, IsMade}
use Rattle.dl_run.specs.Output.{facts_line, answer_text}
use Rattle.dl_run.specs.Refusals.{refusal_text}
use Rattle.dl_run.specs.Store.{IsWithinLimits, IsLoadWrong}
use Rattle.dl_run.specs.Texts.{read_fault_text, no_memory_text}
use Rattle.dl_run.specs.ThirdFile.{query_file}
use Rattle.dl_run.specs.Wrong.{IsFirstWrong}
use Rattle.dl_run.specs.declared.answers.Answers.{Answers}
use Rattle.dl_run.specs.declared.base.NumberedBase.{NumberedBase}
use Rattle.dl_run.specs.declared.status.Status.{Status}
use Rattle.dl_run.specs.declared.status.Status.TheVariants as status
use Rattle.dl_run.specs.declared.stop.Refusal.{Refusal}
use Rattle.dl_run.specs.declared.stop.Refusal.TheVariants.{TooMany}
use Rattle.dl_run.specs.declared.stop.Stop.{Stop}
use Rattle.dl_run.specs.declared.stop.Stop.TheVariants.{Refused, ReadFault, NoMemory}

-- in how many shards a load is asked
abbrev pub shards : ℕ
shards = 4

-- the three files ask this query of this knowledge base
abbrev pub AreAsked : (ontology facts query : List ℕ) → KnowledgeBase → Query → Type 0
AreAsked ontology facts query base asked = AreInput query_file shards ontology facts query base asked

-- the defined reply to a query of a knowledge base
abbrev pub HasReply : KnowledgeBase → Query → (limit : ℕ) → Reply → Type 0
HasReply base asked limit reply = IsReply base.load.axioms base.load.facts base.nothing asked limit reply

-- the bytes of the three files are refused for this cause
pub data IsRefused (ontology facts query : List ℕ) (limit : ℕ) : Refusal → Type 0 where
  wrong : {refusal : Refusal} → IsFirstWrong query_file shards ontology facts query refusal
      → IsRefused ontology facts query limit refusal
  over_limit : {base : KnowledgeBase} {asked : Query} → AreAsked ontology facts query base asked
      → IsWithinLimits base.load → HasReply base asked limit too_many
      → IsRefused ontology facts query limit (TooMany limit)

-- what is printed for the bytes of the three files: why they are refused, the first broken axiom, or the answers
pub data AnswerPrints (ontology facts query : List ℕ) (limit : ℕ) : Status → List ℕ → Type 0 where
  refused : {refusal : Refusal} → IsRefused ontology facts query limit refusal
      → AnswerPrints ontology facts query limit status.Refused (refusal_text refusal)
  breaks : {base : KnowledgeBase} {asked : Query} {broken : Option Axiom} → AreAsked ontology facts query base asked
      → IsWithinLimits base.load → HasReply base asked limit (inconsistent broken)
      → AnswerPrints ontology facts query limit status.Done
      (facts_line (length base.load.facts) base.skipped ++ inconsistent_text base.names broken)
  answers : {base : KnowledgeBase} {asked : Query} {tuples : List (List ℕ)} → AreAsked ontology facts query base asked
      → IsWithinLimits base.load → HasReply base asked limit (found tuples)
      → AnswerPrints ontology facts query limit status.Done
      (facts_line (length base.load.facts) base.skipped ++ answers_text base.names tuples)

-- the same for the names of the three files
abbrev pub AnswerOf : (ontology facts query : List ℕ) (limit : ℕ) → (List ℕ → List ℕ) → Status → List ℕ → Type 0
AnswerOf ontology facts query limit file_of = AnswerPrints (file_of ontology) (file_of facts) (file_of query) limit

-- ---- for private functions

-- what the files ask, the first thing that is wrong with them, or want of memory
abbrev pub Gives : (ontology facts query : List ℕ) → Result (NumberedBase × Query) Stop → Type 0
Gives ontology facts query (Ok asked) =
    AreAsked ontology facts query (base_of shards asked.0) asked.1 × IsMade asked.0 × IsWellFormed asked.1
Gives ontology facts query (Err (Refused refusal)) = IsFirstWrong query_file shards ontology facts query refusal
Gives ontology facts query (Err ReadFault) = ⊥
Gives ontology facts query (Err NoMemory) = Unit {0}

-- an answer is the defined reply to a query of what is held
abbrev pub AnswersAsked : NumberedBase → Query → (limit : ℕ) → Result Answer AskFault → Type 0
AnswersAsked base asked limit = answer.RepliesTo base.axioms base.facts base.nothing asked limit 1

-- why an answer to a query doesn't come: there are more than the limit, or there is no memory
abbrev pub IsNoAnswer : KnowledgeBase → Query → ℕ → Stop → Type 0
IsNoAnswer base asked limit (Refused refusal) = (refusal ≡ TooMany limit) × HasReply base asked limit too_many
IsNoAnswer base asked limit ReadFault = ⊥
IsNoAnswer base asked limit NoMemory = Unit {0}

-- why a query of a knowledge base isn't answered: a limit that the load passes, or more answers than the limit
pub data IsUnanswered (base : KnowledgeBase) (asked : Query) (limit : ℕ) : Refusal → Type 0 where
  over_load : {refusal : Refusal} → IsLoadWrong base.load refusal → IsUnanswered base asked limit refusal
  over_limit : IsWithinLimits base.load → HasReply base asked limit too_many
      → IsUnanswered base asked limit (TooMany limit)

-- the answers to a query of a knowledge base or what is broken, why it isn't answered, or want of memory
abbrev pub RepliesTo : KnowledgeBase → Query → ℕ → Result Answers Stop → Type 0
RepliesTo base asked limit (Ok given) =
    IsWithinLimits base.load × HasReply base asked limit (reply_of given.answer)
    × (given.names ≡ base.names) × (given.facts ≡ length base.load.facts) × (given.skipped ≡ base.skipped)
RepliesTo base asked limit (Err (Refused refusal)) = IsUnanswered base asked limit refusal
RepliesTo base asked limit (Err ReadFault) = ⊥
RepliesTo base asked limit (Err NoMemory) = Unit {0}

-- the status of answers, or of what stands in their place
abbrev pub status_of : Result Answers Stop → Status
status_of (Ok given) = status.Done
status_of (Err (Refused refusal)) = status.Refused
status_of (Err ReadFault) = status.ReadFault
status_of (Err NoMemory) = status.NoMemory

-- the text of answers, or of a broken axiom
abbrev pub text_of_answers : Answers → List ℕ
text_of_answers given = facts_line given.facts given.skipped ++ answer_text given.names given.answer

-- the text of answers, or of what stands in their place
abbrev pub text_of : Result Answers Stop → List ℕ
text_of (Ok given) = text_of_answers given
text_of (Err (Refused refusal)) = refusal_text refusal
text_of (Err ReadFault) = read_fault_text
text_of (Err NoMemory) = no_memory_text
