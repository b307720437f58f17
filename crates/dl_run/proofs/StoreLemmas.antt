-- What is wrong with a load is one thing, and the reader of its store.
use Rattle.std.proofs.Common.{◌≡◌, ℕ, List, [], Some, None, Result, Err, inl, inr, refl, sym, ap, subst, ◌∙◌, arith}
use Rattle.dl_terms.specs.declared.axiom.Axiom.{Axiom}
use Rattle.dl_terms.specs.declared.axiom.Fact.{Fact}
use Rattle.dl_terms.specs.declared.query.Query.{Query}
use Rattle.dl_core.specs.History.{Load, Entry, axioms_at, facts_at, pin_of}
use Rattle.dl_core.specs.Root.{Root, IsLoad}
use Rattle.dl_core.specs.Next.{Numbering, IsNumbering, GoesByRule, IsReady, next, load_refused}
use Rattle.dl_core.specs.Loading.{IsLoadOf, IsLoaded, IsLoadFault}
use Rattle.dl_core.specs.Legal.{IsLegal, root_of, Reader, ReaderStandsFor, plain_reader}
use Rattle.dl_core.specs.Steps.{longer, IsStep}
use Rattle.dl_event.specs.declared.event.Event.TheVariants.{Pin}
use Rattle.dl_core.specs.declared.fault.LoadFault.{LoadFault}
use Rattle.dl_core.specs.declared.fault.LoadFault.TheVariants as passed
use Rattle.dl_event.specs.declared.reply.Reply.{Reply}
use Rattle.dl_event.specs.declared.reply.Reply.TheVariants.{Pinned}
use Rattle.dl_core.proofs.RuleLemmas.{rule_exists, rule_is_numbering}
use Rattle.dl_answer.specs.Replies as answer
use Rattle.dl_event.specs.declared.answer.Answer.{Answer}
use Rattle.dl_event.specs.declared.answer.AskFault.{AskFault}
use Rattle.dl_run.specs.Answered.{shards, AnswersAsked, IsNoAnswer, IsUnanswered, RepliesTo}
use Rattle.dl_run.specs.Answered.IsUnanswered.{over_load, over_limit}
use Rattle.dl_run.specs.Input.{KnowledgeBase}
use Rattle.dl_run.specs.Numbered.{base_of, IsMade}
use Rattle.dl_run.specs.Store.{pinned_once, IsWithinLimits, IsLoadWrong, IsReaderOf, IsStopOf}
use Rattle.dl_run.specs.Stops.{stop_of_load}
use Rattle.dl_run.specs.declared.answers.Answers.{Answers}
use Rattle.dl_run.specs.declared.base.NumberedBase.{NumberedBase}
use Rattle.dl_run.specs.declared.stop.Refusal.{Refusal}
use Rattle.dl_run.specs.declared.stop.Stop.{Stop}
use Rattle.dl_run.specs.declared.stop.Stop.TheVariants.{Refused, ReadFault, NoMemory}

-- ---- what is wrong with a load

same_fault : (one two : LoadFault) → Some one ≡ Some two → one ≡ two
same_fault one two same = cc

same_refusal : (one two : Refusal) → Refused one ≡ Refused two → one ≡ two
same_refusal one two same = cc

pub one_load_wrong : {load : Load} {one two : Refusal} → IsLoadWrong load one → IsLoadWrong load two → one ≡ two
one_load_wrong {load} {one} {two} a b =
    same_refusal one two (sym a.is ∙ ap stop_of_load (same_fault a.fault b.fault (sym a.passes ∙ b.passes)) ∙ b.is)

pub wrong_or_within : {load : Load} {refusal : Refusal} → IsLoadWrong load refusal → IsWithinLimits load → ⊥
wrong_or_within wrong within = let no : Some wrong.fault ≡ None = sym wrong.passes ∙ within in cc

-- ---- the store of what is held

-- axioms and facts are sets, so the load is that of their lists
pub load_is : (base : NumberedBase) → IsMade base → (axioms : List Axiom) (facts : List Fact) → axioms ≡ base.axioms → facts ≡ base.facts
    → IsLoadOf axioms base.signature facts shards (base_of shards base).load
load_is base made axioms facts a f =
    subst (λ x. IsLoadOf x base.signature facts shards (base_of shards base).load) (sym a)
    (subst (λ y. IsLoadOf base.axioms base.signature y shards (base_of shards base).load) (sym f) (record {
      axioms_are = record { ascending = made.ascending; members = λ x. (λ c. c, λ c. c) };
      signature_is = refl;
      facts_are = record { ascending = made.facts_ascending; members = λ x. (λ c. c, λ c. c) };
      shards_are = refl;
    }))

-- a limit that is passed stops the command
pub fault_stops : (load : Load) (fault : LoadFault) (stop : Stop) → IsLoadFault load fault → stop ≡ stop_of_load fault → IsStopOf load stop
fault_stops load fault stop (inl passes) is = by fault stop passes is
  where
    by : (fault : LoadFault) (stop : Stop) → load_refused load ≡ Some fault → stop ≡ stop_of_load fault → IsStopOf load stop
    by fault (Refused refusal) passes is = record { fault = fault; passes = passes; is = sym is }
    by (passed.TooManyAxioms weight) ReadFault passes is = cc
    by (passed.TooManyPredicates count) ReadFault passes is = cc
    by (passed.Full rows) ReadFault passes is = cc
    by passed.NoMemory ReadFault passes is = cc
    by fault NoMemory passes is = tt
fault_stops load fault stop (inr memory) is = subst (IsStopOf load) (sym (is ∙ ap stop_of_load memory)) tt

module _ (load : Load) (first : Root) (made : IsLoaded load first) where
  -- version 1 has room for one more
  pub first_ready : IsReady first
  first_ready = let v : first.version ≡ 1 = made.stands.version in omega (arith, v)

  abbrev numbers : Numbering
  numbers = rule_exists.0

  -- the root behind the pin of stream 1, and what it was told
  module _ (after : Root × Reply)
      (is : (numbering : Numbering) → GoesByRule numbering → after ≡ next numbering first 1 Pin)
      (steps : (numbering : Numbering) → GoesByRule numbering → (l : Load) (history : List Entry) → IsLegal numbering l history
      → first ≡ root_of numbering l history → IsStep numbering l history 1 Pin after)
      (reader : Reader) (reader_is : reader ≡ plain_reader after.0 1 0)
      (stands : (numbering : Numbering) (l : Load) (seen : List Entry) → IsNumbering numbering → IsLoad l → IsLegal numbering l seen
      → after.0 ≡ root_of numbering l seen → ReaderStandsFor numbering l seen reader) where
    told : after.1 ≡ Pinned 1
    told = ap (λ a. a.1) (is numbers rule_exists.1) ∙ ap (λ root. (next numbers root 1 Pin).1) (made.is numbers rule_exists.1)

    history : longer [] 1 Pin after.1 ≡ pinned_once
    history = ap (λ reply. longer [] 1 Pin reply) told

    step_is : IsStep numbers load [] 1 Pin after
    step_is = steps numbers rule_exists.1 load [] tt (made.is numbers rule_exists.1)

    stands_for : ReaderStandsFor numbers load pinned_once reader
    stands_for =
        stands numbers load pinned_once (rule_is_numbering numbers rule_exists.1) made.is_load
        (subst (IsLegal numbers load) history step_is.legal)
        (step_is.root ∙ ap (root_of numbers load) history)

    pub reader_made : IsReaderOf load reader
    reader_made = record {
      within = made.within;
      is_load = made.is_load;
      numbering = numbers;
      numbers = rule_is_numbering numbers rule_exists.1;
      stands = stands_for;
      pin = stands_for.pin ∙ ap (λ (r : Reader). pin_of pinned_once r.stream) reader_is;
    }

-- ---- the reply

-- the reply over the reader of a store is that to what is asked
pub reader_answers : (base : NumberedBase) (asked : Query) (reader : Reader) (of : IsReaderOf (base_of shards base).load reader) (limit : ℕ) (r : Result Answer AskFault)
    → ((numbering : Numbering) (l : Load) (seen : List Entry) (v : ℕ) → IsNumbering numbering → IsLoad l → ReaderStandsFor numbering l seen reader
    → reader.pin ≡ Some v → answer.RepliesTo (axioms_at l seen v) (facts_at l seen v) base.nothing asked limit v r)
    → AnswersAsked base asked limit r
reader_answers base asked reader of limit r reply = reply of.numbering (base_of shards base).load pinned_once 1 of.numbers of.is_load of.stands of.pin

-- a load without a store isn't answered
pub store_stops : (base : KnowledgeBase) (asked : Query) (limit : ℕ) (stop : Stop) (r : Result Answers Stop) → r ≡ Err stop → IsStopOf base.load stop
    → RepliesTo base asked limit r
store_stops base asked limit stop r is stops = rw is (by stop stops)
  where
    by : (stop : Stop) → IsStopOf base.load stop → RepliesTo base asked limit (Err stop)
    by (Refused refusal) wrong = over_load wrong
    by ReadFault wrong = absurd wrong
    by NoMemory wrong = tt

-- nor is one where the answer doesn't come
pub no_answer : (base : KnowledgeBase) (asked : Query) (limit : ℕ) (stop : Stop) → IsWithinLimits base.load → IsNoAnswer base asked limit stop
    → RepliesTo base asked limit (Err stop)
no_answer base asked limit (Refused refusal) within none = subst (IsUnanswered base asked limit) (sym none.0) (over_limit within none.1)
no_answer base asked limit ReadFault within none = absurd none
no_answer base asked limit NoMemory within none = tt
