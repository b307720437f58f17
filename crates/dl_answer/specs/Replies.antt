-- What a query is answered: the defined reply, or want of memory.
use Rattle.std.specs.Prelude.{◌≡◌, ℕ, ◌<◌, ◌≤◌, List, length, Result, Ok, Err}
use Rattle.std.specs.declared.option.Option.{Option}
use Rattle.dl_terms.specs.NormalForm.{role_inclusions, concept_inclusions}
use Rattle.dl_terms.specs.Reply.{IsReply, too_many}
use Rattle.dl_terms.specs.declared.role.Normal.{Normal}
use Rattle.dl_terms.specs.declared.axiom.Axiom.{Axiom}
use Rattle.dl_terms.specs.declared.axiom.Fact.{Fact}
use Rattle.dl_terms.specs.declared.query.Query.{Query}
use Rattle.dl_normal.specs.Indexed.{negatives_by_index}
use Rattle.dl_terms.specs.Table.{Table}
use Rattle.dl_join.specs.Tuples.{AreExactly}
use Rattle.dl_join.specs.declared.fault.JoinFault.{JoinFault}
use Rattle.dl_join.specs.declared.fault.JoinFault.TheVariants as join
use Rattle.dl_event.specs.declared.answer.Answer.{Answer}
use Rattle.dl_event.specs.Answers.{reply_of, answer_version}
use Rattle.dl_event.specs.declared.answer.AskFault.{AskFault}
use Rattle.dl_event.specs.declared.answer.AskFault.TheVariants.{NoPin, TooMany, NoMemory}

-- the normal form of axioms, as a value
abbrev pub normal_form : List Axiom → Normal
normal_form axioms = record {
  roles = role_inclusions axioms;
  concepts = concept_inclusions axioms;
  negatives = negatives_by_index axioms;
}

-- an answer is the defined reply at a version, `TooMany` comes where that is that there are too many, and `NoPin`
-- doesn't come
abbrev pub RepliesTo : List Axiom → List Fact → Option ℕ → Query → (limit version : ℕ)
    → Result Answer AskFault → Type 0
RepliesTo axioms facts nothing q limit version (Ok answer) =
    IsReply axioms facts nothing q limit (reply_of answer) × (answer_version answer ≡ version)
RepliesTo axioms facts nothing q limit version (Err NoPin) = ⊥
RepliesTo axioms facts nothing q limit version (Err (TooMany v)) =
    IsReply axioms facts nothing q limit too_many × (v ≡ version)
RepliesTo axioms facts nothing q limit version (Err NoMemory) = Unit {0}

-- exactly the tuples of which P holds are a list that is longer than a limit
pub record AreOver (limit : ℕ) (P : List ℕ → Type 0) : Type 0 where
  pub tuples : List (List ℕ)
  pub exact : AreExactly P tuples
  pub longer : limit < length tuples

-- exactly the tuples of which P holds, or that they are over a limit
abbrev pub GivesTuples : (List ℕ → Type 0) → ℕ → Result Table JoinFault → Type 0
GivesTuples P limit (Ok table) = AreExactly P table.tuples × (length table.tuples ≤ limit)
GivesTuples P limit (Err join.TooMany) = AreOver limit P
GivesTuples P limit (Err join.NoMemory) = Unit {0}
