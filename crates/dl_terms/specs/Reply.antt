-- The defined reply to a query: inconsistent, too many, or found. That a broken axiom is named, and answers are counted
-- against a limit, is this project's own: by the textbook every tuple is an answer where something is broken
-- (Calvanese et al. 2007).
use Rattle.std.specs.Prelude.{ℕ, ◌<◌, ◌≤◌, List, length}
use Rattle.std.specs.declared.option.Option.{Option}
use Rattle.dl_terms.specs.Answers.{AreCertain}
use Rattle.dl_terms.specs.Broken.{IsFirstBroken, NothingIsBroken}
use Rattle.dl_terms.specs.declared.axiom.Axiom.{Axiom}
use Rattle.dl_terms.specs.declared.axiom.Fact.{Fact}
use Rattle.dl_terms.specs.declared.query.Query.{Query}

-- a reply; None stands for owl:Nothing
pub data Reply : Type 0 where
  inconsistent : Option Axiom → Reply
  too_many : Reply
  found : List (List ℕ) → Reply

-- the defined reply: the first broken axiom, or that there are over `limit` certain answers, or these
pub data IsReply (axioms : List Axiom) (facts : List Fact) (nothing : Option ℕ) (q : Query) (limit : ℕ)
    : Reply → Type 0 where
  is_inconsistent : {broken : Option Axiom} → IsFirstBroken axioms facts nothing broken
      → IsReply axioms facts nothing q limit (inconsistent broken)
  is_too_many : {tuples : List (List ℕ)} → NothingIsBroken axioms facts nothing → AreCertain axioms facts q tuples
      → limit < length tuples → IsReply axioms facts nothing q limit too_many
  is_found : {tuples : List (List ℕ)} → NothingIsBroken axioms facts nothing → AreCertain axioms facts q tuples
      → length tuples ≤ limit → IsReply axioms facts nothing q limit (found tuples)
