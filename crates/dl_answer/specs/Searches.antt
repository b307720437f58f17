-- What is behind a search for tuples, and what it gives, for private functions.
use Rattle.std.specs.Prelude.{◌≡◌, ℕ, ◌≤◌, List, length, Result, IfOk}
use Rattle.dl_terms.specs.Answers.{AscendStrictly}
use Rattle.dl_terms.specs.Table.{Table}
use Rattle.dl_terms.specs.declared.axiom.Axiom.{Axiom}
use Rattle.dl_terms.specs.declared.axiom.Fact.{Fact}
use Rattle.dl_terms.specs.declared.query.Probe.{Probe}
use Rattle.dl_hier.specs.Hierarchy.{Hierarchy}
use Rattle.dl_join.specs.Disjuncts.{AreSorted}
use Rattle.dl_join.specs.declared.fault.JoinFault.{JoinFault}
use Rattle.dl_core.specs.History.{Load, Entry}
use Rattle.dl_core.specs.Next.{Numbering}
use Rattle.dl_core.specs.Legal.{Reader}
use Rattle.dl_answer.specs.Probes.{AreBehind}
use Rattle.dl_answer.specs.Kept.{AreKept, AreFirst}
use Rattle.dl_answer.specs.Readers.{HasFacts, HasFetched}
use Rattle.dl_answer.specs.Replies.{GivesTuples}
use Rattle.dl_answer.specs.declared.slots.KeptLists.{KeptLists}

-- a reader says at a version that these are the facts, a hierarchy is that of the axioms, and the kept lists are theirs
pub record AreRead (Stands : Numbering → Load → List Entry → Type 0) (version : ℕ) (h : Hierarchy)
    (lists : KeptLists) (axioms : List Axiom) (facts : List Fact) : Type 0 where
  pub has : HasFacts Stands version facts
  pub behind : AreBehind h axioms facts
  pub kept : AreKept axioms facts lists

-- a reader has fetched, and what it read with the kept lists before it reads with those after
pub record GoesOn (version : ℕ) (h : Hierarchy) (Before : Numbering → Load → List Entry → Type 0)
    (before : Reader) (old : KeptLists) (After : Numbering → Load → List Entry → Type 0) (after : Reader)
    (new : KeptLists) : Type 0 where
  pub fetched : HasFetched Before before After after
  pub stays : (axioms : List Axiom) (facts : List Fact) → AreRead Before version h old axioms facts
      → AreRead After version h new axioms facts

-- each of some lists is that of the probe at its place, by whatever axioms and facts are behind them
pub record AreFirstLists (Behind : List Axiom → List Fact → Type 0) (probes : List Probe)
    (lists : List (List (ℕ × ℕ))) : Type 0 where
  pub sorted : AreSorted lists
  pub first : (axioms : List Axiom) (facts : List Fact) → Behind axioms facts → AreFirst axioms facts probes lists

-- a search gives tuples of one width, each once, ascending, and no more than a limit: exactly those that have a
-- property by the axioms and facts behind it, or that these are over the limit
pub record FindsTuples (Behind : List Axiom → List Fact → Type 0)
    (P : List Axiom → List Fact → List ℕ → Type 0) (columns limit : ℕ) (result : Result Table JoinFault)
    : Type 0 where
  pub ascending : IfOk result (λ table. AscendStrictly table.tuples)
  pub width : IfOk result (λ table. table.width ≡ columns)
  pub within : IfOk result (λ table. length table.tuples ≤ limit)
  pub tuples : (axioms : List Axiom) (facts : List Fact) → Behind axioms facts
      → GivesTuples (P axioms facts) limit result
