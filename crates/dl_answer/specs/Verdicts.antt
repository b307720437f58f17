-- The first of some negatives that is met, and what is broken first.
use Rattle.std.specs.Prelude.{◌≡◌, ℕ, List, ◌∷◌, ◌++◌}
use Rattle.std.specs.List.{All}
use Rattle.std.specs.declared.option.Option.{Option}
use Rattle.std.specs.declared.option.Option.TheVariants.{Some, None}
use Rattle.dl_terms.specs.Broken.{IsMet, IsFirstBroken, NothingIsBroken}
use Rattle.dl_terms.specs.declared.role.Basic.TheVariants.{Class}
use Rattle.dl_terms.specs.declared.role.Negative.{Negative}
use Rattle.dl_terms.specs.declared.role.Negative.TheVariants.{Basics}
use Rattle.dl_terms.specs.declared.axiom.Axiom.{Axiom}
use Rattle.dl_terms.specs.declared.axiom.Fact.{Fact}
use Rattle.dl_join.specs.declared.fault.JoinFault.{JoinFault}
use Rattle.dl_join.specs.declared.fault.JoinFault.TheVariants as join
use Rattle.dl_event.specs.declared.answer.AskFault.{AskFault}
use Rattle.dl_event.specs.declared.answer.AskFault.TheVariants.{TooMany, NoMemory}
use Rattle.dl_answer.specs.declared.broken.Verdict.{Verdict}
use Rattle.dl_answer.specs.declared.broken.Verdict.TheVariants.{Broken, Sound}

-- negatives, each beside the index of its axiom: the first that is met stands beside this one
pub record IsFirstMet (Met : Negative → Type 0) (ns : List (ℕ × Negative)) (index : ℕ) : Type 0 where
  pub before : List (ℕ × Negative)
  pub negative : Negative
  pub after : List (ℕ × Negative)
  pub is_there : ns ≡ before ++ (index, negative) ∷ after
  pub met : Met negative
  pub first : All (λ n. ¬ Met n.1) before

-- the index beside the first that is met, or that none is
abbrev pub FindsMet : (Negative → Type 0) → List (ℕ × Negative) → Option ℕ → Type 0
FindsMet Met ns (Some index) = IsFirstMet Met ns index
FindsMet Met ns None = All (λ n. ¬ Met n.1) ns

-- owl:Nothing is a name, and something is in it
abbrev pub HasMember : List Axiom → List Fact → Option ℕ → Type 0
HasMember axioms facts (Some n) = IsMet axioms facts (Basics (Class n) (Class n))
HasMember axioms facts None = ⊥

-- the first broken axiom, or that nothing is broken
abbrev pub Finds : List Axiom → List Fact → Option ℕ → Verdict → Type 0
Finds axioms facts nothing (Broken broken) = IsFirstBroken axioms facts nothing broken
Finds axioms facts nothing Sound = NothingIsBroken axioms facts nothing

-- what a fault of the search for tuples means, at a version
abbrev pub fault_of : ℕ → JoinFault → AskFault
fault_of version join.TooMany = TooMany version
fault_of version join.NoMemory = NoMemory
