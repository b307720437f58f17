-- Which predicates are below what is asked (concept below of DL-Lite_R).
use Rattle.std.specs.Prelude.{ℕ, ◌↔◌, List, Contains, Any}
use Rattle.std.specs.List.Sorted.{IsStrictlyIncreasing}
use Rattle.dl_terms.specs.Below.{ConceptBelow}
use Rattle.dl_terms.specs.declared.role.Basic.{Basic}
use Rattle.dl_terms.specs.declared.axiom.Axiom.{Axiom}

-- it is below one of the basic concepts
abbrev pub IsBelowOneOf : List Axiom → List Basic → Basic → Type 0
IsBelowOneOf axioms basics b = Any (λ c. ConceptBelow axioms b c) basics

-- ascending, exactly the names of which something holds
pub record AreThose (names : List ℕ) (IsThat : ℕ → Type 0) (found : List ℕ) : Type 0 where
  pub ascending : IsStrictlyIncreasing found
  pub exact : (n : ℕ) → Contains found n ↔ (Contains names n × IsThat n)
