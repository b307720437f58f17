-- The predicates of facts.
use Rattle.std.specs.Prelude.{ℕ, List}
use Rattle.std.specs.List.{Contains}
use Rattle.dl_terms.specs.declared.axiom.Fact.{Fact}
use Rattle.dl_terms.specs.declared.axiom.Fact.TheVariants.{Is, Link}

-- the predicate of a fact is among these classes and roles
abbrev pub HasPredicate : List ℕ → List ℕ → Fact → Type 0
HasPredicate classes roles (Is c a) = Contains classes c
HasPredicate classes roles (Link p a b) = Contains roles p
