-- The structures that the laws compare: a finite interpretation, and the canonical structure of axioms and facts.
use Rattle.std.specs.Prelude.{◌≡◌, ℕ, ◌<◌, List}
use Rattle.std.specs.List.{Contains}
use Rattle.dl_terms.specs.Roles.{named}
use Rattle.dl_terms.specs.Structure.{Element, individual, IsElement, HoldsAt, Joins}
use Rattle.dl_terms.specs.declared.role.Basic.TheVariants.{Class}
use Rattle.dl_terms.specs.declared.axiom.Axiom.{Axiom}
use Rattle.dl_terms.specs.declared.axiom.Fact.{Fact}
use Rattle.dl_models.specs.Meaning.{Structure}
use Rattle.dl_models.specs.declared.interp.Interp.{Interp}

-- the elements are the numbers below the size, and the lists say the rest
abbrev pub finite : Interp → Structure
finite i = record {
  Value = ℕ;
  IsElement = λ x. x < i.size;
  Denotes = λ a x. Contains i.names (a, x);
  IsIn = λ c x. Contains i.classes (c, x);
  Links = λ p x y. Contains i.links (p, x, y);
}

-- names and words of roles, with what holds at them and what joins them
abbrev pub canonical : List Axiom → List Fact → Structure
canonical axioms facts = record {
  Value = Element;
  IsElement = IsElement axioms facts;
  Denotes = λ a x. x ≡ individual a;
  IsIn = λ c x. HoldsAt axioms facts (Class c) x;
  Links = λ p x y. Joins axioms facts (named p) x y;
}
