-- The first broken axiom: the negatives of the normal form as queries without head (Calvanese et al. 2007).
use Rattle.std.specs.Prelude.{◌≡◌, ℕ, ◌+◌, Bool, true, false, List, [], ◌∷◌, ◌++◌}
use Rattle.std.specs.List.{All}
use Rattle.std.specs.declared.option.Option.{Option}
use Rattle.dl_terms.specs.NormalForm.{negatives}
use Rattle.dl_terms.specs.Structure.{Element}
use Rattle.dl_terms.specs.Answers.{IsMatch}
use Rattle.dl_terms.specs.declared.role.Base.{Base}
use Rattle.dl_terms.specs.declared.role.Base.TheVariants.{Named, Auxiliary}
use Rattle.dl_terms.specs.declared.role.Role.{Role}
use Rattle.dl_terms.specs.declared.role.Basic.{Basic}
use Rattle.dl_terms.specs.declared.role.Basic.TheVariants.{Class, SomeOf}
use Rattle.dl_terms.specs.declared.role.Negative.{Negative}
use Rattle.dl_terms.specs.declared.role.Negative.TheVariants.{Basics, Roles, NoLoop}
use Rattle.dl_terms.specs.declared.axiom.Axiom.{Axiom}
use Rattle.dl_terms.specs.declared.axiom.Fact.{Fact}
use Rattle.dl_terms.specs.declared.query.Term.{Term}
use Rattle.dl_terms.specs.declared.query.Term.TheVariants.{Var}
use Rattle.dl_terms.specs.declared.query.Atom.{Atom}
use Rattle.dl_terms.specs.declared.query.Atom.TheVariants.{Is, Link}
use Rattle.dl_terms.specs.declared.query.Query.{Query}

-- r(t, u), with the terms turned for an inverse; no negative has an auxiliary role
abbrev pub turned_atom : Bool → ℕ → Term → Term → Atom
turned_atom false p t u = Link p t u
turned_atom true p t u = Link p u t

abbrev pub role_name : Base → ℕ
role_name (Named p) = p
role_name (Auxiliary p i c) = p

abbrev pub role_atom : Role → Term → Term → Atom
role_atom r t u = turned_atom r.inverse (role_name r.base) t u

-- that a basic concept holds of variable 0, with the variable v as its neighbour
abbrev pub basic_atom : Basic → ℕ → Atom
basic_atom (Class c) v = Is c (Var 0)
basic_atom (SomeOf r) v = role_atom r (Var 0) (Var v)

-- how many neighbours that asks for
abbrev pub neighbours : Basic → ℕ
neighbours (Class c) = 0
neighbours (SomeOf r) = 1

-- the query of a negative, without head: what no model has. Each "some r" has a neighbour of its own
abbrev pub query_of : Negative → Query
query_of (Basics b c) = record {
  head = [];
  atoms = basic_atom b 1 ∷ basic_atom c (1 + neighbours b) ∷ [];
  vars = 1 + neighbours b + neighbours c;
}
query_of (Roles r s) =
    record { head = []; atoms = role_atom r (Var 0) (Var 1) ∷ role_atom s (Var 0) (Var 1) ∷ []; vars = 2 }
query_of (NoLoop r) = record { head = []; atoms = role_atom r (Var 0) (Var 0) ∷ []; vars = 1 }

-- something in the canonical structure is what a negative excludes
abbrev pub IsMet : List Axiom → List Fact → Negative → Type 0
IsMet axioms facts n = (m : ℕ → Element) × IsMatch axioms facts (query_of n) m

-- nothing is broken: no negative is met
abbrev pub NothingIsBroken : List Axiom → List Fact → Option ℕ → Type 0
NothingIsBroken axioms facts nothing = All (λ n. ¬ IsMet axioms facts n.1) (negatives axioms nothing)

-- the first broken axiom, that of the first negative that is met; None stands for owl:Nothing
pub record IsFirstBroken (axioms : List Axiom) (facts : List Fact) (nothing : Option ℕ) (broken : Option Axiom)
    : Type 0 where
  pub before : List (Option Axiom × Negative)
  pub negative : Negative
  pub after : List (Option Axiom × Negative)
  pub is_there : negatives axioms nothing ≡ before ++ (broken, negative) ∷ after
  pub met : IsMet axioms facts negative
  pub first : All (λ n. ¬ IsMet axioms facts n.1) before
