-- The roles of a hierarchy, as far as a rewriting uses them: what the rules name is there, plain and inverse.
use Rattle.std.specs.Prelude.{ℕ, List}
use Rattle.std.specs.List.{Contains}
use Rattle.dl_terms.specs.Roles.{named, inverse_of}
use Rattle.dl_terms.specs.NormalForm.{role_inclusions, concept_inclusions}
use Rattle.dl_terms.specs.declared.role.Role.{Role}
use Rattle.dl_terms.specs.declared.role.Basic.{Basic}
use Rattle.dl_terms.specs.declared.role.Basic.TheVariants.{SomeOf}
use Rattle.dl_terms.specs.declared.axiom.Axiom.{Axiom}
use Rattle.dl_terms.specs.declared.axiom.Fact.{Fact}
use Rattle.dl_terms.specs.declared.axiom.Fact.TheVariants.{Link}

pub record HasRolesOf (axioms : List Axiom) (roles : List Role) : Type 0 where
  pub inverses : (r : Role) → Contains roles r → Contains roles (inverse_of r)
  pub of_roles : (r s : Role) → Contains (role_inclusions axioms) (r, s) → Contains roles s
  pub of_concepts : (b : Basic) (s : Role) → Contains (concept_inclusions axioms) (b, SomeOf s) → Contains roles s

-- facts over the signature
abbrev pub LinksAreKnown : List Fact → List Role → Type 0
LinksAreKnown facts roles = (p a b : ℕ) → Contains facts (Link p a b) → Contains roles (named p)
