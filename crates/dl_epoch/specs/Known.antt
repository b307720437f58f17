-- Axioms and facts whose names are in a signature, and axioms that are few. The limits are this project's own.
use Rattle.std.specs.Prelude.{ℕ, ◌+◌, ◌≤◌, List, length}
use Rattle.std.specs.List.{All, Contains}
use Rattle.std.specs.List.Sorted.{IsStrictlyIncreasing}
use Rattle.dl_terms.specs.declared.role.Role.{Role}
use Rattle.dl_terms.specs.declared.role.Basic.{Basic}
use Rattle.dl_terms.specs.declared.axiom.Part.{Part}
use Rattle.dl_terms.specs.declared.axiom.Part.TheVariants as part
use Rattle.dl_terms.specs.declared.axiom.Axiom.{Axiom}
use Rattle.dl_terms.specs.declared.axiom.Axiom.TheVariants.{SubClass, EquivalentClasses, DisjointClasses, SubRole, EquivalentRoles, DisjointRoles, InverseRoles, Domain, Range, Symmetric, Asymmetric, Irreflexive}
use Rattle.dl_terms.specs.declared.axiom.Fact.{Fact}
use Rattle.dl_terms.specs.declared.axiom.Fact.TheVariants.{Is, Link}
use Rattle.dl_terms.specs.declared.axiom.Signature.{Signature}
use Rattle.dl_normal.specs.Filled.{filled_pairs, HasDistinct}
use Rattle.dl_hier.specs.Predicates.{max_predicates}
use Rattle.dl_hier.specs.Rows.{IsNamedIn, IsBasicIn}

-- the most that axioms may weigh
abbrev pub max_weight : ℕ
max_weight = 65536

-- each list of names ascends, each once
pub record IsSignature (s : Signature) : Type 0 where
  pub classes : IsStrictlyIncreasing s.classes
  pub roles : IsStrictlyIncreasing s.roles

abbrev pub IsRoleIn : Signature → Role → Type 0
IsRoleIn s r = IsNamedIn s.roles r.base

abbrev pub IsConceptIn : Signature → Basic → Type 0
IsConceptIn s b = IsBasicIn s.classes s.roles b

abbrev pub IsPartIn : Signature → Part → Type 0
IsPartIn s part.Thing = Unit {0}
IsPartIn s (part.Class c) = Contains s.classes c
IsPartIn s (part.Any r) = IsRoleIn s r
IsPartIn s (part.Fill r c) = IsRoleIn s r × Contains s.classes c
IsPartIn s (part.Not b) = IsConceptIn s b

-- the signature has all names of an axiom
abbrev pub IsAxiomIn : Signature → Axiom → Type 0
IsAxiomIn s (SubClass b ps) = IsConceptIn s b × All (IsPartIn s) ps
IsAxiomIn s (EquivalentClasses bs) = All (IsConceptIn s) bs
IsAxiomIn s (DisjointClasses bs) = All (IsConceptIn s) bs
IsAxiomIn s (SubRole r q) = IsRoleIn s r × IsRoleIn s q
IsAxiomIn s (EquivalentRoles rs) = All (IsRoleIn s) rs
IsAxiomIn s (DisjointRoles rs) = All (IsRoleIn s) rs
IsAxiomIn s (InverseRoles r q) = IsRoleIn s r × IsRoleIn s q
IsAxiomIn s (Domain r ps) = IsRoleIn s r × All (IsPartIn s) ps
IsAxiomIn s (Range r ps) = IsRoleIn s r × All (IsPartIn s) ps
IsAxiomIn s (Symmetric r) = IsRoleIn s r
IsAxiomIn s (Asymmetric r) = IsRoleIn s r
IsAxiomIn s (Irreflexive r) = IsRoleIn s r

-- the signature has the predicate of a fact
abbrev pub IsFactIn : Signature → Fact → Type 0
IsFactIn s (Is c x) = Contains s.classes c
IsFactIn s (Link p x y) = Contains s.roles p

-- the names of a signature and the auxiliary roles of axioms together are few
pub record ArePredicatesFew (s : Signature) (axioms : List Axiom) : Type 0 where
  pub auxiliaries : ℕ
  pub distinct : HasDistinct (filled_pairs axioms) auxiliaries
  pub few : length s.classes + length s.roles + auxiliaries ≤ max_predicates
