-- The names of a term, in the order in which they are written: of predicates, of individuals, and of both parts of an
-- auxiliary role. As a set it is the signature of the term (Baader, Horrocks, Lutz, Sattler: An Introduction to
-- Description Logic, 2017), with its individuals.
use Rattle.std.specs.Prelude.{ℕ, List, [], ◌∷◌, ◌++◌}
use Rattle.std.specs.List.{flat_map}
use Rattle.dl_terms.specs.declared.role.Base.{Base}
use Rattle.dl_terms.specs.declared.role.Base.TheVariants.{Named, Auxiliary}
use Rattle.dl_terms.specs.declared.role.Role.{Role}
use Rattle.dl_terms.specs.declared.role.Basic.{Basic}
use Rattle.dl_terms.specs.declared.role.Basic.TheVariants as basic
use Rattle.dl_terms.specs.declared.axiom.Part.{Part}
use Rattle.dl_terms.specs.declared.axiom.Part.TheVariants as part
use Rattle.dl_terms.specs.declared.axiom.Axiom.{Axiom}
use Rattle.dl_terms.specs.declared.axiom.Axiom.TheVariants.{SubClass, EquivalentClasses, DisjointClasses, SubRole, EquivalentRoles, DisjointRoles, InverseRoles, Domain, Range, Symmetric, Asymmetric, Irreflexive}
use Rattle.dl_terms.specs.declared.axiom.Fact.{Fact}
use Rattle.dl_terms.specs.declared.axiom.Fact.TheVariants as fact
use Rattle.dl_terms.specs.declared.query.Term.{Term}
use Rattle.dl_terms.specs.declared.query.Term.TheVariants.{Var, Name}
use Rattle.dl_terms.specs.declared.query.Atom.{Atom}
use Rattle.dl_terms.specs.declared.query.Atom.TheVariants as atom
use Rattle.dl_terms.specs.declared.query.Query.{Query}

abbrev pub base_names : Base → List ℕ
base_names (Named p) = p ∷ []
base_names (Auxiliary p i c) = p ∷ c ∷ []

abbrev pub role_names : Role → List ℕ
role_names r = base_names r.base

abbrev pub basic_names : Basic → List ℕ
basic_names (basic.Class c) = c ∷ []
basic_names (basic.SomeOf r) = role_names r

abbrev pub part_names : Part → List ℕ
part_names part.Thing = []
part_names (part.Class c) = c ∷ []
part_names (part.Any r) = role_names r
part_names (part.Fill r c) = role_names r ++ c ∷ []
part_names (part.Not b) = basic_names b

abbrev pub axiom_names : Axiom → List ℕ
axiom_names (SubClass b ps) = basic_names b ++ flat_map part_names ps
axiom_names (EquivalentClasses bs) = flat_map basic_names bs
axiom_names (DisjointClasses bs) = flat_map basic_names bs
axiom_names (SubRole r s) = role_names r ++ role_names s
axiom_names (EquivalentRoles rs) = flat_map role_names rs
axiom_names (DisjointRoles rs) = flat_map role_names rs
axiom_names (InverseRoles r s) = role_names r ++ role_names s
axiom_names (Domain r ps) = role_names r ++ flat_map part_names ps
axiom_names (Range r ps) = role_names r ++ flat_map part_names ps
axiom_names (Symmetric r) = role_names r
axiom_names (Asymmetric r) = role_names r
axiom_names (Irreflexive r) = role_names r

abbrev pub fact_names : Fact → List ℕ
fact_names (fact.Is c a) = c ∷ a ∷ []
fact_names (fact.Link p a b) = p ∷ a ∷ b ∷ []

-- a variable is no name
abbrev pub term_names : Term → List ℕ
term_names (Var v) = []
term_names (Name a) = a ∷ []

abbrev pub atom_names : Atom → List ℕ
atom_names (atom.Is c t) = c ∷ term_names t
atom_names (atom.Link p t u) = p ∷ term_names t ++ term_names u

abbrev pub query_names : Query → List ℕ
query_names q = flat_map atom_names q.atoms
