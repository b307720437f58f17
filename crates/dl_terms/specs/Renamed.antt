-- Terms whose names are given other numbers, as places in a list of names are given ranks: a renaming, which keeps the
-- form of the term. That names are numbers is this project's own.
use Rattle.std.specs.Prelude.{ℕ, map}
use Rattle.dl_terms.specs.declared.role.Base.{Base}
use Rattle.dl_terms.specs.declared.role.Base.TheVariants.{Named, Auxiliary}
use Rattle.dl_terms.specs.declared.role.Role.{Role}
use Rattle.dl_terms.specs.declared.role.Basic.{Basic}
use Rattle.dl_terms.specs.declared.role.Basic.TheVariants as basic
use Rattle.dl_terms.specs.declared.axiom.Part.{Part}
use Rattle.dl_terms.specs.declared.axiom.Part.TheVariants as part
use Rattle.dl_terms.specs.declared.axiom.Axiom.{Axiom}
use Rattle.dl_terms.specs.declared.axiom.Axiom.TheVariants.{SubClass, EquivalentClasses, DisjointClasses, SubRole, EquivalentRoles, DisjointRoles, InverseRoles, Domain, Range, Symmetric, Asymmetric, Irreflexive}
use Rattle.dl_terms.specs.declared.axiom.Fact.{Fact}
use Rattle.dl_terms.specs.declared.axiom.Fact.TheVariants as fact
use Rattle.dl_terms.specs.declared.query.Term.{Term}
use Rattle.dl_terms.specs.declared.query.Term.TheVariants.{Var, Name}
use Rattle.dl_terms.specs.declared.query.Atom.{Atom}
use Rattle.dl_terms.specs.declared.query.Atom.TheVariants as atom
use Rattle.dl_terms.specs.declared.query.Query.{Query}

module _ (to : ℕ → ℕ) where
  abbrev pub renamed_base : Base → Base
  renamed_base (Named p) = Named (to p)
  renamed_base (Auxiliary p i c) = Auxiliary (to p) i (to c)

  abbrev pub renamed_role : Role → Role
  renamed_role r = record { base = renamed_base r.base; inverse = r.inverse }

  abbrev pub renamed_basic : Basic → Basic
  renamed_basic (basic.Class c) = basic.Class (to c)
  renamed_basic (basic.SomeOf r) = basic.SomeOf (renamed_role r)

  abbrev pub renamed_part : Part → Part
  renamed_part part.Thing = part.Thing
  renamed_part (part.Class c) = part.Class (to c)
  renamed_part (part.Any r) = part.Any (renamed_role r)
  renamed_part (part.Fill r c) = part.Fill (renamed_role r) (to c)
  renamed_part (part.Not b) = part.Not (renamed_basic b)

  abbrev pub renamed_axiom : Axiom → Axiom
  renamed_axiom (SubClass b ps) = SubClass (renamed_basic b) (map renamed_part ps)
  renamed_axiom (EquivalentClasses bs) = EquivalentClasses (map renamed_basic bs)
  renamed_axiom (DisjointClasses bs) = DisjointClasses (map renamed_basic bs)
  renamed_axiom (SubRole r s) = SubRole (renamed_role r) (renamed_role s)
  renamed_axiom (EquivalentRoles rs) = EquivalentRoles (map renamed_role rs)
  renamed_axiom (DisjointRoles rs) = DisjointRoles (map renamed_role rs)
  renamed_axiom (InverseRoles r s) = InverseRoles (renamed_role r) (renamed_role s)
  renamed_axiom (Domain r ps) = Domain (renamed_role r) (map renamed_part ps)
  renamed_axiom (Range r ps) = Range (renamed_role r) (map renamed_part ps)
  renamed_axiom (Symmetric r) = Symmetric (renamed_role r)
  renamed_axiom (Asymmetric r) = Asymmetric (renamed_role r)
  renamed_axiom (Irreflexive r) = Irreflexive (renamed_role r)

  abbrev pub renamed_fact : Fact → Fact
  renamed_fact (fact.Is c a) = fact.Is (to c) (to a)
  renamed_fact (fact.Link p a b) = fact.Link (to p) (to a) (to b)

  abbrev pub renamed_term : Term → Term
  renamed_term (Var v) = Var v
  renamed_term (Name a) = Name (to a)

  abbrev pub renamed_atom : Atom → Atom
  renamed_atom (atom.Is c t) = atom.Is (to c) (renamed_term t)
  renamed_atom (atom.Link p t u) = atom.Link (to p) (renamed_term t) (renamed_term u)

  abbrev pub renamed_query : Query → Query
  renamed_query q = record { head = q.head; atoms = map renamed_atom q.atoms; vars = q.vars }
