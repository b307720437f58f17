-- The ontologies and queries of the worked examples, in functional syntax and as lists. Numbers stand for names.
use Rattle.std.specs.Prelude.{ℕ, suc, List, [], ◌∷◌, map, replicate}
use Rattle.std.specs.List.{range_with_len}
use Rattle.dl_terms.specs.Roles.{named, inverse_of, auxiliary_of}
use Rattle.dl_terms.specs.declared.role.Role.{Role}
use Rattle.dl_terms.specs.declared.role.Basic.TheVariants as basic
use Rattle.dl_terms.specs.declared.axiom.Part.TheVariants as part
use Rattle.dl_terms.specs.declared.axiom.Axiom.{Axiom}
use Rattle.dl_terms.specs.declared.axiom.Axiom.TheVariants.{SubClass, DisjointClasses, SubRole, DisjointRoles, Asymmetric, Irreflexive}
use Rattle.dl_terms.specs.declared.axiom.Fact.{Fact}
use Rattle.dl_terms.specs.declared.axiom.Fact.TheVariants as fact
use Rattle.dl_terms.specs.declared.query.Term.TheVariants.{Var}
use Rattle.dl_terms.specs.declared.query.Atom.{Atom}
use Rattle.dl_terms.specs.declared.query.Atom.TheVariants as atom
use Rattle.dl_terms.specs.declared.query.Query.{Query}

-- the classes A, C and D, the object properties P and S, and the individuals a, b and c
abbrev pub class_a : ℕ
class_a = 0

abbrev pub class_c : ℕ
class_c = 1

abbrev pub class_d : ℕ
class_d = 2

abbrev pub property_p : ℕ
property_p = 3

abbrev pub property_s : ℕ
property_s = 4

abbrev pub name_a : ℕ
name_a = 5

abbrev pub name_b : ℕ
name_b = 6

abbrev pub name_c : ℕ
name_c = 7

abbrev pub role_p : Role
role_p = named property_p

abbrev pub role_s : Role
role_s = named property_s

-- the auxiliary role of P and C
abbrev pub p_in_c : Role
p_in_c = auxiliary_of role_p class_c

-- a role atom between two variables
abbrev pub link : ℕ → ℕ → ℕ → Atom
link p v w = atom.Link p (Var v) (Var w)

-- ClassAssertion(A a)
abbrev pub a_is_an_a : Fact
a_is_an_a = fact.Is class_a name_a

-- ClassAssertion(A a), ClassAssertion(A c)
abbrev pub a_and_c_are_as : List Fact
a_and_c_are_as = fact.Is class_a name_a ∷ fact.Is class_a name_c ∷ []

-- ClassAssertion(A b)
abbrev pub b_is_an_a : Fact
b_is_an_a = fact.Is class_a name_b

-- ObjectPropertyAssertion(P a b)
abbrev pub p_from_a_to_b : Fact
p_from_a_to_b = fact.Link property_p name_a name_b

-- ObjectPropertyAssertion(P a a)
abbrev pub p_from_a_to_a : Fact
p_from_a_to_a = fact.Link property_p name_a name_a

-- ObjectPropertyAssertion(S a b)
abbrev pub s_from_a_to_b : Fact
s_from_a_to_b = fact.Link property_s name_a name_b

-- ObjectPropertyAssertion(S a c)
abbrev pub s_from_a_to_c : Fact
s_from_a_to_c = fact.Link property_s name_a name_c

-- ObjectPropertyAssertion(S b a)
abbrev pub s_from_b_to_a : Fact
s_from_b_to_a = fact.Link property_s name_b name_a

-- SubClassOf(A ObjectSomeValuesFrom(P owl:Thing))
abbrev pub a_has_a_p : Axiom
a_has_a_p = SubClass (basic.Class class_a) (part.Any role_p ∷ [])

-- SubClassOf(ObjectSomeValuesFrom(ObjectInverseOf(P) owl:Thing) ObjectSomeValuesFrom(S owl:Thing))
abbrev pub a_p_has_an_s : Axiom
a_p_has_an_s = SubClass (basic.SomeOf (inverse_of role_p)) (part.Any role_s ∷ [])

-- SubClassOf(ObjectSomeValuesFrom(ObjectInverseOf(P) owl:Thing) ObjectSomeValuesFrom(P owl:Thing))
abbrev pub a_p_has_a_p : Axiom
a_p_has_a_p = SubClass (basic.SomeOf (inverse_of role_p)) (part.Any role_p ∷ [])

-- SubClassOf(A ObjectSomeValuesFrom(P C))
abbrev pub a_has_a_p_in_c : Axiom
a_has_a_p_in_c = SubClass (basic.Class class_a) (part.Fill role_p class_c ∷ [])

-- SubClassOf(ObjectSomeValuesFrom(ObjectInverseOf(P) owl:Thing) D)
abbrev pub a_p_is_a_d : Axiom
a_p_is_a_d = SubClass (basic.SomeOf (inverse_of role_p)) (part.Class class_d ∷ [])

-- DisjointClasses(C D)
abbrev pub c_and_d_are_disjoint : Axiom
c_and_d_are_disjoint = DisjointClasses (basic.Class class_c ∷ basic.Class class_d ∷ [])

-- DisjointClasses(ObjectSomeValuesFrom(P owl:Thing) ObjectSomeValuesFrom(S owl:Thing))
abbrev pub no_p_beside_an_s : Axiom
no_p_beside_an_s = DisjointClasses (basic.SomeOf role_p ∷ basic.SomeOf role_s ∷ [])

-- DisjointClasses(ObjectSomeValuesFrom(ObjectInverseOf(P) owl:Thing) A)
abbrev pub a_p_is_no_a : Axiom
a_p_is_no_a = DisjointClasses (basic.SomeOf (inverse_of role_p) ∷ basic.Class class_a ∷ [])

-- DisjointClasses(A ObjectSomeValuesFrom(ObjectInverseOf(P) owl:Thing))
abbrev pub an_a_is_no_p : Axiom
an_a_is_no_p = DisjointClasses (basic.Class class_a ∷ basic.SomeOf (inverse_of role_p) ∷ [])

-- DisjointObjectProperties(P ObjectInverseOf(S))
abbrev pub p_is_no_turned_s : Axiom
p_is_no_turned_s = DisjointRoles (role_p ∷ inverse_of role_s ∷ [])

-- SubObjectPropertyOf(P ObjectInverseOf(S))
abbrev pub p_is_a_turned_s : Axiom
p_is_a_turned_s = SubRole role_p (inverse_of role_s)

-- AsymmetricObjectProperty(P)
abbrev pub p_is_asymmetric : Axiom
p_is_asymmetric = Asymmetric role_p

-- IrreflexiveObjectProperty(P)
abbrev pub p_is_irreflexive : Axiom
p_is_irreflexive = Irreflexive role_p

-- SubClassOf(A D), where D stands for owl:Nothing
abbrev pub an_a_is_a_d : Axiom
an_a_is_a_d = SubClass (basic.Class class_a) (part.Class class_d ∷ [])

-- DisjointClasses(A A)
abbrev pub a_is_disjoint_from_itself : Axiom
a_is_disjoint_from_itself = DisjointClasses (basic.Class class_a ∷ basic.Class class_a ∷ [])

-- A below some P in C, what has an incoming P is a D, C and D are disjoint
abbrev pub a_auxiliary_in_c_and_d : List Axiom
a_auxiliary_in_c_and_d = a_has_a_p_in_c ∷ a_p_is_a_d ∷ c_and_d_are_disjoint ∷ []

-- q(x) :- P(x, y)
abbrev pub has_a_p : Query
has_a_p = record { head = 0 ∷ []; atoms = link property_p 0 1 ∷ []; vars = 2 }

-- q(x, y) :- P(x, y)
abbrev pub is_p : Query
is_p = record { head = 0 ∷ 1 ∷ []; atoms = link property_p 0 1 ∷ []; vars = 2 }

-- q(x, z) :- P(x, y), P(z, y)
abbrev pub share_a_p : Query
share_a_p = record { head = 0 ∷ 1 ∷ []; atoms = link property_p 0 2 ∷ link property_p 1 2 ∷ []; vars = 3 }

-- q(x) :- P(x, y), S(y, z)
abbrev pub has_a_p_with_an_s : Query
has_a_p_with_an_s = record { head = 0 ∷ []; atoms = link property_p 0 1 ∷ link property_s 1 2 ∷ []; vars = 3 }

-- q() :- P(y, y)
abbrev pub some_loop : Query
some_loop = record { head = []; atoms = link property_p 0 0 ∷ []; vars = 1 }

-- q() :- P(v0, v1), P(v1, v2), P(v2, v3), P(v3, v4), P(v4, v5), P(v5, v6), P(v6, v7)
abbrev pub seven_in_a_row : Query
seven_in_a_row = record {
  head = [];
  atoms = link property_p 0 1 ∷ link property_p 1 2 ∷ link property_p 2 3 ∷ link property_p 3 4 ∷ link property_p 4 5
      ∷ link property_p 5 6 ∷ link property_p 6 7 ∷ [];
  vars = 8;
}

-- q(x, y) :- S(x, y)
abbrev pub is_s : Query
is_s = record { head = 0 ∷ 1 ∷ []; atoms = link property_s 0 1 ∷ []; vars = 2 }

-- q(x, y) :- P(x, x)
abbrev pub unsafe_head : Query
unsafe_head = record { head = 0 ∷ 1 ∷ []; atoms = link property_p 0 0 ∷ []; vars = 2 }

-- q(x) :- P(x, v1), .., P(x, vn)
abbrev pub has_neighbours : ℕ → Query
has_neighbours n = record { head = 0 ∷ []; atoms = map (link property_p 0) (range_with_len 1 n); vars = suc n }

-- q() :- P(x, y), .., P(x, y), with so many atoms
abbrev pub some_p : ℕ → Query
some_p n = record { head = []; atoms = replicate n (link property_p 0 1); vars = 2 }

-- q(x, .., x) :- P(x, y), with so many places in the head
abbrev pub with_a_p : ℕ → Query
with_a_p n = record { head = replicate n 0; atoms = link property_p 0 1 ∷ []; vars = 2 }
