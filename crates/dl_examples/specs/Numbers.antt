-- Two small ontologies whose classes are numbered, in functional syntax and as lists. Numbers stand for names.
use Rattle.std.specs.Prelude.{ℕ, List, [], ◌∷◌}
use Rattle.dl_terms.specs.Below.{ConceptBelow}
use Rattle.dl_terms.specs.declared.role.Basic.TheVariants as basic
use Rattle.dl_terms.specs.declared.axiom.Part.TheVariants as part
use Rattle.dl_terms.specs.declared.axiom.Axiom.{Axiom}
use Rattle.dl_terms.specs.declared.axiom.Axiom.TheVariants.{SubClass, EquivalentClasses}

-- the classes A, B, C and D
abbrev pub a : ℕ
a = 0

abbrev pub b : ℕ
b = 1

abbrev pub c : ℕ
c = 2

abbrev pub d : ℕ
d = 3

-- SubClassOf(x y)
abbrev pub is_in : ℕ → ℕ → Axiom
is_in x y = SubClass (basic.Class x) (part.Class y ∷ [])

-- SubClassOf(A B), SubClassOf(A C), SubClassOf(D B)
abbrev pub with_two_parents : List Axiom
with_two_parents = is_in a b ∷ is_in a c ∷ is_in d b ∷ []

-- SubClassOf(B A), EquivalentClasses(A C)
abbrev pub with_a_cycle : List Axiom
with_a_cycle = is_in b a ∷ EquivalentClasses (basic.Class a ∷ basic.Class c ∷ []) ∷ []

-- the one class is below the other
abbrev pub ClassBelow : List Axiom → ℕ → ℕ → Type 0
ClassBelow axioms x y = ConceptBelow axioms (basic.Class x) (basic.Class y)
