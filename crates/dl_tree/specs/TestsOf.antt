-- What the tests of a role say of the atoms of a query, and what a row of a table says of sets. For private functions.
use Rattle.std.specs.Prelude.{◌≡◌, ℕ, ◌<◌, ◌↔◌, Bool, true, List, [], length, slice_index_or}
use Rattle.dl_terms.specs.Roles.{named, inverse_of}
use Rattle.dl_terms.specs.Below.{RoleBelow, ConceptBelow}
use Rattle.dl_terms.specs.declared.role.Role.{Role}
use Rattle.dl_terms.specs.declared.role.Basic.TheVariants.{Class, SomeOf}
use Rattle.dl_terms.specs.declared.axiom.Axiom.{Axiom}
use Rattle.dl_terms.specs.declared.query.Atom.{Atom}
use Rattle.dl_terms.specs.declared.query.Atom.TheVariants as atom
use Rattle.dl_terms.specs.declared.query.Query.{Query}
use Rattle.dl_terms.specs.declared.query.Term.TheVariants.{Var}
use Rattle.dl_tree.specs.Below.{FoldsBelow}
use Rattle.dl_tree.specs.Masks.{place, set_of, bit_of}
use Rattle.dl_tree.specs.Each.{IsEach}
use Rattle.dl_tree.specs.Rows.{role_at}
use Rattle.dl_tree.specs.Tests.{column, test_at, tests_at}
use Rattle.dl_tree.specs.declared.atoms.AtomTest.{AtomTest}
use Rattle.dl_tree.specs.declared.atoms.AtomTest.TheVariants as test
use Rattle.dl_tree.specs.declared.atoms.AtomRows.{AtomRows}
use Rattle.dl_tree.specs.declared.atoms.AtomRows.TheVariants as rows

abbrev pub IsTestOf : List Axiom → List ℕ → Role → Atom → AtomTest → Type 0
IsTestOf axioms ex t (atom.Is c u) (test.Is bit holds) =
    (bit ≡ bit_of ex u) × ((holds ≡ true) ↔ ConceptBelow axioms (SomeOf (inverse_of t)) (Class c))
IsTestOf axioms ex t (atom.Link p u w) (test.Link from to out into) =
    (from ≡ bit_of ex u) × (to ≡ bit_of ex w) × ((out ≡ true) ↔ RoleBelow axioms t (inverse_of (named p)))
    × ((into ≡ true) ↔ RoleBelow axioms t (named p))
IsTestOf axioms ex t (atom.Is c u) (test.Link from to out into) = ⊥
IsTestOf axioms ex t (atom.Link p u w) (test.Is bit holds) = ⊥

abbrev pub no_atom : Atom
no_atom = atom.Is 0 (Var 0)

abbrev pub no_test : AtomTest
no_test = test.Is 0 true

-- the tests of a role: one for each of the atoms, in order
abbrev pub AreTestsOf : List Axiom → List Atom → List ℕ → Role → List AtomTest → Type 0
AreTestsOf axioms atoms ex t tests =
    IsEach no_test (length atoms) (λ k x. IsTestOf axioms ex t (slice_index_or atoms k no_atom) x) tests

-- which sets of lesser number fold below the role
abbrev pub TellsBelow : List Axiom → Query → List ℕ → Role → (ℕ → Bool) → ℕ → Type 0
TellsBelow axioms q ex t below s = (m : ℕ) → m < s → (below m ≡ true) ↔ FoldsBelow axioms q (set_of ex m) t

-- each variable stands once in the list
abbrev pub IsNumbering : List ℕ → Type 0
IsNumbering ex = (i : ℕ) → i < length ex → place ex (slice_index_or ex i 0) ≡ i

-- what an atom asks of each of the roles
abbrev pub IsRowsOf : List Axiom → List ℕ → List Role → Atom → AtomRows → Type 0
IsRowsOf axioms ex roles a rows =
    (i : ℕ) → i < length roles → IsTestOf axioms ex (role_at roles i) a (test_at i rows)

abbrev pub no_rows : AtomRows
no_rows = rows.Is 0 []

-- what each of the atoms asks, in order
abbrev pub AreRowsOf : List Axiom → List Atom → List ℕ → List Role → List AtomRows → Type 0
AreRowsOf axioms atoms ex roles found =
    IsEach no_rows (length atoms) (λ k x. IsRowsOf axioms ex roles (slice_index_or atoms k no_atom) x) found

-- the tests of each of the roles
abbrev pub AreTestsOfEach : List Axiom → List Atom → List ℕ → List Role → List AtomRows → Type 0
AreTestsOfEach axioms atoms ex roles found =
    (i : ℕ) → i < length roles → AreTestsOf axioms atoms ex (role_at roles i) (tests_at found i)

-- for each of the roles, which sets of lesser number fold below it
abbrev pub TellsBelowEach : List Axiom → Query → List ℕ → List Role → List (List ℕ) → ℕ → Type 0
TellsBelowEach axioms q ex roles below s =
    (i : ℕ) → i < length roles → TellsBelow axioms q ex (role_at roles i) (column below i) s
