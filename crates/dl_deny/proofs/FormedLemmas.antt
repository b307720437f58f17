-- The query of a negative is well formed.
use Rattle.std.proofs.Common.{◌≡◌, refl, ℕ, ◌+◌, ◌<◌, ◌≤◌, Bool, true, false, List, [], ◌∷◌, Result, length, filter, flat_map, sym, subst, arith}
use Rattle.std.specs.List.{All, Contains, range_with_len}
use Rattle.std.specs.Result.{IfOk}
use Rattle.std.proofs.lemmas.Result.{IfOk-weaker}
use Rattle.std.proofs.lemmas.List.FromFn.{length-range_with_len}
use Rattle.std.proofs.lemmas.List.Elements.{All-nil, All-cons, All-append}
use Rattle.dl_terms.specs.Broken.{turned_atom, role_name, role_atom, basic_atom, neighbours, query_of}
use Rattle.dl_terms.specs.Queries.{atom_variables, body_variables, is_existential, IsWellFormed}
use Rattle.dl_terms.specs.declared.memory.NoMemory.{NoMemory}
use Rattle.dl_terms.specs.declared.role.Role.{Role}
use Rattle.dl_terms.specs.declared.role.Basic.{Basic}
use Rattle.dl_terms.specs.declared.role.Basic.TheVariants.{Class, SomeOf}
use Rattle.dl_terms.specs.declared.role.Negative.{Negative}
use Rattle.dl_terms.specs.declared.role.Negative.TheVariants.{Basics, Roles, NoLoop}
use Rattle.dl_terms.specs.declared.query.Term.TheVariants.{Var}
use Rattle.dl_terms.specs.declared.query.Atom.{Atom}
use Rattle.dl_terms.specs.declared.query.Query.{Query}

-- a test leaves no more items
no_more_left : {A : Type 0} (test : A → Bool) (xs : List A) → length (filter test xs) ≤ length xs
no_more_left test [] = omega arith
no_more_left {A} test (x ∷ xs) = by (test x) refl (no_more_left test xs)
  where
    by : (b : Bool) → test x ≡ b → length (filter test xs) ≤ length xs → length (filter test (x ∷ xs)) ≤ length (x ∷ xs)
    by true e few = rw e (omega (arith, few))
    by false e few = rw e (omega (arith, few))

-- the variables of an atom between two of them, and of one that says what variable 0 is
abbrev AreUnder : ℕ → Atom → Type 0
AreUnder n a = All (λ v. v < n) (atom_variables a)

turned_under : (i : Bool) (p v w n : ℕ) → v < n → w < n → AreUnder n (turned_atom i p (Var v) (Var w))
turned_under false p v w n a b = All-cons (λ x. x < n) v (w ∷ []) a (All-cons (λ x. x < n) w [] b (All-nil (λ x. x < n)))
turned_under true p v w n a b = All-cons (λ x. x < n) w (v ∷ []) b (All-cons (λ x. x < n) v [] a (All-nil (λ x. x < n)))

role_under : (r : Role) (v w n : ℕ) → v < n → w < n → AreUnder n (role_atom r (Var v) (Var w))
role_under r = turned_under r.inverse (role_name r.base)

basic_under : (b : Basic) (v n : ℕ) → 0 < n → v + neighbours b ≤ n → AreUnder n (basic_atom b v)
basic_under (Class c) v n some within = All-cons (λ x. x < n) 0 [] some (All-nil (λ x. x < n))
basic_under (SomeOf r) v n some within = role_under r 0 v n some (omega (arith, within))

-- a query without head over few atoms and few variables
formed : (atoms : List Atom) (vars : ℕ) → All (λ v. v < vars) (flat_map atom_variables atoms) → 1 ≤ length atoms → length atoms ≤ 16
    → vars ≤ 8 → IsWellFormed (record { head = []; atoms = atoms; vars = vars })
formed atoms vars under some few small =
    let q : Query = record { head = []; atoms = atoms; vars = vars } in
    record {
      variables = under;
      head_in_body = All-nil (Contains (body_variables q));
      some_atom = some;
      atoms = few;
      existential =
          omega (arith, no_more_left (is_existential q) (range_with_len 0 vars), length-range_with_len 0 vars, small);
      head = omega arith;
    }

both_under : (n : ℕ) (a b : Atom) → AreUnder n a → AreUnder n b → All (λ v. v < n) (flat_map atom_variables (a ∷ b ∷ []))
both_under n a b one two =
    All-append (λ v. v < n) (atom_variables a) (flat_map atom_variables (b ∷ [])) one
    (All-append (λ v. v < n) (atom_variables b) [] two (All-nil (λ v. v < n)))

one_neighbour : (b : Basic) → neighbours b ≤ 1
one_neighbour (Class c) = omega arith
one_neighbour (SomeOf r) = omega arith

pub query-formed : (n : Negative) → IsWellFormed (query_of n)
query-formed (Basics b c) =
    let vars = 1 + neighbours b + neighbours c in
    formed (basic_atom b 1 ∷ basic_atom c (1 + neighbours b) ∷ []) vars
    (both_under vars (basic_atom b 1) (basic_atom c (1 + neighbours b))
    (basic_under b 1 vars (omega arith) (omega arith)) (basic_under c (1 + neighbours b) vars (omega arith) (omega arith)))
    (omega arith) (omega arith) (omega (arith, one_neighbour b, one_neighbour c))
query-formed (Roles r s) =
    formed (role_atom r (Var 0) (Var 1) ∷ role_atom s (Var 0) (Var 1) ∷ []) 2
    (both_under 2 (role_atom r (Var 0) (Var 1)) (role_atom s (Var 0) (Var 1))
    (role_under r 0 1 2 (omega arith) (omega arith)) (role_under s 0 1 2 (omega arith) (omega arith)))
    (omega arith) (omega arith) (omega arith)
query-formed (NoLoop r) =
    formed (role_atom r (Var 0) (Var 0) ∷ []) 1
    (All-append (λ v. v < 1) (atom_variables (role_atom r (Var 0) (Var 0))) []
    (role_under r 0 0 1 (omega arith) (omega arith)) (All-nil (λ v. v < 1)))
    (omega arith) (omega arith) (omega arith)

-- what a function gives as the query of a negative is
pub formed-of : (r : Result Query NoMemory) (n : Negative) → IfOk r (λ q. q ≡ query_of n) → IfOk r IsWellFormed
formed-of r n h =
    IfOk-weaker r (λ q. q ≡ query_of n) IsWellFormed (λ q e. subst IsWellFormed (sym e) (query-formed n)) h
