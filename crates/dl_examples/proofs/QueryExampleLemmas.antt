-- The worked examples of queries that are well formed or not.
use Rattle.std.proofs.Common.{◌≡◌, ℕ, zero, suc, ◌<◌, ◌⊎◌, inl, inr, [], ◌∷◌, length, refl, lit<, arith}
use Rattle.std.specs.List.{All, Contains}
use Rattle.std.proofs.lemmas.List.Elements.{All-from_recursion, All-nil, All-cons, All-replicate}
use Rattle.dl_terms.specs.Queries.{body_variables, existential_variables, IsWellFormed}
use Rattle.dl_terms.proofs.MemberLemmas.{All-Contains, Contains-two}
use Rattle.dl_examples.specs.Examples.{unsafe_head, has_neighbours, some_p, with_a_p}

pub eight_existential : IsWellFormed (has_neighbours 8)
eight_existential =
    let count : length (existential_variables (has_neighbours 8)) ≡ 8 = refl in
    record {
      variables =
          All-from_recursion (λ v. v < 9) (body_variables (has_neighbours 8))
          (lit< tt, (lit< tt, (lit< tt, (lit< tt, (lit< tt, (lit< tt, (lit< tt, (lit< tt, (lit< tt, (lit< tt, (lit< tt, (lit< tt, (lit< tt, (lit< tt, (lit< tt, (lit< tt, tt))))))))))))))));
      head_in_body = All-from_recursion (Contains (body_variables (has_neighbours 8))) (0 ∷ []) ((0, lit< tt, refl), tt);
      some_atom = omega arith;
      atoms = omega arith;
      existential = omega (arith, count);
      head = omega arith;
    }

pub nine_existential : IsWellFormed (has_neighbours 9) → ⊥
nine_existential w =
    let count : length (existential_variables (has_neighbours 9)) ≡ 9 = refl in
    omega (arith, count, w.existential)

-- the head variable 1 isn't in the body
pub no_safe_head : IsWellFormed unsafe_head → ⊥
no_safe_head w = by 0 1 (Contains-two 0 0 1 (All-Contains (Contains (body_variables unsafe_head)) (0 ∷ 1 ∷ []) 1 w.head_in_body (1, lit< tt, refl))) (lit< tt)
  where
    by : (v w : ℕ) → (v ≡ w) ⊎ (v ≡ w) → v < w → ⊥
    by v w (inl e) less = omega (arith, e, less)
    by v w (inr e) less = omega (arith, e, less)

-- ---- limits

pub no_atom : IsWellFormed (some_p 0) → ⊥
no_atom w = omega (arith, w.some_atom)

variables_below : (n : ℕ) → All (λ v. v < 2) (body_variables (some_p n))
variables_below zero = All-nil (λ v. v < 2)
variables_below (suc n) =
    All-cons (λ v. v < 2) 0 (1 ∷ body_variables (some_p n)) (lit< tt) (All-cons (λ v. v < 2) 1 (body_variables (some_p n)) (lit< tt) (variables_below n))

pub sixteen_atoms : IsWellFormed (some_p 16)
sixteen_atoms =
    let count : length (existential_variables (some_p 16)) ≡ 2 = refl in
    record {
      variables = variables_below 16;
      head_in_body = All-nil (Contains (body_variables (some_p 16)));
      some_atom = omega arith;
      atoms = omega arith;
      existential = omega (arith, count);
      head = omega arith;
    }

pub seventeen_atoms : IsWellFormed (some_p 17) → ⊥
seventeen_atoms w = omega (arith, w.atoms)

pub sixteen_places : IsWellFormed (with_a_p 16)
sixteen_places =
    let count : length (existential_variables (with_a_p 16)) ≡ 1 = refl in
    record {
      variables = variables_below 1;
      head_in_body = All-replicate (Contains (0 ∷ 1 ∷ [])) 16 0 (0, lit< tt, refl);
      some_atom = omega arith;
      atoms = omega arith;
      existential = omega (arith, count);
      head = omega arith;
    }

pub seventeen_places : IsWellFormed (with_a_p 17) → ⊥
seventeen_places w = omega (arith, w.head)
