-- The pairs of a list of facts below what is asked are a list.
use Rattle.std.proofs.Common.{◌≡◌, ℕ, ◌↔◌, inl, inr, Bool, true, false, cond, ◌==◌, List, [], ◌∷◌, ◌++◌, refl, ap, subst, ◌∙◌}
use Rattle.std.specs.List.{Contains, flat_map, list_any}
use Rattle.std.proofs.lemmas.Bool.{eq-eqb, eqb-true}
use Rattle.std.proofs.lemmas.List.Elements.{Contains-append_left, Contains-append_right, Contains-append_cases}
use Rattle.std.proofs.lemmas.List.Folds.{Any-from_list_any, list_any_at}
use Rattle.dl_terms.specs.declared.axiom.Fact.{Fact}
use Rattle.dl_terms.specs.declared.axiom.Fact.TheVariants.{Is, Link}
use Rattle.dl_terms.proofs.MemberLemmas.{Contains-nil, Contains-cons, Contains-first}
use Rattle.dl_hier.specs.declared.below.Below.{Below}
use Rattle.dl_hier.proofs.MemberLemmas.{Contains-flat_map, Contains-flat_map_of}
use Rattle.dl_scan.specs.Pairs.{IsPairBelow, member, plain, turned}

-- ---- a name among names, as a test

abbrev listed : List ℕ → ℕ → Bool
listed names n = list_any (λ m. m == n) names

listed_there : (names : List ℕ) (n : ℕ) → listed names n ≡ true → Contains names n
listed_there names n e =
    let a = Any-from_list_any (λ m. m == n) names e in
    subst (Contains names) (eqb-true a.1 n a.4) (a.0, a.2, a.3)

there_listed : (names : List ℕ) (n : ℕ) → Contains names n → listed names n ≡ true
there_listed names n c = list_any_at (λ m. m == n) names c.0 n c.1 (ap (λ m. m == n) c.2 ∙ eq-eqb n n refl)

-- ---- a pair, where a test passes

abbrev pair_where : Bool → ℕ × ℕ → List (ℕ × ℕ)
pair_where b p = cond b (p ∷ []) []

where_is : (b : Bool) (p q : ℕ × ℕ) → Contains (pair_where b p) q → (b ≡ true) × (p ≡ q)
where_is true p q c = elim (Contains-cons p q [] c) [ inl same ↦ (refl, same) | inr later ↦ absurd (Contains-nil q later) ]
where_is false p q c = absurd (Contains-nil q c)

is_where : (b : Bool) (p : ℕ × ℕ) → b ≡ true → Contains (pair_where b p) p
is_where true p e = Contains-first p []
is_where false p e = cc

-- ---- the pairs of facts

abbrev fact_pairs : Below → Fact → List (ℕ × ℕ)
fact_pairs below (Is c a) = pair_where (listed below.classes c) (a, a)
fact_pairs below (Link r a b) =
    pair_where (listed below.forward r) (a, b) ++ pair_where (listed below.backward r) (b, a)

module _ (facts : List Fact) (below : Below) where
  by_fact : (f : Fact) (p : ℕ × ℕ) → Contains facts f → Contains (fact_pairs below f) p → IsPairBelow facts below p
  by_fact (Is c a) p there h =
      let w = where_is (listed below.classes c) (a, a) p h in
      let m : IsPairBelow facts below (a, a) = member (listed_there below.classes c w.0) there refl in
      subst (IsPairBelow facts below) w.1 m
  by_fact (Link r a b) p there h =
      elim (Contains-append_cases (pair_where (listed below.forward r) (a, b))
      (pair_where (listed below.backward r) (b, a)) p h) [
        | inl one ↦
            let w = where_is (listed below.forward r) (a, b) p one in
            let m : IsPairBelow facts below (a, b) = plain (listed_there below.forward r w.0) there in
            subst (IsPairBelow facts below) w.1 m
        | inr two ↦
            let w = where_is (listed below.backward r) (b, a) p two in
            let m : IsPairBelow facts below (b, a) = turned (listed_there below.backward r w.0) there in
            subst (IsPairBelow facts below) w.1 m
      ]

  all : List (ℕ × ℕ)
  all = flat_map (fact_pairs below) facts

  in_all : (f : Fact) (p : ℕ × ℕ) → Contains facts f → Contains (fact_pairs below f) p → Contains all p
  unfolding all
  in_all f p there c = Contains-flat_map_of (fact_pairs below) facts f p there c

  by_all : (p : ℕ × ℕ) → Contains all p → IsPairBelow facts below p
  unfolding all
  by_all p c = let w = Contains-flat_map (fact_pairs below) facts p c in by_fact w.0 p w.1 w.2

  all_by : (p : ℕ × ℕ) → IsPairBelow facts below p → Contains all p
  all_by p (member {c = c} there fact same) =
      subst (Contains all) (ap (λ x. (p.0, x)) same)
      (in_all (Is c p.0) (p.0, p.0) fact
      (is_where (listed below.classes c) (p.0, p.0) (there_listed below.classes c there)))
  all_by p (plain {r = r} there fact) =
      in_all (Link r p.0 p.1) p fact
      (Contains-append_left (pair_where (listed below.forward r) p) (pair_where (listed below.backward r) (p.1, p.0)) p
      (is_where (listed below.forward r) p (there_listed below.forward r there)))
  all_by p (turned {r = r} there fact) =
      in_all (Link r p.1 p.0) p fact
      (Contains-append_right (pair_where (listed below.forward r) (p.1, p.0)) (pair_where (listed below.backward r) p) p
      (is_where (listed below.backward r) p (there_listed below.backward r there)))

  pub pairs_exist : (pairs : List (ℕ × ℕ)) × ((p : ℕ × ℕ) → Contains pairs p ↔ IsPairBelow facts below p)
  pairs_exist = (all, λ p. (by_all p, all_by p))
