-- Chains over a list of edges are decided, and so is which name is below which; and that is an order of the names.
use Rattle.std.proofs.Common.{◌≡◌, ℕ, zero, suc, ◌⊎◌, inl, inr, List, [], ◌∷◌, slice_get, Some, refl, sym, ap, subst, ◌∙◌}
use Rattle.std.specs.List.{Contains}
use Rattle.std.specs.List.Sorted.{IsStrictlyIncreasing}
use Rattle.std.proofs.lemmas.Bool.{cases_eq}
use Rattle.std.proofs.lemmas.Option.{slice_get-get_or, slice_get_within, get_or_from_slice_get}
use Rattle.dl_terms.proofs.MemberLemmas.{Contains-nil, Contains-cons, Contains-first, Contains-later}
use Rattle.dl_reach.specs.Chain.{Chain, empty, step}
use Rattle.dl_reach.specs.Digraph.{Digraph, IsEdge, Leads}
use Rattle.dl_reach.proofs.Chains.{Chain-trans}
use Rattle.dl_numbers.specs.Numbers.{IsBelow}
use Rattle.dl_numbers.proofs.ListLemmas.{ascending_distinct, one_place}

abbrev pub IsDecided : Type 0 → Type 0
IsDecided P = P ⊎ (P → ⊥)

-- ---- chains

-- a chain takes the first of the edges, or not
first_taken : (e : ℕ × ℕ) (edges : List (ℕ × ℕ)) (a b : ℕ) → Chain (Leads (e ∷ edges)) a b
    → Chain (Leads edges) a b ⊎ (Chain (Leads edges) a e.0 × Chain (Leads edges) e.1 b)
first_taken e edges a b empty = inl empty
first_taken e edges a b (step {b = m} s rest) = by (Contains-cons e (a, m) edges s) (first_taken e edges m b rest)
  where
    by : (e ≡ (a, m)) ⊎ Contains edges (a, m) → Chain (Leads edges) m b ⊎ (Chain (Leads edges) m e.0 × Chain (Leads edges) e.1 b)
        → Chain (Leads edges) a b ⊎ (Chain (Leads edges) a e.0 × Chain (Leads edges) e.1 b)
    by (inl here) (inl old) = inr (
      subst (λ (x : ℕ × ℕ). Chain (Leads edges) a x.0) (sym here) empty,
      subst (λ (x : ℕ × ℕ). Chain (Leads edges) x.1 b) (sym here) old,
    )
    by (inl here) (inr both) = inr (subst (λ (x : ℕ × ℕ). Chain (Leads edges) a x.0) (sym here) empty, both.1)
    by (inr there) (inl old) = inl (step there old)
    by (inr there) (inr both) = inr (step there both.0, both.1)

no_edge : (a b : ℕ) → Chain (Leads []) a b → a ≡ b
no_edge a b empty = refl
no_edge a b (step {b = m} s rest) = absurd (Contains-nil (a, m) s)

more_edges : (e : ℕ × ℕ) (edges : List (ℕ × ℕ)) (a b : ℕ) → Chain (Leads edges) a b → Chain (Leads (e ∷ edges)) a b
more_edges e edges a b empty = empty
more_edges e edges a b (step {b = m} s rest) = step (Contains-later e (a, m) edges s) (more_edges e edges m b rest)

pub chain_decided : (edges : List (ℕ × ℕ)) (a b : ℕ) → IsDecided (Chain (Leads edges) a b)
chain_decided [] a b = elim (cases_eq a b) [
  | inl same ↦ inl (subst (Chain (Leads []) a) same empty)
  | inr other ↦ inr (λ c. other (no_edge a b c))
]
chain_decided (e ∷ edges) a b = by (chain_decided edges a b) (chain_decided edges a e.0) (chain_decided edges e.1 b)
  where
    by : IsDecided (Chain (Leads edges) a b) → IsDecided (Chain (Leads edges) a e.0) → IsDecided (Chain (Leads edges) e.1 b)
        → IsDecided (Chain (Leads (e ∷ edges)) a b)
    by (inl old) front back = inl (more_edges e edges a b old)
    by (inr apart) (inl front) (inl back) = inl (Chain-trans (Leads (e ∷ edges)) a e.0 b (more_edges e edges a e.0 front)
        (step (Contains-first e edges) (more_edges e edges e.1 b back)))
    by (inr apart) (inr missing) back = inr (λ c. elim (first_taken e edges a b c) [ inl old ↦ apart old | inr both ↦ missing both.0 ])
    by (inr apart) (inl front) (inr missing) = inr (λ c. elim (first_taken e edges a b c) [ inl old ↦ apart old | inr both ↦ missing both.1 ])

-- ---- the order of names

place_decided : (names : List ℕ) (name : ℕ) → ((place : ℕ) × (slice_get names place ≡ Some name)) ⊎ ((place : ℕ) → slice_get names place ≡ Some name → ⊥)
place_decided names name = by names
  where
    by : (xs : List ℕ) → ((place : ℕ) × (slice_get xs place ≡ Some name)) ⊎ ((place : ℕ) → slice_get xs place ≡ Some name → ⊥)
    by [] = inr (λ place e. cc)
    by (x ∷ xs) = at (cases_eq x name) (by xs)
      where
        at : (x ≡ name) ⊎ (x ≡ name → ⊥) → ((place : ℕ) × (slice_get xs place ≡ Some name)) ⊎ ((place : ℕ) → slice_get xs place ≡ Some name → ⊥)
            → ((place : ℕ) × (slice_get (x ∷ xs) place ≡ Some name)) ⊎ ((place : ℕ) → slice_get (x ∷ xs) place ≡ Some name → ⊥)
        at (inl same) rest = inl (0, ap Some same)
        at (inr other) (inl there) = inl (suc there.0, there.1)
        at (inr other) (inr none) = inr (λ place e. nowhere place e)
          where
            nowhere : (place : ℕ) → slice_get (x ∷ xs) place ≡ Some name → ⊥
            nowhere zero e = other cc
            nowhere (suc place) e = none place e

module _ (names : List ℕ) (up : IsStrictlyIncreasing names) (order : Digraph) where
  at_one_place : (name i j : ℕ) → slice_get names i ≡ Some name → slice_get names j ≡ Some name → i ≡ j
  at_one_place name i j p q = one_place names name i j (ascending_distinct names up) (slice_get_within names i name p)
      (slice_get_within names j name q) (get_or_from_slice_get names i name name p) (get_or_from_slice_get names j name name q)

  pub below_same : (a : ℕ) → Contains names a → IsBelow names order a a
  below_same a c =
      let is : slice_get names c.0 ≡ Some a = slice_get-get_or names c.0 a c.1 ∙ ap Some c.2 in
      record { place = c.0; above = c.0; here = is; there = is; chain = empty }

  pub below_through : (a b c : ℕ) → IsBelow names order a b → IsBelow names order b c → IsBelow names order a c
  below_through a b c p q = record {
    place = p.place;
    above = q.above;
    here = p.here;
    there = q.there;
    chain = Chain-trans (IsEdge order) p.place p.above q.above p.chain
        (subst (λ i. Chain (IsEdge order) i q.above) (at_one_place b q.place p.above q.here p.there) q.chain);
  }

  pub below_decided : (a b : ℕ) → IsDecided (IsBelow names order a b)
  below_decided a b = by (place_decided names a) (place_decided names b)
    where
      at : (i j : ℕ) → slice_get names i ≡ Some a → slice_get names j ≡ Some b → IsDecided (Chain (IsEdge order) i j) → IsDecided (IsBelow names order a b)
      at i j p q (inl chain) = inl (record { place = i; above = j; here = p; there = q; chain = chain })
      at i j p q (inr none) = inr (λ is. none (subst (λ k. Chain (IsEdge order) i k) (at_one_place b is.above j is.there q)
          (subst (λ k. Chain (IsEdge order) k is.above) (at_one_place a is.place i is.here p) is.chain)))

      by : ((place : ℕ) × (slice_get names place ≡ Some a)) ⊎ ((place : ℕ) → slice_get names place ≡ Some a → ⊥)
          → ((place : ℕ) × (slice_get names place ≡ Some b)) ⊎ ((place : ℕ) → slice_get names place ≡ Some b → ⊥) → IsDecided (IsBelow names order a b)
      by (inl p) (inl q) = at p.0 q.0 p.1 q.1 (chain_decided order.edges p.0 q.0)
      by (inr nowhere) q = inr (λ is. nowhere is.place is.here)
      by (inl p) (inr nowhere) = inr (λ is. nowhere is.above is.there)
