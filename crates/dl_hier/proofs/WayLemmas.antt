-- Graphs that are kept turned round: places and nodes, edges, and chains.
use Rattle.std.proofs.Common.{◌≡◌, ℕ, ◌+◌, ◌%◌, ◌-◌, ◌<◌, ◌≤◌, ◌↔◌, ◌⊎◌, true, false, nat_lt, if◌then◌else◌, List, map, get_or, Contains, sym, ap, ap₂, subst, ◌∙◌, inl, inr, arith}
use Rattle.std.proofs.lemmas.Bool.{cases_lt}
use Rattle.std.proofs.lemmas.List.Elements.{All-contains, Contains-get_or}
use Rattle.dl_reach.specs.Chain.{Chain, empty, step}
use Rattle.dl_reach.specs.Digraph.{Leads, EndsBelow}
use Rattle.dl_reach.proofs.Chains.{Chain-refl, Chain-snoc}
use Rattle.dl_hier.specs.Ways.{other, place, node_at, kept_edge, edge_of}
use Rattle.dl_hier.proofs.MemberLemmas.{Contains-map, Contains-map_of}

pub other-other : (n : ℕ) → other (other n) ≡ n
other-other n = grind arith

pub other-below : (n m : ℕ) → m % 2 ≡ 0 → n < m → other n < m
other-below n m even below = grind arith

-- lists that are the same have the same members
pub same_members : {xs ys : List (ℕ × ℕ)} → xs ≡ ys → (a b : ℕ) → Contains xs (a, b) ↔ Contains ys (a, b)
same_members e a b = (subst (λ l. Contains l (a, b)) e, subst (λ l. Contains l (a, b)) (sym e))

lt-true : (n m : ℕ) → n < m → nat_lt n m ≡ true
lt-true n m h = grind arith

lt-false : (n m : ℕ) → m ≤ n → nat_lt n m ≡ false
lt-false n m h = grind arith

module _ (first rest : ℕ) where
  pub place-first : (n : ℕ) → n < first → place first rest n ≡ rest + n
  place-first n h = ap (λ b. if b then rest + n else other (n - first)) (lt-true n first h)

  pub place-rest : (n : ℕ) → first ≤ n → place first rest n ≡ other (n - first)
  place-rest n h = ap (λ b. if b then rest + n else other (n - first)) (lt-false n first h)

  pub node_at-rest : (i : ℕ) → i < rest → node_at first rest i ≡ first + other i
  node_at-rest i h = ap (λ b. if b then first + other i else i - rest) (lt-true i rest h)

  pub node_at-first : (i : ℕ) → rest ≤ i → node_at first rest i ≡ i - rest
  node_at-first i h = ap (λ b. if b then first + other i else i - rest) (lt-false i rest h)

  module _ (even : rest % 2 ≡ 0) where
    pub place-below : (n : ℕ) → n < first + rest → place first rest n < first + rest
    place-below n h = by (cases_lt n first)
      where
        by : (n < first) ⊎ (first ≤ n) → place first rest n < first + rest
        by (inl l) = let e = place-first n l in omega (arith, e, l)
        by (inr l) =
            let e = place-rest n l in
            let o = other-below (n - first) rest even (omega (arith, h, l)) in
            subst (λ k. k < first + rest) (sym e) (omega (arith, o))

    pub node_at-below : (i : ℕ) → i < first + rest → node_at first rest i < first + rest
    node_at-below i h = by (cases_lt i rest)
      where
        by : (i < rest) ⊎ (rest ≤ i) → node_at first rest i < first + rest
        by (inl l) =
            let o = other-below i rest even l in
            subst (λ k. k < first + rest) (sym (node_at-rest i l)) (omega (arith, o))
        by (inr l) = subst (λ k. k < first + rest) (sym (node_at-first i l)) (omega (arith, h, l))

    pub node_at-place : (n : ℕ) → n < first + rest → node_at first rest (place first rest n) ≡ n
    node_at-place n h = by (cases_lt n first)
      where
        by : (n < first) ⊎ (first ≤ n) → node_at first rest (place first rest n) ≡ n
        by (inl l) =
            ap (node_at first rest) (place-first n l) ∙ node_at-first (rest + n) (omega arith) ∙ omega arith
        by (inr l) =
            let o = other-below (n - first) rest even (omega (arith, h, l)) in
            ap (node_at first rest) (place-rest n l) ∙ node_at-rest (other (n - first)) o
            ∙ ap (λ k. first + k) (other-other (n - first)) ∙ omega (arith, l)

    pub place-node_at : (i : ℕ) → i < first + rest → place first rest (node_at first rest i) ≡ i
    place-node_at i h = by (cases_lt i rest)
      where
        by : (i < rest) ⊎ (rest ≤ i) → place first rest (node_at first rest i) ≡ i
        by (inl l) =
            let e : first + other i - first ≡ other i = omega arith in
            ap (place first rest) (node_at-rest i l) ∙ place-rest (first + other i) (omega arith) ∙ ap other e ∙ other-other i
        by (inr l) =
            ap (place first rest) (node_at-first i l) ∙ place-first (i - rest) (omega (arith, h, l)) ∙ omega (arith, l)

    -- the same edges
    module _ (edges kept : List (ℕ × ℕ)) (ends : EndsBelow (first + rest) edges)
        (are : (a b : ℕ) → Contains kept (a, b) ↔ Contains (map (kept_edge first rest) edges) (a, b)) where
      pub edges_back : (a b : ℕ) → Contains (map (edge_of first rest) kept) (a, b) ↔ Contains edges (a, b)
      edges_back a b = (
        λ c.
            let w = Contains-map (edge_of first rest) kept (a, b) c in
            let v = Contains-map (kept_edge first rest) edges w.0 ((are w.0.0 w.0.1).0 w.1) in
            subst (Contains edges) (sym (same v.0 v.1) ∙ ap (edge_of first rest) v.2 ∙ w.2) v.1,
        λ c.
            let k = (are (place first rest b) (place first rest a)).1 (Contains-map_of (kept_edge first rest) edges (a, b) c) in
            subst (Contains (map (edge_of first rest) kept)) (same (a, b) c)
            (Contains-map_of (edge_of first rest) kept (kept_edge first rest (a, b)) k),
      )
        where
          same : (e : ℕ × ℕ) → Contains edges e → edge_of first rest (kept_edge first rest e) ≡ e
          same e c =
              let at = All-contains (λ x. (x.0 < first + rest) × (x.1 < first + rest)) edges e ends c in
              ap₂ (λ x y. (x, y)) (node_at-place e.0 at.0) (node_at-place e.1 at.1)

      pub kept_ends : EndsBelow (first + rest) kept
      kept_ends = λ k d h.
          let e = get_or kept k d in
          let w = Contains-map (kept_edge first rest) edges e ((are e.0 e.1).0 (Contains-get_or kept k d h)) in
          let at = All-contains (λ x. (x.0 < first + rest) × (x.1 < first + rest)) edges w.0 ends w.1 in (
            subst (λ n. n < first + rest) (ap (λ x. x.0) w.2) (place-below w.0.1 at.1),
            subst (λ n. n < first + rest) (ap (λ x. x.1) w.2) (place-below w.0.0 at.0),
          )

    -- chains
    module _ (kept : List (ℕ × ℕ)) (ends : EndsBelow (first + rest) kept) where
      abbrev shown : List (ℕ × ℕ)
      shown = map (edge_of first rest) kept

      there : {i j : ℕ} → Chain (Leads kept) i j → Chain (Leads shown) (node_at first rest j) (node_at first rest i)
      there {i} empty = Chain-refl (Leads shown) (node_at first rest i)
      there (step {a = i} {b = k} {c = j} s w) =
          Chain-snoc (Leads shown) (node_at first rest j) (node_at first rest k) (node_at first rest i) (there w)
          (Contains-map_of (edge_of first rest) kept (i, k) s)

      back : {a b : ℕ} → Chain (Leads shown) a b → Chain (Leads kept) (place first rest b) (place first rest a)
      back {a} empty = Chain-refl (Leads kept) (place first rest a)
      back (step {a = a} {b = m} {c = b} s w) =
          let e = Contains-map (edge_of first rest) kept (a, m) s in
          let at = All-contains (λ x. (x.0 < first + rest) × (x.1 < first + rest)) kept e.0 ends e.1 in
          let from : place first rest a ≡ e.0.1 = ap (λ x. place first rest x.0) (sym e.2) ∙ place-node_at e.0.1 at.1 in
          let to : place first rest m ≡ e.0.0 = ap (λ x. place first rest x.1) (sym e.2) ∙ place-node_at e.0.0 at.0 in
          Chain-snoc (Leads kept) (place first rest b) (place first rest m) (place first rest a) (back w)
          (subst (λ x. Leads kept x (place first rest a)) (sym to) (subst (Leads kept e.0.0) (sym from) e.1))

      -- chains of the kept edges are chains of the graph, turned round
      pub kept_chains : (a b : ℕ) → a < first + rest → b < first + rest
          → Chain (Leads kept) (place first rest b) (place first rest a) ↔ Chain (Leads shown) a b
      kept_chains a b a_in b_in = (
        λ w. subst (λ x. Chain (Leads shown) x b) (node_at-place a a_in)
            (subst (Chain (Leads shown) (node_at first rest (place first rest a))) (node_at-place b b_in) (there w)),
        λ w. back w,
      )

      pub row_chains : (i b : ℕ) → i < first + rest → b < first + rest
          → Chain (Leads kept) (place first rest b) i ↔ Chain (Leads shown) (node_at first rest i) b
      row_chains i b i_in b_in =
          subst (λ x. Chain (Leads kept) (place first rest b) x ↔ Chain (Leads shown) (node_at first rest i) b) (place-node_at i i_in)
          (kept_chains (node_at first rest i) b (node_at-below i i_in) b_in)
