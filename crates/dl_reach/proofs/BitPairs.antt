-- Matrices whose bits are an order of places: the pairs of their bits are edges whose chains the bits tell.
use Rattle.std.proofs.Common.{◌≡◌, ℕ, zero, suc, ◌+◌, ◌*◌, ◌/◌, ◌%◌, ◌<◌, ◌≤◌, ◌⊎◌, ◌↔◌, Bool, true, false, cond, nat_eq, List, [], ◌∷◌, ◌++◌, get_or, Contains, refl, sym, ap, subst, ◌∙◌, inl, inr, true≢false, arith}
use Rattle.std.specs.Int.{bit_at}
use Rattle.std.proofs.lemmas.Bool.{eq-eqb, eqb-true, cases_eq}
use Rattle.std.proofs.lemmas.List.Elements.{Contains-append_left, Contains-append_right, Contains-append_cases}
use Rattle.dl_reach.specs.Chain.{Chain, empty, step}
use Rattle.dl_reach.specs.Digraph.{Leads}
use Rattle.dl_reach.specs.Matrix.{HasBit, HasChains}
use Rattle.dl_reach.specs.Closures.{row_pairs, bit_pairs}
use Rattle.dl_reach.proofs.Chains.{Chain-step, Chain-least}

in_none : {A : Type 0} (x : A) → Contains [] x → ⊥
in_none x c = let h = c.1 in omega (arith, h)

of_one : {A : Type 0} (x y : A) → Contains (x ∷ []) y → x ≡ y
of_one x y (zero, h, e) = e
of_one x y (suc k, h, e) = absurd (omega (arith, h))

one : {A : Type 0} (x : A) → Contains (x ∷ []) x
one x = (zero, omega arith, refl)

module _ (words : List ℕ) (width : ℕ) where
  abbrev is_set : ℕ → ℕ → Bool
  is_set a b = nat_eq (bit_at (get_or words (a * width + b / 64) 0) (b % 64)) 1

  -- ---- the pairs of one row

  in_row : (row columns b : ℕ) → b < columns → is_set row b ≡ true → Contains (row_pairs words width row columns) (row, b)
  in_row row zero b h e = absurd (omega (arith, h))
  in_row row (suc k) b h e = by (λ g. in_row row k b g e) (cases_eq b k) (is_set row k) refl
    where
      by : (b < k → Contains (row_pairs words width row k) (row, b)) → (b ≡ k) ⊎ (b ≡ k → ⊥) → (s : Bool) → is_set row k ≡ s
          → Contains (cond s ((row, k) ∷ row_pairs words width row k) (row_pairs words width row k)) (row, b)
      by lower (inl same) true told = Contains-append_left ((row, k) ∷ []) (row_pairs words width row k) (row, b)
          (subst (λ m. Contains {X = ℕ × ℕ} ((row, m) ∷ []) (row, b)) same (one (row, b)))
      by lower (inl same) false told = absurd (true≢false (sym e ∙ ap (is_set row) same ∙ told))
      by lower (inr other) true told = Contains-append_right ((row, k) ∷ []) (row_pairs words width row k) (row, b)
          (lower (omega (arith, h, other)))
      by lower (inr other) false told = lower (omega (arith, h, other))

  of_row : (row columns : ℕ) (p : ℕ × ℕ) → Contains (row_pairs words width row columns) p
      → (p.0 ≡ row) × (p.1 < columns) × (is_set row p.1 ≡ true)
  of_row row zero p c = absurd (in_none p c)
  of_row row (suc k) p c = by (λ d. let r = of_row row k p d in let h = r.1 in (r.0, omega (arith, h), r.2)) (is_set row k) refl c
    where
      by : (Contains (row_pairs words width row k) p → (p.0 ≡ row) × (p.1 < suc k) × (is_set row p.1 ≡ true)) → (s : Bool) → is_set row k ≡ s → Contains (cond s ((row, k) ∷ row_pairs words width row k) (row_pairs words width row k)) p
          → (p.0 ≡ row) × (p.1 < suc k) × (is_set row p.1 ≡ true)
      by lower true told d = elim (Contains-append_cases ((row, k) ∷ []) (row_pairs words width row k) p d) [
        | inl here ↦ let e = of_one (row, k) p here in
            subst (λ (q : ℕ × ℕ). (q.0 ≡ row) × (q.1 < suc k) × (is_set row q.1 ≡ true)) e (refl, omega arith, told)
        | inr there ↦ lower there
      ]
      by lower false told d = lower d

  -- ---- those of all rows

  in_pairs : (columns rows a b : ℕ) → a < rows → b < columns → is_set a b ≡ true → Contains (bit_pairs words width columns rows) (a, b)
  in_pairs columns zero a b h g e = absurd (omega (arith, h))
  in_pairs columns (suc row) a b h g e = by (λ lt. in_pairs columns row a b lt g e) (cases_eq a row)
    where
      by : (a < row → Contains (bit_pairs words width columns row) (a, b)) → (a ≡ row) ⊎ (a ≡ row → ⊥) → Contains (row_pairs words width row columns ++ bit_pairs words width columns row) (a, b)
      by further (inl same) = Contains-append_left (row_pairs words width row columns) (bit_pairs words width columns row) (a, b)
          (subst (λ m. Contains (row_pairs words width m columns) (a, b)) same (in_row a columns b g e))
      by further (inr other) = Contains-append_right (row_pairs words width row columns) (bit_pairs words width columns row) (a, b)
          (further (omega (arith, h, other)))

  of_pairs : (columns rows : ℕ) (p : ℕ × ℕ) → Contains (bit_pairs words width columns rows) p
      → (p.0 < rows) × (p.1 < columns) × (is_set p.0 p.1 ≡ true)
  of_pairs columns zero p c = absurd (in_none p c)
  of_pairs columns (suc row) p c = elim (Contains-append_cases (row_pairs words width row columns) (bit_pairs words width columns row) p c) [
    | inl here ↦ let r = of_row row columns p here in let e = r.0 in
        (omega (arith, e), r.1, subst (λ m. is_set m p.1 ≡ true) (sym e) r.2)
    | inr there ↦ let r = of_pairs columns row p there in let h = r.0 in (omega (arith, h), r.1, r.2)
  ]

  -- ---- bits that are an order

  module _ (nodes : ℕ) (wide : nodes ≤ 64 * width) (R : ℕ → ℕ → Type 0) (same : (a : ℕ) → R a a)
      (through : (a b c : ℕ) → R a b → R b c → R a c)
      (bits : (a b : ℕ) → HasBit words width a b ↔ ((b < nodes) × (a < nodes) × R a b)) where
    edge_of_bit : (a b : ℕ) → HasBit words width a b → Leads (bit_pairs words width nodes nodes) a b
    edge_of_bit a b h = let r = (bits a b).0 h in in_pairs nodes nodes a b r.1 r.0 (eq-eqb _ 1 h.is_set)

    bit_of_edge : (a b : ℕ) → Leads (bit_pairs words width nodes nodes) a b → HasBit words width a b
    bit_of_edge a b e =
        let r = of_pairs nodes nodes (a, b) e in
        let h = r.1 in
        record { in_row = omega (arith, h, wide); is_set = eqb-true _ 1 r.2 }

    walked : (a b : ℕ) → Chain (Leads (bit_pairs words width nodes nodes)) a b → R a b
    walked = Chain-least (Leads (bit_pairs words width nodes nodes)) R same
        (λ a b c s r. through a b c ((bits a b).0 (bit_of_edge a b s)).2 r)

    within : (a b : ℕ) → a < nodes → Chain (Leads (bit_pairs words width nodes nodes)) a b → b < nodes
    within a b h empty = h
    within a b h (step {b = m} s w) = within m b ((of_pairs nodes nodes (a, m) s).1) w

    pub order_has_chains : HasChains words width nodes (bit_pairs words width nodes nodes)
    order_has_chains a b h = (
      λ bit. Chain-step (Leads (bit_pairs words width nodes nodes)) a b (edge_of_bit a b bit),
      λ w. (bits a b).1 (within a b h w, h, walked a b w),
    )

    pub order_chains : (a b : ℕ) → a < nodes → b < nodes → Chain (Leads (bit_pairs words width nodes nodes)) a b ↔ R a b
    order_chains a b h g = (
      λ w. walked a b w,
      λ r. (order_has_chains a b h).0 ((bits a b).1 (g, h, r)),
    )

-- bits that are told column by column
pub column_more : (width n column : ℕ) (old new : List ℕ) (P : ℕ → ℕ → Type 0)
    → ((a b : ℕ) → HasBit old width a b ↔ ((b < column) × (a < n) × P a b))
    → ((a b : ℕ) → HasBit new width a b ↔ (HasBit old width a b ⊎ ((b ≡ column) × (a < n) × P a column)))
    → (a b : ℕ) → HasBit new width a b ↔ ((b < column + 1) × (a < n) × P a b)
column_more width n column old new P had gains a b = (
  λ h. elim ((gains a b).0 h) [
    | inl before ↦ let r = (had a b).0 before in let lt = r.0 in (omega (arith, lt), r.1, r.2)
    | inr here ↦ let e = here.0 in (omega (arith, e), here.1, subst (P a) (sym e) here.2)
  ],
  λ r. by r (cases_eq b column),
)
  where
    by : (b < column + 1) × (a < n) × P a b → (b ≡ column) ⊎ (b ≡ column → ⊥) → HasBit new width a b
    by r (inl e) = (gains a b).1 (inr (e, r.1, subst (P a) e r.2))
    by r (inr other) = let lt = r.0 in (gains a b).1 (inl ((had a b).1 (omega (arith, lt, other), r.1, r.2)))
