-- From places to names: what is in depth-first order by places is so by the names that stand there.
use Rattle.std.proofs.Common.{◌≡◌, ℕ, zero, suc, ◌+◌, ◌<◌, ◌≤◌, ◌↔◌, ◌⊎◌, inl, inr, List, [], ◌∷◌, ◌++◌, map, length, get_or, slice_get, Some, sym, ap, subst, ◌∙◌, arith}
use Rattle.std.specs.List.{Contains}
use Rattle.std.specs.List.Sorted.{IsStrictlyIncreasing}
use Rattle.std.proofs.lemmas.Bool.{cases_lt}
use Rattle.std.proofs.lemmas.List.{get_or_default, map-append}
use Rattle.std.proofs.lemmas.List.Kept.{AllPairs-from_increasing}
use Rattle.std.proofs.lemmas.Option.{slice_get-get_or, slice_get_within, get_or_from_slice_get}
use Rattle.dl_terms.proofs.MemberLemmas.{Contains-nil, Contains-cons, Contains-first, Contains-later}
use Rattle.dl_reach.specs.Chain.{Chain}
use Rattle.dl_reach.specs.Digraph.{Digraph, IsEdge}
use Rattle.dl_numbers.specs.Numbers.{IsBelow}
use Rattle.dl_numbers.specs.DepthFirst.{AreExactly, AreEquivalent, IsLeast, IsStrictlyAbove, IsLeastAbove, IsParent, IsRoot, IsChild, AreDepthFirst, IsDepthFirst, none, tree}
use Rattle.dl_numbers.specs.Places.{places, Reaches}
use Rattle.dl_numbers.proofs.ListLemmas.{ascending_distinct, one_place}
use Rattle.dl_numbers.proofs.PlaceLemmas.{in_places}

module _ (names : List ℕ) (up : IsStrictlyIncreasing names) (order : Digraph) (long : length names ≡ order.nodes) where
  abbrev pub name_at : ℕ → ℕ
  name_at k = get_or names k 0

  rises_at : (i j : ℕ) → i < j → j < order.nodes → name_at i < name_at j
  rises_at i j lt h = AllPairs-from_increasing names up i j 0 lt (omega (arith, h, long))

  le_at : (i j : ℕ) → i ≤ j → j < order.nodes → name_at i ≤ name_at j
  le_at i j le h = elim (cases_lt i j) [
    | inl lt ↦ let s = rises_at i j lt h in omega (arith, s)
    | inr ge ↦ let e : i ≡ j = omega (arith, le, ge) in let f = ap name_at e in omega (arith, f)
  ]

  back_at : (i j : ℕ) → i < order.nodes → name_at i ≤ name_at j → i ≤ j
  back_at i j h le = elim (cases_lt j i) [
    | inl lt ↦ let s = rises_at j i lt h in absurd (omega (arith, s, le))
    | inr ge ↦ ge
  ]

  stands : (k : ℕ) → k < order.nodes → slice_get names k ≡ Some (name_at k)
  stands k h = slice_get-get_or names k 0 (omega (arith, h, long))

  one_at : (i j : ℕ) → i < order.nodes → slice_get names j ≡ Some (name_at i) → j ≡ i
  one_at i j h e = one_place names (name_at i) j i (ascending_distinct names up) (slice_get_within names j (name_at i) e) (omega (arith, h, long))
      (get_or_from_slice_get names j (name_at i) (name_at i) e) (get_or_default names i (name_at i) 0 (omega (arith, h, long)))

  pub below_at : (i j : ℕ) → i < order.nodes → j < order.nodes → Reaches order i j ↔ IsBelow names order (name_at i) (name_at j)
  below_at i j hi hj = (
    λ chain. record { place = i; above = j; here = stands i hi; there = stands j hj; chain = chain },
    λ is. subst (λ k. Chain (IsEdge order) i k) (one_at j is.above hj is.there) (subst (λ k. Chain (IsEdge order) k is.above) (one_at i is.place hi is.here) is.chain),
  )

  named_at : (k : ℕ) → k < order.nodes → Contains names (name_at k)
  named_at k h = (k, omega (arith, h, long), get_or_default names k (name_at k) 0 (omega (arith, h, long)))

  place_of : (a : ℕ) → Contains names a → (k : ℕ) × (k < order.nodes) × (name_at k ≡ a)
  place_of a c = let h = c.1 in (c.0, omega (arith, h, long), get_or_default names c.0 0 a c.1 ∙ c.2)

  abbrev Up : ℕ → ℕ → Type 0
  Up = Reaches order

  abbrev Down : ℕ → ℕ → Type 0
  Down = IsBelow names order

  abbrev ps : List ℕ
  ps = places order.nodes

  within : (k : ℕ) → Contains ps k → k < order.nodes
  within k c = (in_places order.nodes k).0 c

  among : (k : ℕ) → k < order.nodes → Contains ps k
  among k h = (in_places order.nodes k).1 h

  equivalent_at : (i j : ℕ) → i < order.nodes → j < order.nodes → AreEquivalent ps Up i j ↔ AreEquivalent names Down (name_at i) (name_at j)
  equivalent_at i j hi hj = (
    λ e. ((below_at i j hi hj).0 e.0, (below_at j i hj hi).0 e.1),
    λ e. ((below_at i j hi hj).1 e.0, (below_at j i hj hi).1 e.1),
  )

  above_at : (j i : ℕ) → j < order.nodes → i < order.nodes → IsStrictlyAbove ps Up j i ↔ IsStrictlyAbove names Down (name_at j) (name_at i)
  above_at j i hj hi = (
    λ s. ((below_at i j hi hj).0 s.0, λ d. s.1 ((below_at j i hj hi).1 d)),
    λ s. ((below_at i j hi hj).1 s.0, λ d. s.1 ((below_at j i hj hi).0 d)),
  )

  least_at : (i : ℕ) → i < order.nodes → IsLeast ps Up i ↔ IsLeast names Down (name_at i)
  least_at i hi = (
    λ is. record {
      least = λ b c e. let k = place_of b c in
          subst (λ x. name_at i ≤ x) k.2 (le_at i k.0 (is.least k.0 (among k.0 k.1) ((equivalent_at i k.0 hi k.1).1 (subst (AreEquivalent names Down (name_at i)) (sym k.2) e))) k.1);
    },
    λ is. record { least = λ k c e. let h = within k c in back_at i k hi (is.least (name_at k) (named_at k h) ((equivalent_at i k hi h).0 e)) },
  )

  least_above_at : (j i : ℕ) → j < order.nodes → i < order.nodes → IsLeastAbove ps Up j i ↔ IsLeastAbove names Down (name_at j) (name_at i)
  least_above_at j i hj hi = (
    λ is. record {
      among = named_at j hj;
      above = (above_at j i hj hi).0 is.above;
      least = λ c m s d. let k = place_of c m in
          subst (Down (name_at j)) k.2 ((below_at j k.0 hj k.1).0 (is.least k.0 (among k.0 k.1) ((above_at k.0 i k.1 hi).1 (subst (λ x. IsStrictlyAbove names Down x (name_at i)) (sym k.2) s))
          ((below_at k.0 j k.1 hj).1 (subst (λ x. Down x (name_at j)) (sym k.2) d))));
    },
    λ is. record {
      among = among j hj;
      above = (above_at j i hj hi).1 is.above;
      least = λ k m s d. let h = within k m in
          (below_at j k hj h).1 (is.least (name_at k) (named_at k h) ((above_at k i h hi).0 s) ((below_at k j h hj).0 d));
    },
  )

  parent_at : (j i : ℕ) → j < order.nodes → i < order.nodes → IsParent ps Up j i ↔ IsParent names Down (name_at j) (name_at i)
  parent_at j i hj hi = (
    λ is. record {
      above = (least_above_at j i hj hi).0 is.above;
      first = λ c l. let k = place_of c l.among in
          subst (λ x. name_at j ≤ x) k.2 (le_at j k.0 (is.first k.0 ((least_above_at k.0 i k.1 hi).1 (subst (λ x. IsLeastAbove names Down x (name_at i)) (sym k.2) l))) k.1);
    },
    λ is. record {
      above = (least_above_at j i hj hi).1 is.above;
      first = λ k l. let h = within k l.among in back_at j k hj (is.first (name_at k) ((least_above_at k i h hi).0 l));
    },
  )

  root_at : (i : ℕ) → i < order.nodes → IsRoot ps Up i ↔ IsRoot names Down (name_at i)
  root_at i hi = (
    λ is. record {
      least = (least_at i hi).0 is.least;
      no_parent = λ b p. let k = place_of b p.above.among in is.no_parent k.0 ((parent_at k.0 i k.1 hi).1 (subst (λ x. IsParent names Down x (name_at i)) (sym k.2) p));
    },
    λ is. record {
      least = (least_at i hi).1 is.least;
      no_parent = λ k p. is.no_parent (name_at k) ((parent_at k i (within k p.above.among) hi).0 p);
    },
  )

  child_at : (j i : ℕ) → j < order.nodes → i < order.nodes → IsChild ps Up j i ↔ IsChild names Down (name_at j) (name_at i)
  child_at j i hj hi = (
    λ is. record { least = (least_at i hi).0 is.least; parent = (parent_at j i hj hi).0 is.parent },
    λ is. record { least = (least_at i hi).1 is.least; parent = (parent_at j i hj hi).1 is.parent },
  )

  -- ---- lists

  in_map : (xs : List ℕ) (k : ℕ) → Contains xs k → Contains (map name_at xs) (name_at k)
  in_map [] k c = absurd (Contains-nil k c)
  in_map (x ∷ xs) k c = by (Contains-cons x k xs c) (in_map xs k)
    where
      by : (x ≡ k) ⊎ Contains xs k → (Contains xs k → Contains (map name_at xs) (name_at k)) → Contains (map name_at (x ∷ xs)) (name_at k)
      by (inl e) rest = subst (λ y. Contains (map name_at (x ∷ xs)) (name_at y)) e (Contains-first (name_at x) (map name_at xs))
      by (inr later) rest = Contains-later (name_at x) (name_at k) (map name_at xs) (rest later)

  of_map : (xs : List ℕ) (a : ℕ) → Contains (map name_at xs) a → (k : ℕ) × Contains xs k × (name_at k ≡ a)
  of_map [] a c = absurd (Contains-nil a c)
  of_map (x ∷ xs) a c = by (Contains-cons (name_at x) a (map name_at xs) c) (of_map xs a)
    where
      by : (name_at x ≡ a) ⊎ Contains (map name_at xs) a → (Contains (map name_at xs) a → (k : ℕ) × Contains xs k × (name_at k ≡ a))
          → (k : ℕ) × Contains (x ∷ xs) k × (name_at k ≡ a)
      by (inl e) rest = (x, Contains-first x xs, e)
      by (inr later) rest = let r = rest later in (r.0, Contains-later x r.0 xs r.1, r.2)

  map_rises : (xs : List ℕ) → IsStrictlyIncreasing xs → ((k : ℕ) → Contains xs k → k < order.nodes) → IsStrictlyIncreasing (map name_at xs)
  map_rises [] rise few k h = absurd (omega (arith, h))
  map_rises (x ∷ []) rise few k h = absurd (omega (arith, h))
  map_rises (x ∷ y ∷ xs) rise few zero h = rises_at x y (rise zero (omega arith)) (few y (Contains-later x y (y ∷ xs) (Contains-first y xs)))
  map_rises (x ∷ y ∷ xs) rise few (suc k) h =
      let next : suc k + 1 ≡ suc (k + 1) = omega arith in
      subst (λ j. get_or (map name_at (y ∷ xs)) k 0 < get_or (map name_at (x ∷ y ∷ xs)) j 0) (sym next)
      (map_rises (y ∷ xs) (λ j l. subst (λ m. get_or (y ∷ xs) j 0 < get_or (x ∷ y ∷ xs) m 0) (let e : suc j + 1 ≡ suc (j + 1) = omega arith in e) (rise (suc j) (omega (arith, l))))
      (λ j c. few j (Contains-later x j (y ∷ xs) c)) k (omega (arith, h)))

  exactly_map : (P Q : ℕ → Type 0) (xs : List ℕ) → AreExactly ps P xs → ((k : ℕ) → k < order.nodes → P k ↔ Q (name_at k)) → AreExactly names Q (map name_at xs)
  exactly_map P Q xs are same = record {
    ascending = map_rises xs are.ascending (λ k c. within k ((are.exact k).0 c).0);
    exact = λ a. (
      λ c. let r = of_map xs a c in let is = (are.exact r.0).0 r.1 in let h = within r.0 is.0 in
          (subst (Contains names) r.2 (named_at r.0 h), subst Q r.2 ((same r.0 h).0 is.1)),
      λ h. let k = place_of a h.0 in subst (Contains (map name_at xs)) k.2 (in_map xs k.0 ((are.exact k.0).1 (among k.0 k.1, (same k.0 k.1).1 (subst Q (sym k.2) h.1)))),
    );
  }

  order_map : (cs xs : List ℕ) → AreDepthFirst ps Up cs xs → ((k : ℕ) → Contains cs k → k < order.nodes) → AreDepthFirst names Down (map name_at cs) (map name_at xs)
  order_map cs xs none few = none
  order_map cs xs (tree c cs' ms bs below others am ab d1 d2) few =
      let h = few c (Contains-first c cs') in
      let split : map name_at (ms ++ below ++ others) ≡ map name_at ms ++ map name_at below ++ map name_at others =
      map-append name_at (ms ++ below) others ∙ ap (λ zs. zs ++ map name_at others) (map-append name_at ms below) in
      subst (AreDepthFirst names Down (map name_at (c ∷ cs'))) (sym split)
      (tree (name_at c) (map name_at cs') (map name_at ms) (map name_at bs) (map name_at below) (map name_at others)
      (exactly_map (AreEquivalent ps Up c) (AreEquivalent names Down (name_at c)) ms am (λ k hk. equivalent_at c k h hk))
      (exactly_map (IsChild ps Up c) (IsChild names Down (name_at c)) bs ab (λ k hk. child_at c k h hk))
      (order_map bs below d1 (λ k m. within k ((ab.exact k).0 m).0))
      (order_map cs' others d2 (λ k m. few k (Contains-later c k cs' m))))

  pub depth_first_names : (xs : List ℕ) → IsDepthFirst ps Up xs → IsDepthFirst names Down (map name_at xs)
  depth_first_names xs is = record {
    roots = map name_at is.roots;
    are = exactly_map (IsRoot ps Up) (IsRoot names Down) is.roots is.are root_at;
    order = order_map is.roots xs is.order (λ k m. within k ((is.are.exact k).0 m).0);
  }
