-- Places of names: lists that grow place by place, classes by their least places, and the parent that a search finds.
use Rattle.std.proofs.Common.{Bool, true, false, not, eqb, IsTrue, true≢false, ◌≡◌, ℕ, zero, suc, ◌+◌, ◌<◌, ◌≤◌, ◌↔◌, ◌⊎◌, inl, inr, List, [], ◌∷◌, ◌++◌, get_or, refl, sym, subst, ◌∙◌, le_antisymm, arith}
use Rattle.std.specs.List.{Contains}
use Rattle.std.specs.List.Sorted.{IsStrictlyIncreasing}
use Rattle.std.proofs.lemmas.Bool.{cases_lt, eq-eqb, eqb-true}
use Rattle.std.proofs.lemmas.List.Elements.{Contains-append_left, Contains-append_right, Contains-append_cases}
use Rattle.dl_terms.proofs.MemberLemmas.{Contains-nil, Contains-first, Contains-later, Contains-one}
use Rattle.dl_reach.specs.Digraph.{Digraph, IsEdge, AreConnected}
use Rattle.dl_reach.proofs.Chains.{Chain-refl, Chain-trans}
use Rattle.dl_numbers.specs.DepthFirst.{AreExactly, IsLeast}
use Rattle.dl_numbers.specs.Places.{places, Reaches, IsAbove, AreLeaders}

pub in_places : (n k : ℕ) → Contains (places n) k ↔ (k < n)
in_places zero k = (λ c. absurd (Contains-nil k c), λ h. absurd (omega (arith, h)))
in_places (suc n) k = (
  λ c. elim (Contains-append_cases (places n) (n ∷ []) k c) [
    | inl left ↦ let h = (in_places n k).0 left in omega (arith, h)
    | inr right ↦ let e = Contains-one n k right in omega (arith, e)
  ],
  λ h. elim (cases_lt k n) [
    | inl lt ↦ Contains-append_left (places n) (n ∷ []) k ((in_places n k).1 lt)
    | inr le ↦ let e : n ≡ k = omega (arith, h, le) in
        Contains-append_right (places n) (n ∷ []) k (subst (Contains (n ∷ [])) e (Contains-first n []))
  ],
)

-- ---- lists that grow place by place

pub rises_more : (xs : List ℕ) (i : ℕ) → IsStrictlyIncreasing xs → ((k : ℕ) → Contains xs k → k < i) → IsStrictlyIncreasing (xs ++ i ∷ [])
rises_more [] i up small k h = absurd (omega (arith, h))
rises_more (x ∷ []) i up small zero h = small x (Contains-first x [])
rises_more (x ∷ []) i up small (suc k) h = absurd (omega (arith, h))
rises_more (x ∷ y ∷ xs) i up small zero h = up zero (omega arith)
rises_more (x ∷ y ∷ xs) i up small (suc k) h =
    let next : suc k + 1 ≡ suc (k + 1) = omega arith in
    subst (λ j. get_or (y ∷ xs ++ i ∷ []) k 0 < get_or (x ∷ y ∷ xs ++ i ∷ []) j 0) (sym next)
    (rises_more (y ∷ xs) i (λ j l. subst (λ m. get_or (y ∷ xs) j 0 < get_or (x ∷ y ∷ xs) m 0) (let e : suc j + 1 ≡ suc (j + 1) = omega arith in e) (up (suc j) (omega (arith, l))))
    (λ j c. small j (Contains-later x j (y ∷ xs) c)) k (omega (arith, h)))

module _ (P : ℕ → Type 0) where
  pub exactly_none : AreExactly (places 0) P []
  exactly_none = record {
    ascending = λ k h. absurd (omega (arith, h));
    exact = λ n. (λ c. absurd (Contains-nil n c), λ h. absurd (Contains-nil n h.0));
  }

  more_places : (i k : ℕ) → Contains (places i) k → Contains (places (i + 1)) k
  more_places i k c = (in_places (i + 1) k).1 (let h = (in_places i k).0 c in omega (arith, h))

  last_or_before : (i k : ℕ) → Contains (places (i + 1)) k → (i ≡ k) ⊎ Contains (places i) k
  last_or_before i k c = let h = (in_places (i + 1) k).0 c in elim (cases_lt k i) [
    | inl lt ↦ inr ((in_places i k).1 lt)
    | inr le ↦ inl (omega (arith, h, le))
  ]

  pub exactly_more : (i : ℕ) (found : List ℕ) → AreExactly (places i) P found → P i → AreExactly (places (i + 1)) P (found ++ i ∷ [])
  exactly_more i found are p = record {
    ascending = rises_more found i are.ascending (λ k c. (in_places i k).0 ((are.exact k).0 c).0);
    exact = λ k. (
      λ c. elim (Contains-append_cases found (i ∷ []) k c) [
        | inl left ↦ let h = (are.exact k).0 left in (more_places i k h.0, h.1)
        | inr right ↦ let e = Contains-one i k right in ((in_places (i + 1) k).1 (omega (arith, e)), subst P e p)
      ],
      λ h. elim (last_or_before i k h.0) [
        | inl e ↦ Contains-append_right found (i ∷ []) k (subst (Contains (i ∷ [])) e (Contains-first i []))
        | inr c ↦ Contains-append_left found (i ∷ []) k ((are.exact k).1 (c, h.1))
      ],
    );
  }

  pub exactly_pass : (i : ℕ) (found : List ℕ) → AreExactly (places i) P found → (P i → ⊥) → AreExactly (places (i + 1)) P found
  exactly_pass i found are never = record {
    ascending = are.ascending;
    exact = λ k. (
      λ c. let h = (are.exact k).0 c in (more_places i k h.0, h.1),
      λ h. elim (last_or_before i k h.0) [ inl e ↦ absurd (never (subst P (sym e) h.1)) | inr c ↦ (are.exact k).1 (c, h.1) ],
    );
  }

-- ---- classes by their least places

module _ (order : Digraph) (leaders : List ℕ) (are : AreLeaders order leaders) where
  abbrev leader : ℕ → ℕ
  leader k = get_or leaders k 0

  pub leader_within : (k : ℕ) → k < order.nodes → leader k < order.nodes
  leader_within k h = let le = are.least k h k (Chain-refl (IsEdge order) k, Chain-refl (IsEdge order) k) in omega (arith, le, h)

  joined : (a b c : ℕ) → AreConnected order a b → AreConnected order b c → AreConnected order a c
  joined a b c p q = (Chain-trans (IsEdge order) a b c p.0 q.0, Chain-trans (IsEdge order) c b a q.1 p.1)

  -- connected places have one leader
  pub same_leader : (a b : ℕ) → a < order.nodes → b < order.nodes → AreConnected order a b → leader a ≡ leader b
  same_leader a b ha hb c = le_antisymm
      (are.least a ha (leader b) (joined a b (leader b) c (are.connected b hb)))
      (are.least b hb (leader a) (joined b a (leader a) (c.1, c.0) (are.connected a ha)))

  pub one_class : (a b : ℕ) → a < order.nodes → b < order.nodes → leader a ≡ leader b → AreConnected order a b
  one_class a b ha hb e =
      let p = are.connected a ha in
      let q = are.connected b hb in
      joined a (leader a) b p (subst (λ l. AreConnected order l b) (sym e) (q.1, q.0))

  pub is_least : (k : ℕ) → k < order.nodes → leader k ≡ k → IsLeast (places order.nodes) (Reaches order) k
  is_least k h e = record { least = λ b c m. subst (λ l. l ≤ b) e (are.least k h b m) }

  pub least_is : (k : ℕ) → k < order.nodes → IsLeast (places order.nodes) (Reaches order) k → leader k ≡ k
  least_is k h is = le_antisymm (are.least k h k (Chain-refl (IsEdge order) k, Chain-refl (IsEdge order) k))
      (is.least (leader k) ((in_places order.nodes (leader k)).1 (leader_within k h)) (are.connected k h))

  pub above_told : (b a : ℕ) → b < order.nodes → a < order.nodes → Reaches order a b → (leader b ≡ leader a → ⊥) → IsAbove order b a
  above_told b a hb ha up other = (up, λ back. other (same_leader b a hb ha (back, up)))

  pub told_above : (b a : ℕ) → b < order.nodes → a < order.nodes → IsAbove order b a → leader b ≡ leader a → ⊥
  told_above b a hb ha is e = is.1 (one_class b a hb ha e).0

  pub test_above : (b a : ℕ) → b < order.nodes → a < order.nodes → Reaches order a b → IsTrue (not (eqb (leader b) (leader a))) ↔ IsAbove order b a
  test_above b a hb ha up = by (eqb (leader b) (leader a)) refl
    where
      by : (t : Bool) → eqb (leader b) (leader a) ≡ t → IsTrue (not t) ↔ IsAbove order b a
      by true e = (λ h. absurd (true≢false (sym h)), λ is. absurd (told_above b a hb ha is (eqb-true (leader b) (leader a) e)))
      by false e = (λ h. above_told b a hb ha up (λ same. true≢false (sym (eq-eqb (leader b) (leader a) same) ∙ e)), λ is. refl)
