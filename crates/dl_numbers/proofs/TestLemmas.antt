-- Orders of names that a test tells: other tests tell which class is a root, and which is whose child, and so the names
-- that the depth-first rule asks for are those that pass one.
use Rattle.std.proofs.Common.{◌≡◌, ℕ, ◌≤◌, ◌↔◌, inl, inr, Bool, true, false, not, ◌&&◌, ◌||◌, cond, ◌==◌, nat_le, filter, List, [], ◌∷◌, refl, sym, ap, subst, ◌∙◌, true≢false, arith}
use Rattle.std.specs.List.{Contains, list_all, list_any}
use Rattle.std.specs.Ordering.{nat_cmp}
use Rattle.std.specs.List.Sorted.{IsStrictlyIncreasing}
use Rattle.std.proofs.lemmas.Bool.{eq-eqb, eqb-true, le-leb}
use Rattle.std.proofs.lemmas.Bool.Decides.{nat_tests}
use Rattle.std.proofs.lemmas.List.Kept.{IsStrictlySortedBy-filter}
use Rattle.std.proofs.lemmas.Map.Keys.{sorted_from_strictly_increasing, IsStrictlyIncreasing-from_sorted}
use Rattle.dl_terms.proofs.MemberLemmas.{Contains-nil, Contains-cons, Contains-first, Contains-later}
use Rattle.dl_numbers.specs.DepthFirst.{AreExactly, IsLeast, AreEquivalent, IsStrictlyAbove, IsLeastAbove, IsParent, IsRoot, IsChild}

-- ---- what a test tells

abbrev pub Tells : Bool → Type 0 → Type 0
Tells t P = P ↔ (t ≡ true)

module _ (P Q : Type 0) where
  pub tells_and : (s t : Bool) → Tells s P → Tells t Q → Tells (s && t) (P × Q)
  tells_and true t p q = (λ h. q.0 h.1, λ e. (p.1 refl, q.1 e))
  tells_and false t p q = (λ h. p.0 h.0, λ e. cc)

  pub tells_then : (s t : Bool) → Tells s P → Tells t Q → Tells (not s || t) (P → Q)
  tells_then true t p q = (λ h. q.0 (h (p.1 refl)), λ e h. q.1 e)
  tells_then false t p q = (λ h. refl, λ e h. absurd (true≢false (sym (p.0 h))))

pub tells_not : (P : Type 0) (s : Bool) → Tells s P → Tells (not s) (P → ⊥)
tells_not P true p = (λ h. absurd (h (p.1 refl)), λ e. cc)
tells_not P false p = (λ h. refl, λ e h. true≢false (sym (p.0 h)))

pub tells_le : (m n : ℕ) → Tells (nat_le m n) (m ≤ n)
tells_le m n = (λ h. le-leb m n h, λ e. grind (arith, nat_tests))

module _ (P : ℕ → Type 0) (t : ℕ → Bool) (tells : (n : ℕ) → Tells (t n) (P n)) where
  pub tells_all : (names : List ℕ) → Tells (list_all t names) ((n : ℕ) → Contains names n → P n)
  tells_all [] = (λ h. refl, λ e n c. absurd (Contains-nil n c))
  tells_all (x ∷ names) = by (t x) (tells x) (tells_all names)
    where
      by : (s : Bool) → Tells s (P x) → Tells (list_all t names) ((n : ℕ) → Contains names n → P n)
          → Tells (s && list_all t names) ((n : ℕ) → Contains (x ∷ names) n → P n)
      by true one rest = (
        λ h. rest.0 (λ n c. h n (Contains-later x n names c)),
        λ e n c. elim (Contains-cons x n names c) [ inl same ↦ subst P same (one.1 refl) | inr later ↦ rest.1 e n later ],
      )
      by false one rest = (λ h. one.0 (h x (Contains-first x names)), λ e n c. absurd (true≢false (sym e)))

pub tells_member : (names : List ℕ) (n : ℕ) → Tells (list_any (λ x. x == n) names) (Contains names n)
tells_member [] n = (λ c. absurd (Contains-nil n c), λ e. absurd (true≢false (sym e)))
tells_member (x ∷ names) n = by (x == n) refl (tells_member names n)
  where
    by : (s : Bool) → (x == n) ≡ s → Tells (list_any (λ y. y == n) names) (Contains names n) → Tells (s || list_any (λ y. y == n) names) (Contains (x ∷ names) n)
    by true e rest = (λ c. refl, λ f. subst (Contains (x ∷ names)) (eqb-true x n e) (Contains-first x names))
    by false e rest = (
      λ c. elim (Contains-cons x n names c) [ inl same ↦ absurd (true≢false (sym (eq-eqb x n same) ∙ e)) | inr later ↦ rest.0 later ],
      λ f. Contains-later x n names (rest.1 f),
    )

-- ---- the names that pass a test

module _ (names : List ℕ) (up : IsStrictlyIncreasing names) (P : ℕ → Type 0) (t : ℕ → Bool) (tells : (n : ℕ) → Tells (t n) (P n)) where
  kept : (xs : List ℕ) (n : ℕ) → Contains (filter t xs) n ↔ (Contains xs n × (t n ≡ true))
  kept [] n = (λ c. absurd (Contains-nil n c), λ h. absurd (Contains-nil n h.0))
  kept (x ∷ xs) n = by (t x) refl (kept xs n)
    where
      by : (s : Bool) → t x ≡ s → Contains (filter t xs) n ↔ (Contains xs n × (t n ≡ true))
          → Contains (cond s (x ∷ filter t xs) (filter t xs)) n ↔ (Contains (x ∷ xs) n × (t n ≡ true))
      by true e rest = (
        λ c. elim (Contains-cons x n (filter t xs) c) [
          | inl same ↦ (subst (Contains (x ∷ xs)) same (Contains-first x xs), ap t (sym same) ∙ e)
          | inr later ↦ let r = rest.0 later in (Contains-later x n xs r.0, r.1)
        ],
        λ h. elim (Contains-cons x n xs h.0) [
          | inl same ↦ subst (Contains (x ∷ filter t xs)) same (Contains-first x (filter t xs))
          | inr later ↦ Contains-later x n (filter t xs) (rest.1 (later, h.1))
        ],
      )
      by false e rest = (
        λ c. let r = rest.0 c in (Contains-later x n xs r.0, r.1),
        λ h. elim (Contains-cons x n xs h.0) [
          | inl same ↦ absurd (true≢false (sym h.1 ∙ ap t (sym same) ∙ e))
          | inr later ↦ rest.1 (later, h.1)
        ],
      )

  exactly : AreExactly names P (filter t names)
  exactly = record {
    ascending = IsStrictlyIncreasing-from_sorted (filter t names) (IsStrictlySortedBy-filter nat_cmp t names (sorted_from_strictly_increasing names up));
    exact = λ n. (λ c. let k = (kept names n).0 c in (k.0, (tells n).1 k.1), λ h. (kept names n).1 (h.0, (tells n).0 h.1));
  }

-- ---- roots and children

module _ (names : List ℕ) (up : IsStrictlyIncreasing names) (Below : ℕ → ℕ → Type 0) (below : ℕ → ℕ → Bool) (tells : (x y : ℕ) → Tells (below x y) (Below x y)) where
  abbrev pub is_equivalent : ℕ → ℕ → Bool
  is_equivalent x y = below x y && below y x

  pub tells_equivalent : (x y : ℕ) → Tells (is_equivalent x y) (AreEquivalent names Below x y)
  tells_equivalent x y = tells_and (Below x y) (Below y x) (below x y) (below y x) (tells x y) (tells y x)

  abbrev pub is_least : ℕ → Bool
  is_least x = list_all (λ y. not (is_equivalent x y) || nat_le x y) names

  pub tells_least : (x : ℕ) → Tells (is_least x) (IsLeast names Below x)
  tells_least x =
      let all = tells_all (λ y. AreEquivalent names Below x y → x ≤ y) (λ y. not (is_equivalent x y) || nat_le x y)
      (λ y. tells_then (AreEquivalent names Below x y) (x ≤ y) (is_equivalent x y) (nat_le x y) (tells_equivalent x y) (tells_le x y)) names in
      (λ h. all.0 h.least, λ e. record { least = all.1 e })

  abbrev pub is_above : ℕ → ℕ → Bool
  is_above y x = below x y && not (below y x)

  pub tells_above : (y x : ℕ) → Tells (is_above y x) (IsStrictlyAbove names Below y x)
  tells_above y x = tells_and (Below x y) (Below y x → ⊥) (below x y) (not (below y x)) (tells x y) (tells_not (Below y x) (below y x) (tells y x))

  abbrev pub is_first_above : ℕ → ℕ → Bool
  is_first_above y x = list_any (λ z. z == y) names && (is_above y x && list_all (λ z. not (is_above z x) || (not (below z y) || below y z)) names)

  pub tells_first_above : (y x : ℕ) → Tells (is_first_above y x) (IsLeastAbove names Below y x)
  tells_first_above y x =
      let least = tells_all (λ z. IsStrictlyAbove names Below z x → Below z y → Below y z) (λ z. not (is_above z x) || (not (below z y) || below y z))
      (λ z. tells_then (IsStrictlyAbove names Below z x) (Below z y → Below y z) (is_above z x) (not (below z y) || below y z) (tells_above z x)
      (tells_then (Below z y) (Below y z) (below z y) (below y z) (tells z y) (tells y z))) names in
      let rest = tells_and (IsStrictlyAbove names Below y x) ((z : ℕ) → Contains names z → IsStrictlyAbove names Below z x → Below z y → Below y z)
      (is_above y x) (list_all (λ z. not (is_above z x) || (not (below z y) || below y z)) names) (tells_above y x) least in
      let all = tells_and (Contains names y) (IsStrictlyAbove names Below y x × ((z : ℕ) → Contains names z → IsStrictlyAbove names Below z x → Below z y → Below y z))
      (list_any (λ z. z == y) names) (is_above y x && list_all (λ z. not (is_above z x) || (not (below z y) || below y z)) names) (tells_member names y) rest in
      (λ h. all.0 (h.among, (h.above, h.least)), λ e. let h = all.1 e in record { among = h.0; above = h.1.0; least = h.1.1 })

  abbrev pub is_parent : ℕ → ℕ → Bool
  is_parent y x = is_first_above y x && list_all (λ z. not (is_first_above z x) || nat_le y z) names

  pub tells_parent : (y x : ℕ) → Tells (is_parent y x) (IsParent names Below y x)
  tells_parent y x =
      let first = tells_all (λ z. IsLeastAbove names Below z x → y ≤ z) (λ z. not (is_first_above z x) || nat_le y z)
      (λ z. tells_then (IsLeastAbove names Below z x) (y ≤ z) (is_first_above z x) (nat_le y z) (tells_first_above z x) (tells_le y z)) names in
      let all = tells_and (IsLeastAbove names Below y x) ((z : ℕ) → Contains names z → IsLeastAbove names Below z x → y ≤ z)
      (is_first_above y x) (list_all (λ z. not (is_first_above z x) || nat_le y z) names) (tells_first_above y x) first in
      (λ h. all.0 (h.above, λ z c. h.first z), λ e. let h = all.1 e in record { above = h.0; first = λ z l. h.1 z l.among l })

  abbrev pub is_root : ℕ → Bool
  is_root x = is_least x && list_all (λ y. not (is_parent y x)) names

  pub tells_root : (x : ℕ) → Tells (is_root x) (IsRoot names Below x)
  tells_root x =
      let no = tells_all (λ y. IsParent names Below y x → ⊥) (λ y. not (is_parent y x)) (λ y. tells_not (IsParent names Below y x) (is_parent y x) (tells_parent y x)) names in
      let all = tells_and (IsLeast names Below x) ((y : ℕ) → Contains names y → IsParent names Below y x → ⊥) (is_least x) (list_all (λ y. not (is_parent y x)) names) (tells_least x) no in
      (λ h. all.0 (h.least, λ y c. h.no_parent y), λ e. let h = all.1 e in record { least = h.0; no_parent = λ y p. h.1 y p.above.among p })

  abbrev pub is_child : ℕ → ℕ → Bool
  is_child y x = is_least x && is_parent y x

  pub tells_child : (y x : ℕ) → Tells (is_child y x) (IsChild names Below y x)
  tells_child y x =
      let all = tells_and (IsLeast names Below x) (IsParent names Below y x) (is_least x) (is_parent y x) (tells_least x) (tells_parent y x) in
      (λ h. all.0 (h.least, h.parent), λ e. let h = all.1 e in record { least = h.0; parent = h.1 })

  pub members_are : (x : ℕ) → AreExactly names (AreEquivalent names Below x) (filter (is_equivalent x) names)
  members_are x = exactly names up (AreEquivalent names Below x) (is_equivalent x) (tells_equivalent x)

  pub children_are : (x : ℕ) → AreExactly names (IsChild names Below x) (filter (is_child x) names)
  children_are x = exactly names up (IsChild names Below x) (is_child x) (tells_child x)

  pub roots_are : AreExactly names (IsRoot names Below) (filter is_root names)
  roots_are = exactly names up (IsRoot names Below) is_root tells_root
