-- The loops over places: tables that grow by an entry for each place, and lists that grow from the last place down.
use Rattle.std.proofs.Common.{◌≡◌, ℕ, zero, suc, ◌+◌, ◌<◌, ◌≤◌, ◌↔◌, inl, inr, List, [], ◌∷◌, ◌++◌, length, length-append, get_or, refl, sym, subst, arith}
use Rattle.std.specs.List.{Contains}
use Rattle.std.specs.List.Sorted.{IsStrictlyIncreasing}
use Rattle.std.proofs.lemmas.Bool.{cases_lt}
use Rattle.dl_terms.proofs.MemberLemmas.{Contains-nil, Contains-cons, Contains-first, Contains-later}
use Rattle.dl_numbers.specs.DepthFirst.{AreExactly}
use Rattle.dl_numbers.specs.Places.{places}
use Rattle.dl_numbers.proofs.PlaceLemmas.{in_places}

-- ---- an entry for each place

-- the entries of a table so far
pub record AreTold {A : Type 0} (d : A) (Tells : ℕ → A → Type 0) (i : ℕ) (found : List A) : Type 0 where
  pub count : length found ≡ i
  pub each : (k : ℕ) → k < i → Tells k (get_or found k d)

at_last : {A : Type 0} (xs : List A) (x d : A) → get_or (xs ++ x ∷ []) (length xs) d ≡ x
at_last [] x d = refl
at_last (y ∷ xs) x d = at_last xs x d

at_before : {A : Type 0} (xs : List A) (x d : A) (k : ℕ) → k < length xs → get_or (xs ++ x ∷ []) k d ≡ get_or xs k d
at_before [] x d k h = absurd (omega (arith, h))
at_before (y ∷ xs) x d zero h = refl
at_before (y ∷ xs) x d (suc k) h = at_before xs x d k (omega (arith, h))

module _ {A : Type 0} (d : A) (Tells : ℕ → A → Type 0) where
  pub told_none : AreTold d Tells 0 []
  told_none = record { count = refl; each = λ k h. absurd (omega (arith, h)) }

  pub told_more : (i : ℕ) (found : List A) (x : A) → AreTold d Tells i found → Tells i x → AreTold d Tells (i + 1) (found ++ x ∷ [])
  told_more i found x are t = record {
    count = let e = are.count in omega (arith, e, length-append found (x ∷ []));
    each = λ k h. elim (cases_lt k i) [
      | inl lt ↦ subst (Tells k) (sym (at_before found x d k (let e = are.count in omega (arith, e, lt)))) (are.each k lt)
      | inr le ↦ let e : i ≡ k = omega (arith, h, le) in
          subst (λ j. Tells j (get_or (found ++ x ∷ []) j d)) e
          (subst (λ j. Tells i (get_or (found ++ x ∷ []) j d)) are.count (subst (Tells i) (sym (at_last found x d)) t))
    ];
  }

-- ---- from the last place down

-- the places from one on of which something holds, ascending
pub record AreFrom (n i : ℕ) (P : ℕ → Type 0) (found : List ℕ) : Type 0 where
  pub ascending : IsStrictlyIncreasing found
  pub exact : (k : ℕ) → Contains found k ↔ ((i ≤ k) × (k < n) × P k)

rises_in_front : (i : ℕ) (xs : List ℕ) → IsStrictlyIncreasing xs → ((k : ℕ) → Contains xs k → i < k) → IsStrictlyIncreasing (i ∷ xs)
rises_in_front i [] up large k h = absurd (omega (arith, h))
rises_in_front i (x ∷ xs) up large zero h = large x (Contains-first x xs)
rises_in_front i (x ∷ xs) up large (suc k) h =
    let next : suc k + 1 ≡ suc (k + 1) = omega arith in
    subst (λ j. get_or (x ∷ xs) k 0 < get_or (i ∷ x ∷ xs) j 0) (sym next) (up k (omega (arith, h)))

module _ (n : ℕ) (P : ℕ → Type 0) where
  pub from_end : AreFrom n n P []
  from_end = record {
    ascending = λ k h. absurd (omega (arith, h));
    exact = λ k. (λ c. absurd (Contains-nil k c), λ h. absurd (let a = h.0 in let b = h.1 in omega (arith, a, b)));
  }

  pub from_more : (i : ℕ) (found : List ℕ) → i < n → AreFrom n (i + 1) P found → P i → AreFrom n i P (i ∷ found)
  from_more i found within are p = record {
    ascending = rises_in_front i found are.ascending (λ k c. let h = ((are.exact k).0 c).0 in omega (arith, h));
    exact = λ k. (
      λ c. elim (Contains-cons i k found c) [
        | inl e ↦ (omega (arith, e), omega (arith, e, within), subst P e p)
        | inr later ↦ let h = (are.exact k).0 later in (let a = h.0 in omega (arith, a), h.1, h.2)
      ],
      λ h. elim (cases_lt i k) [
        | inl lt ↦ Contains-later i k found ((are.exact k).1 (omega (arith, lt), h.1, h.2))
        | inr le ↦ let a = h.0 in let e : i ≡ k = omega (arith, le, a) in subst (Contains (i ∷ found)) e (Contains-first i found)
      ],
    );
  }

  pub from_pass : (i : ℕ) (found : List ℕ) → AreFrom n (i + 1) P found → (P i → ⊥) → AreFrom n i P found
  from_pass i found are never = record {
    ascending = are.ascending;
    exact = λ k. (
      λ c. let h = (are.exact k).0 c in (let a = h.0 in omega (arith, a), h.1, h.2),
      λ h. elim (cases_lt i k) [
        | inl lt ↦ (are.exact k).1 (omega (arith, lt), h.1, h.2)
        | inr le ↦ let a = h.0 in let e : k ≡ i = omega (arith, le, a) in absurd (never (subst P e h.2))
      ],
    );
  }

  pub from_all : (found : List ℕ) → AreFrom n 0 P found → AreExactly (places n) P found
  from_all found are = record {
    ascending = are.ascending;
    exact = λ k. (
      λ c. let h = (are.exact k).0 c in ((in_places n k).1 h.1, h.2),
      λ h. (are.exact k).1 (omega arith, (in_places n k).0 h.0, h.1),
    );
  }
