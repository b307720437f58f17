-- Lists of numbers in which each stands once, the least by some measure of those that pass a test, and how many pass.
use Rattle.std.proofs.Common.{◌≡◌, ℕ, zero, suc, ◌+◌, ◌<◌, ◌≤◌, ◌⊎◌, inl, inr, Bool, true, false, cond, filter, List, [], ◌∷◌, ◌++◌, length, get_or, refl, sym, ap, subst, ◌∙◌, true≢false, lt_irrefl, length-append, arith}
use Rattle.std.specs.Bool.{⊤}
use Rattle.std.specs.List.{Contains}
use Rattle.std.specs.List.Sorted.{IsStrictlyIncreasing}
use Rattle.std.proofs.lemmas.Bool.{cases_lt}
use Rattle.std.proofs.lemmas.List.Elements.{Contains-append_left, Contains-append_right, Contains-append_cases}
use Rattle.std.proofs.lemmas.List.Kept.{AllPairs-from_increasing}
use Rattle.dl_terms.proofs.MemberLemmas.{Contains-nil, Contains-cons, Contains-first, Contains-later}

-- each stands at one place
abbrev pub IsDistinct : List ℕ → Type 0
IsDistinct [] = ⊤
IsDistinct (x ∷ xs) = (Contains xs x → ⊥) × IsDistinct xs

rest_rises : (x : ℕ) (xs : List ℕ) → IsStrictlyIncreasing (x ∷ xs) → IsStrictlyIncreasing xs
rest_rises x xs up k h =
    let next : suc k + 1 ≡ suc (k + 1) = omega arith in
    subst (λ i. get_or xs k 0 < get_or (x ∷ xs) i 0) next (up (suc k) (omega (arith, h)))

pub ascending_distinct : (xs : List ℕ) → IsStrictlyIncreasing xs → IsDistinct xs
ascending_distinct [] up = tt
ascending_distinct (x ∷ xs) up = (later, ascending_distinct xs (rest_rises x xs up))
  where
    later : Contains xs x → ⊥
    later c =
        let lt = AllPairs-from_increasing (x ∷ xs) up 0 (suc c.0) x (omega arith) (omega (arith, c.1)) in
        let same : get_or xs c.0 x ≡ x = c.2 in
        lt_irrefl x (subst (λ y. x < y) same lt)

pub append_distinct : (xs ys : List ℕ) → IsDistinct xs → IsDistinct ys → ((n : ℕ) → Contains xs n → Contains ys n → ⊥) → IsDistinct (xs ++ ys)
append_distinct [] ys one two apart = two
append_distinct (x ∷ xs) ys one two apart = (
  λ c. elim (Contains-append_cases xs ys x c) [ inl left ↦ one.0 left | inr right ↦ apart x (Contains-first x xs) right ],
  append_distinct xs ys one.1 two (λ n c d. apart n (Contains-later x n xs c) d),
)

pub one_place : (xs : List ℕ) (n i j : ℕ) → IsDistinct xs → i < length xs → j < length xs → get_or xs i n ≡ n → get_or xs j n ≡ n → i ≡ j
one_place [] n i j once hi hj at_i at_j = absurd (omega (arith, hi))
one_place (x ∷ xs) n zero zero once hi hj at_i at_j = refl
one_place (x ∷ xs) n zero (suc j) once hi hj at_i at_j = absurd (once.0 (subst (Contains xs) (sym at_i) (j, omega (arith, hj), at_j)))
one_place (x ∷ xs) n (suc i) zero once hi hj at_i at_j = absurd (once.0 (subst (Contains xs) (sym at_j) (i, omega (arith, hi), at_i)))
one_place (x ∷ xs) n (suc i) (suc j) once hi hj at_i at_j = ap suc (one_place xs n i j once.1 (omega (arith, hi)) (omega (arith, hj)) at_i at_j)

-- a list at one of its members
parted : (ys : List ℕ) (x : ℕ) → Contains ys x → (before : List ℕ) × (after : List ℕ) × (ys ≡ before ++ x ∷ after)
parted [] x c = absurd (Contains-nil x c)
parted (y ∷ ys) x c = by (Contains-cons y x ys c) (parted ys x)
  where
    later : (before : List ℕ) × (after : List ℕ) × (ys ≡ before ++ x ∷ after) → (before : List ℕ) × (after : List ℕ) × (y ∷ ys ≡ before ++ x ∷ after)
    later p = (y ∷ p.0, p.1, ap (λ zs. y ∷ zs) p.2)

    by : (y ≡ x) ⊎ Contains ys x → (Contains ys x → (before : List ℕ) × (after : List ℕ) × (ys ≡ before ++ x ∷ after))
        → (before : List ℕ) × (after : List ℕ) × (y ∷ ys ≡ before ++ x ∷ after)
    by (inl same) rest = ([], ys, ap (λ z. z ∷ ys) same)
    by (inr there) rest = later (rest there)

without : (x n : ℕ) (before after : List ℕ) → (x ≡ n → ⊥) → Contains (before ++ x ∷ after) n → Contains (before ++ after) n
without x n before after other c = by (Contains-append_cases before (x ∷ after) n c)
  where
    by : Contains before n ⊎ Contains (x ∷ after) n → Contains (before ++ after) n
    by (inl left) = Contains-append_left before after n left
    by (inr right) = elim (Contains-cons x n after right) [ inl same ↦ absurd (other same) | inr later ↦ Contains-append_right before after n later ]

-- numbers that stand once among others are no more than they
pub no_more : (xs ys : List ℕ) → IsDistinct xs → ((n : ℕ) → Contains xs n → Contains ys n) → length xs ≤ length ys
no_more [] ys once within = omega arith
no_more (x ∷ xs) ys once within = by (parted ys x (within x (Contains-first x xs))) (no_more xs)
  where
    by : (before : List ℕ) × (after : List ℕ) × (ys ≡ before ++ x ∷ after)
        → ((zs : List ℕ) → IsDistinct xs → ((n : ℕ) → Contains xs n → Contains zs n) → length xs ≤ length zs) → length (x ∷ xs) ≤ length ys
    by p fewer =
        let left = fewer (p.0 ++ p.1) once.1 (λ n c. without x n p.0 p.1 (λ same. once.0 (subst (Contains xs) (sym same) c))
        (subst (λ zs. Contains zs n) p.2 (within n (Contains-later x n xs c)))) in
        let whole = ap length p.2 in
        omega (arith, left, whole, length-append p.0 p.1, length-append p.0 (x ∷ p.1))

-- ---- how many pass a test

module _ (p q : ℕ → Bool) where
  pub passes_more : (xs : List ℕ) → ((n : ℕ) → Contains xs n → p n ≡ true → q n ≡ true) → length (filter p xs) ≤ length (filter q xs)
  passes_more [] more = omega arith
  passes_more (x ∷ xs) more = by (p x) (q x) refl refl (passes_more xs (λ n c. more n (Contains-later x n xs c)))
    where
      by : (s t : Bool) → p x ≡ s → q x ≡ t → length (filter p xs) ≤ length (filter q xs)
          → length (cond s (x ∷ filter p xs) (filter p xs)) ≤ length (cond t (x ∷ filter q xs) (filter q xs))
      by true true e f le = omega (arith, le)
      by true false e f le = absurd (true≢false (sym (more x (Contains-first x xs) e) ∙ f))
      by false true e f le = omega (arith, le)
      by false false e f le = le

  -- all that pass the one pass the other, and one more does
  pub passes_one_more : (xs : List ℕ) (y : ℕ) → ((n : ℕ) → Contains xs n → p n ≡ true → q n ≡ true) → Contains xs y → p y ≡ false → q y ≡ true
      → length (filter p xs) < length (filter q xs)
  passes_one_more [] y more c np qy = absurd (Contains-nil y c)
  passes_one_more (x ∷ xs) y more c np qy = at (Contains-cons x y xs c) (λ later. passes_one_more xs y (λ n d. more n (Contains-later x n xs d)) later np qy)
    where
      least : length (filter p xs) ≤ length (filter q xs)
      least = passes_more xs (λ n c. more n (Contains-later x n xs c))

      here : (s t : Bool) → p x ≡ s → q x ≡ t → x ≡ y → length (cond s (x ∷ filter p xs) (filter p xs)) < length (cond t (x ∷ filter q xs) (filter q xs))
      here true t e f same = absurd (true≢false (sym e ∙ ap p same ∙ np))
      here false true e f same = omega (arith, least)
      here false false e f same = absurd (true≢false (sym qy ∙ ap q (sym same) ∙ f))

      there : (s t : Bool) → p x ≡ s → q x ≡ t → length (filter p xs) < length (filter q xs)
          → length (cond s (x ∷ filter p xs) (filter p xs)) < length (cond t (x ∷ filter q xs) (filter q xs))
      there true true e f lt = omega (arith, lt)
      there true false e f lt = absurd (true≢false (sym (more x (Contains-first x xs) e) ∙ f))
      there false true e f lt = omega (arith, lt)
      there false false e f lt = lt

      at : (x ≡ y) ⊎ Contains xs y → (Contains xs y → length (filter p xs) < length (filter q xs)) → length (filter p (x ∷ xs)) < length (filter q (x ∷ xs))
      at (inl same) rest = here (p x) (q x) refl refl same
      at (inr later) rest = there (p x) (q x) refl refl (rest later)

-- ---- of those that pass a test, one of the least

module _ (t : ℕ → Bool) (measure : ℕ → ℕ) where
  pub record IsLeastOf (xs : List ℕ) (m : ℕ) : Type 0 where
    pub among : Contains xs m
    pub passes : t m ≡ true
    pub least : (n : ℕ) → Contains xs n → t n ≡ true → measure m ≤ measure n

  pub least_of : (xs : List ℕ) → ((m : ℕ) × IsLeastOf xs m) ⊎ ((n : ℕ) → Contains xs n → t n ≡ true → ⊥)
  least_of [] = inr (λ n c e. Contains-nil n c)
  least_of (x ∷ xs) = by (t x) refl (least_of xs)
    where
      kept : (m : ℕ) → IsLeastOf xs m → (t x ≡ true → measure m ≤ measure x) → IsLeastOf (x ∷ xs) m
      kept m is first = record {
        among = Contains-later x m xs is.among;
        passes = is.passes;
        least = λ n c e. elim (Contains-cons x n xs c) [
          | inl same ↦ subst (λ k. measure m ≤ measure k) same (first (ap t same ∙ e))
          | inr later ↦ is.least n later e
        ];
      }

      taken : t x ≡ true → ((n : ℕ) → Contains xs n → t n ≡ true → measure x ≤ measure n) → IsLeastOf (x ∷ xs) x
      taken e rest = record {
        among = Contains-first x xs;
        passes = e;
        least = λ n c f. elim (Contains-cons x n xs c) [
          | inl same ↦ subst (λ k. measure x ≤ measure k) same (omega arith)
          | inr later ↦ rest n later f
        ];
      }

      by : (s : Bool) → t x ≡ s → ((m : ℕ) × IsLeastOf xs m) ⊎ ((n : ℕ) → Contains xs n → t n ≡ true → ⊥)
          → ((m : ℕ) × IsLeastOf (x ∷ xs) m) ⊎ ((n : ℕ) → Contains (x ∷ xs) n → t n ≡ true → ⊥)
      by true e (inr none) = inl (x, taken e (λ n c f. absurd (none n c f)))
      by false e (inl best) = inl (best.0, kept best.0 best.1 (λ f. absurd (true≢false (sym f ∙ e))))
      by false e (inr none) = inr (λ n c f. elim (Contains-cons x n xs c) [
        | inl same ↦ true≢false (sym f ∙ ap t (sym same) ∙ e)
        | inr later ↦ none n later f
      ])
      by true e (inl best) = elim (cases_lt (measure x) (measure best.0)) [
        | inl lt ↦ inl (x, taken e (λ n c f. let l = best.1.least n c f in omega (arith, lt, l)))
        | inr le ↦ inl (best.0, kept best.0 best.1 (λ f. le))
      ]
