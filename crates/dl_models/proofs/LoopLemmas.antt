-- A loop over the numbers below a bound, or over a list, that tests each and leaves at the first that fails or passes.
use Rattle.std.proofs.Common.{◌≡◌, ℕ, ◌+◌, ◌<◌, ◌≤◌, ◌⊎◌, ◌↔◌, Bool, true, false, List, length, take, get_or, refl, sym, subst, ◌∙◌, ⊎_elim, true≢false, arith}
use Rattle.std.specs.List.{All}
use Rattle.std.proofs.lemmas.List.{take_more, take_all}
use Rattle.std.proofs.lemmas.List.Elements.{All-push}

-- what failed a test doesn't hold
pub fails : {P : Type 0} (b : Bool) → (b ≡ true) ↔ P → b ≡ false → ¬ P
fails b exact e h = true≢false (sym (exact.1 h) ∙ e)

pub below_or_at : (k n : ℕ) → k < n + 1 → (k < n) ⊎ (n ≡ k)
below_or_at k n lt = grind arith

module _ (P : ℕ → Type 0) where
  -- one more number
  pub more : (n : ℕ) → ((k : ℕ) → k < n → P k) → P n → (k : ℕ) → k < n + 1 → P k
  more n each last k lt = ⊎_elim (λ (early : k < n). each k early) (λ (same : n ≡ k). subst P same last) (below_or_at k n lt)

  pub all-true : (n i : ℕ) → n ≤ i → ((k : ℕ) → k < i → P k) → (true ≡ true) ↔ ((k : ℕ) → k < n → P k)
  all-true n i long each = (λ e k lt. each k (omega (arith, lt, long)), λ h. refl)

  pub all-false : (n k : ℕ) → k < n → ¬ P k → (false ≡ true) ↔ ((k : ℕ) → k < n → P k)
  all-false n k lt failed = (λ e. absurd (true≢false (sym e)), λ h. absurd (failed (h k lt)))

  pub any-false : (n i : ℕ) → n ≤ i → ((k : ℕ) → k < i → ¬ P k) → (false ≡ true) ↔ ((k : ℕ) × (k < n) × P k)
  any-false n i long none = (λ e. absurd (true≢false (sym e)), λ h. absurd (none h.0 (omega (arith, h.1, long)) h.2))

-- a loop in a loop
module _ (Q : ℕ → ℕ → Type 0) where
  pub two-true : (n i : ℕ) → n ≤ i → ((x : ℕ) → x < i → (y : ℕ) → y < n → Q x y) → (true ≡ true) ↔ ((x y : ℕ) → x < n → y < n → Q x y)
  two-true n i long each = (λ e x y lx ly. each x (omega (arith, lx, long)) y ly, λ h. refl)

  pub two-false : (n x : ℕ) → x < n → ¬ ((y : ℕ) → y < n → Q x y) → (false ≡ true) ↔ ((x y : ℕ) → x < n → y < n → Q x y)
  two-false n x lt failed = (λ e. absurd (true≢false (sym e)), λ h. absurd (failed (λ y ly. h x y lt ly)))

-- over a list
module _ {A : Type 0} (P : A → Type 0) where
  pub All-more : (xs : List A) (i : ℕ) (d : A) → i < length xs → All P (take i xs) → P (get_or xs i d) → All P (take (i + 1) xs)
  All-more xs i d lt all last = subst (All P) (sym (take_more xs i d lt)) (All-push P (take i xs) (get_or xs i d) all last)

  pub list-true : (xs : List A) (i : ℕ) → length xs ≤ i → All P (take i xs) → (true ≡ true) ↔ All P xs
  list-true xs i long all = (λ e. subst (All P) (take_all i xs long) all, λ h. refl)

  pub list-false : (xs : List A) (i : ℕ) (d : A) → i < length xs → ¬ P (get_or xs i d) → (false ≡ true) ↔ All P xs
  list-false xs i d lt failed = (λ e. absurd (true≢false (sym e)), λ h. absurd (failed (h i d lt)))
