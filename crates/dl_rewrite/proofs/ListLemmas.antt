-- What single functions find: the bit of a term, and a list whose items are changed one after another.
use Rattle.std.proofs.Common.{◌≡◌, ℕ, zero, suc, ◌<◌, true, false, not, List, [], ◌∷◌, ◌++◌, ◌⊎◌, length, map, take, drop, set, get_or, nat_eq, eqb-true, bit_and, ◌^◌, refl, sym, ap, ◌∙◌, inl, inr, arith}
use Rattle.dl_terms.specs.declared.query.Term.{Term}
use Rattle.dl_tree.specs.Sets.{is_in}
use Rattle.dl_tree.specs.Masks.{set_of, bit_of}
use Rattle.dl_tree.proofs.FoldLemmas.{true_or_false, not_both}
use Rattle.dl_tree.proofs.MaskLemmas.{in_from_bit, bit_from_in}

-- ---- the bit of a term

pub bit_tells : (ex : List ℕ) (m : ℕ) (u : Term) → m < 2 ^ length ex
    → not (nat_eq (bit_and (bit_of ex u) m) 0) ≡ is_in (set_of ex m) u
bit_tells ex m u fits = by (true_or_false (nat_eq (bit_and (bit_of ex u) m) 0)) (true_or_false (is_in (set_of ex m) u))
  where
    by : (nat_eq (bit_and (bit_of ex u) m) 0 ≡ true) ⊎ (nat_eq (bit_and (bit_of ex u) m) 0 ≡ false)
        → (is_in (set_of ex m) u ≡ true) ⊎ (is_in (set_of ex m) u ≡ false)
        → not (nat_eq (bit_and (bit_of ex u) m) 0) ≡ is_in (set_of ex m) u
    by (inl z) (inr n) = ap not z ∙ sym n
    by (inr z) (inl y) = ap not z ∙ sym y
    by (inl z) (inl y) = absurd (bit_from_in ex m u fits y (eqb-true (bit_and (bit_of ex u) m) 0 z))
    by (inr z) (inr n) =
        absurd (not_both (in_from_bit ex m u (λ e. not_both (ap (λ k. nat_eq k 0) e) z)) n)

-- ---- items changed one after another

module _ {A : Type 0} (f : A → A) where
  pub get_or-changed : (xs : List A) (i : ℕ) (d : A) → get_or (map f (take i xs) ++ drop i xs) i d ≡ get_or xs i d
  get_or-changed [] zero d = refl
  get_or-changed [] (suc i) d = refl
  get_or-changed (x ∷ xs) zero d = refl
  get_or-changed (x ∷ xs) (suc i) d = get_or-changed xs i d

  pub set-changed : (xs : List A) (i : ℕ) (d : A) → i < length xs
      → set (map f (take i xs) ++ drop i xs) i (f (get_or xs i d)) ≡ map f (take (suc i) xs) ++ drop (suc i) xs
  set-changed [] i d h = absurd (omega arith)
  set-changed (x ∷ xs) zero d h = refl
  set-changed (x ∷ xs) (suc i) d h = ap (λ rest. f x ∷ rest) (set-changed xs i d (omega arith))
