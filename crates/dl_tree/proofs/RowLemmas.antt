-- What rows of bits tell.
use Rattle.std.proofs.Common.{◌≡◌, ℕ, ◌*◌, ◌<◌, ◌≤◌, ◌⊎◌, ◌↔◌, Bool, true, false, ◌||◌, List, length, refl, sym, ap, ◌∙◌, inl, inr, arith}
use Rattle.dl_reach.specs.Rows.{row_has}
use Rattle.dl_tree.specs.Rows.{HasBit, TellsRow}

-- what a bit says in other words
pub TellsRow-same : (P Q : ℕ → Type 0) (n : ℕ) (row : List ℕ) → ((i : ℕ) → i < n → P i ↔ Q i) → TellsRow n P row → TellsRow n Q row
TellsRow-same P Q n row same tells = record {
  as_many = tells.as_many;
  each = λ i l. (λ h. (same i l).0 ((tells.each i l).0 h), λ p. (tells.each i l).1 ((same i l).1 p));
}

-- one of two bits
one_of : (a b : Bool) → (a || b) ≡ true → (a ≡ true) ⊎ (b ≡ true)
one_of true b e = inl e
one_of false b e = inr e

pub of_one : (a b : Bool) → (a ≡ true) ⊎ (b ≡ true) → (a || b) ≡ true
of_one true b h = refl
of_one false b (inl e) = absurd (differ e)
  where
    differ : false ≡ true → ⊥
    differ e = cc
of_one false b (inr e) = e

-- a row that another is put to
pub joined_tells : (n : ℕ) (P : ℕ → Type 0) (old other new : List ℕ) → n ≤ 64 * length old → length new ≡ length old
    → ((i : ℕ) → i < 64 * length old → row_has new i ≡ (row_has old i || row_has other i)) → ((i : ℕ) → i < n → HasBit other i ↔ P i)
    → TellsRow n (λ i. HasBit old i ⊎ P i) new
joined_tells n P old other new wide len bits told = record {
  as_many = omega (arith, wide, len);
  each = λ i l. (
    λ h. split i l (one_of (row_has old i) (row_has other i) (sym (bits i (omega (arith, wide, l))) ∙ h)),
    λ h. bits i (omega (arith, wide, l)) ∙ of_one (row_has old i) (row_has other i) (both i l h),
  );
}
  where
    split : (i : ℕ) → i < n → (row_has old i ≡ true) ⊎ (row_has other i ≡ true) → HasBit old i ⊎ P i
    split i l (inl h) = inl h
    split i l (inr h) = inr ((told i l).0 h)

    both : (i : ℕ) → i < n → HasBit old i ⊎ P i → (row_has old i ≡ true) ⊎ (row_has other i ≡ true)
    both i l (inl h) = inl h
    both i l (inr p) = inr ((told i l).1 p)

-- a row put to one without bits
pub copy_tells : (n : ℕ) (old other new : List ℕ) → n ≤ 64 * length old → ((i : ℕ) → row_has old i ≡ false) → length new ≡ length old
    → ((i : ℕ) → i < 64 * length old → row_has new i ≡ (row_has old i || row_has other i)) → TellsRow n (HasBit other) new
copy_tells n old other new wide none len bits = record {
  as_many = omega (arith, wide, len);
  each = λ i l. let e = bits i (omega (arith, wide, l)) ∙ ap (λ b. b || row_has other i) (none i) in (λ h. sym e ∙ h, λ h. e ∙ h);
}
