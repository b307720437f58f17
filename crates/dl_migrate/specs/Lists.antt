-- Lists of which the first items that pass a test are changed or dropped.
use Rattle.std.specs.Prelude.{ℕ, zero, suc, Bool, cond, List, [], ◌∷◌, filter, take}

-- f of the first n items that pass a test, and the others as they are
abbrev pub change_first : {A : Type 0} → ℕ → (A → Bool) → (A → A) → List A → List A
change_first n p f [] = []
change_first zero p f (x ∷ xs) = x ∷ xs
change_first (suc n) p f (x ∷ xs) = cond (p x) (f x ∷ change_first n p f xs) (x ∷ change_first (suc n) p f xs)

-- all but the first n items that pass a test
abbrev pub drop_first : {A : Type 0} → ℕ → (A → Bool) → List A → List A
drop_first n p [] = []
drop_first zero p (x ∷ xs) = x ∷ xs
drop_first (suc n) p (x ∷ xs) = cond (p x) (drop_first n p xs) (x ∷ drop_first (suc n) p xs)

-- the first n items that pass a test
abbrev pub first_that : {A : Type 0} → ℕ → (A → Bool) → List A → List A
first_that n p xs = take n (filter p xs)
