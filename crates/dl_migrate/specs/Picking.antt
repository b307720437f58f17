-- The first items of a list that pass a test, with their places.
use Rattle.std.specs.Prelude.{◌≡◌, ℕ, suc, Bool, cond, List, [], ◌∷◌, take}
use Rattle.dl_migrate.specs.Lists.{first_that}

-- the places of the items that pass a test, where the list begins at a place
abbrev pub places_from : {A : Type 0} → ℕ → (A → Bool) → List A → List ℕ
places_from i p [] = []
places_from i p (x ∷ xs) = cond (p x) (i ∷ places_from (suc i) p xs) (places_from (suc i) p xs)

-- the first n items that pass, and their places
pub record ArePicked {A : Type 0} (n : ℕ) (p : A → Bool) (xs : List A) (places : List ℕ) (picked : List A)
    : Type 0 where
  pub places_are : places ≡ take n (places_from 0 p xs)
  pub items_are : picked ≡ first_that n p xs
