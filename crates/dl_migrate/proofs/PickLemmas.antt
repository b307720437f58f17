-- The first items that pass a test, gathered one after another.
use Rattle.std.proofs.Common.{◌≡◌, ℕ, suc, ◌+◌, ◌-◌, ◌≤◌, Bool, true, false, cond, List, [], ◌∷◌, ◌++◌, filter, take, drop, length, slice_get, Some, sym, ap, ap₂, ◌∙◌, arith, append_assoc, append-nil, length-append}
use Rattle.std.proofs.lemmas.List.{drop_all}
use Rattle.dl_migrate.specs.Lists.{first_that}
use Rattle.dl_migrate.specs.Picking.{places_from, ArePicked}
use Rattle.dl_migrate.proofs.ListLemmas.{take-nil, take_one, length-take_one, drop_read}

-- what is gathered from the items before a place, and what those from it on give
pub record Picking {A : Type 0} (n : ℕ) (p : A → Bool) (xs : List A) (i : ℕ) (places : List ℕ) (picked : List A) : Type 0 where
  pub places_are : take n (places_from 0 p xs) ≡ places ++ take (n - length places) (places_from i p (drop i xs))
  pub items_are : first_that n p xs ≡ picked ++ take (n - length places) (filter p (drop i xs))

module _ {A : Type 0} (n : ℕ) (p : A → Bool) (xs : List A) where
  pub Picking-none : Picking n p xs 0 [] []
  Picking-none = record {
    places_are = ap (λ m. take m (places_from 0 p xs)) (omega arith);
    items_are = ap (λ m. take m (filter p xs)) (omega arith);
  }

  -- in the end there are no more
  pub Picking-all : (i : ℕ) (places : List ℕ) (picked : List A) → length xs ≤ i → Picking n p xs i places picked → ArePicked n p xs places picked
  Picking-all i places picked h s =
      let m = n - length places in record {
        places_are = sym (s.places_are ∙ ap (λ ys. places ++ take m (places_from i p ys)) (drop_all i xs h) ∙ ap (λ ys. places ++ ys) (take-nil m) ∙ append-nil places);
        items_are = sym (s.items_are ∙ ap (λ ys. picked ++ take m (filter p ys)) (drop_all i xs h) ∙ ap (λ ys. picked ++ ys) (take-nil m) ∙ append-nil picked);
      }

  module _ (i : ℕ) (x : A) (read : slice_get xs i ≡ Some x) (places : List ℕ) (picked : List A) (s : Picking n p xs i places picked) where
    next : suc i ≡ i + 1
    next = omega arith

    here : drop i xs ≡ x ∷ drop (i + 1) xs
    here = drop_read xs i x read ∙ ap (λ k. x ∷ drop k xs) next

    -- by whether the item passes
    places_here : (b : Bool) → p x ≡ b
        → places_from i p (drop i xs) ≡ cond b (i ∷ places_from (i + 1) p (drop (i + 1) xs)) (places_from (i + 1) p (drop (i + 1) xs))
    places_here b e =
        ap (places_from i p) here
        ∙ ap₂ (λ c k. cond c (i ∷ places_from k p (drop (i + 1) xs)) (places_from k p (drop (i + 1) xs))) e next

    items_here : (b : Bool) → p x ≡ b
        → filter p (drop i xs) ≡ cond b (x ∷ filter p (drop (i + 1) xs)) (filter p (drop (i + 1) xs))
    items_here b e = ap (filter p) here ∙ ap (λ c. cond c (x ∷ filter p (drop (i + 1) xs)) (filter p (drop (i + 1) xs))) e

    pub Picking-skip : p x ≡ false → Picking n p xs (i + 1) places picked
    Picking-skip e =
        let m = n - length places in record {
          places_are = s.places_are ∙ ap (λ ys. places ++ take m ys) (places_here false e);
          items_are = s.items_are ∙ ap (λ ys. picked ++ take m ys) (items_here false e);
        }

    -- what was gathered with one item more, and the rest with one less
    one_more : {B : Type 0} (ys zs : List B) (y : B) (m k : ℕ) → k ≡ m - 1 → ys ++ take m (y ∷ zs) ≡ (ys ++ take m (y ∷ [])) ++ take k zs
    one_more ys zs y m k e =
        ap (λ ws. ys ++ ws) (take_one m y zs) ∙ sym (append_assoc ys (take m (y ∷ [])) (take (m - 1) zs))
        ∙ ap (λ j. (ys ++ take m (y ∷ [])) ++ take j zs) (sym e)

    pub Picking-more : (places' : List ℕ) (picked' : List A) → p x ≡ true → places' ≡ places ++ take (n - length places) (i ∷ [])
        → picked' ≡ picked ++ take (n - length places) (x ∷ []) → Picking n p xs (i + 1) places' picked'
    Picking-more places' picked' e are items =
        let m = n - length places in
        let less : n - length places' ≡ m - 1 =
        (let l = ap length are ∙ length-append places (take m (i ∷ [])) in let one = length-take_one m i in omega (arith, l, one)) in record {
          places_are = s.places_are ∙ ap (λ ys. places ++ take m ys) (places_here true e)
              ∙ one_more places (places_from (i + 1) p (drop (i + 1) xs)) i m (n - length places') less
              ∙ ap (λ ys. ys ++ take (n - length places') (places_from (i + 1) p (drop (i + 1) xs))) (sym are);
          items_are = s.items_are ∙ ap (λ ys. picked ++ take m ys) (items_here true e)
              ∙ one_more picked (filter p (drop (i + 1) xs)) x m (n - length places') less
              ∙ ap (λ ys. ys ++ take (n - length places') (filter p (drop (i + 1) xs))) (sym items);
        }
