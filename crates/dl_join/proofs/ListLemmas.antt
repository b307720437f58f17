-- Items of a list with a property, in lists that are joined or filtered.
use Rattle.std.proofs.Common.{◌≡◌, ℕ, zero, suc, ◌+◌, ◌<◌, ◌⊎◌, inl, inr, List, [], ◌∷◌, ◌++◌, length, get_or, refl, sym, subst, ◌∙◌, arith, length-append}
use Rattle.std.specs.List.{All, Any, Contains}
use Rattle.std.proofs.lemmas.List.{get_or_append_left, get_or-append-add}

module _ {X : Type 0} (P : X → Type 0) where
  pub Any-append_left : (xs ys : List X) → Any P xs → Any P (xs ++ ys)
  Any-append_left xs ys w =
      let size = length-append xs ys in
      let inside = w.2 in
      (w.0, w.1, omega arith, get_or_append_left xs ys w.1 w.0 w.2 ∙ w.3, w.4)

  pub Any-append_right : (xs ys : List X) → Any P ys → Any P (xs ++ ys)
  Any-append_right xs ys w =
      let size = length-append xs ys in
      let inside = w.2 in
      (length xs + w.0, w.1, omega arith, get_or-append-add xs ys w.0 w.1 ∙ w.3, w.4)

  pub Any-nil : Any P [] → ⊥
  Any-nil w = let inside = w.2 in omega arith

  pub Any-first : (x : X) (xs : List X) → P x → Any P (x ∷ xs)
  Any-first x xs p = (0, x, omega arith, refl, p)

  pub Any-later : (x : X) (xs : List X) → Any P xs → Any P (x ∷ xs)
  Any-later x xs w = (suc w.0, w.1, (let inside = w.2 in omega arith), w.3, w.4)

  Any-cons_at : (x : X) (xs : List X) (k : ℕ) (y : X) → k < length (x ∷ xs) → get_or (x ∷ xs) k y ≡ y → P y → P x ⊎ Any P xs
  Any-cons_at x xs zero y h e p = inl (subst P (sym e) p)
  Any-cons_at x xs (suc k) y h e p = inr (k, y, omega arith, e, p)

  pub Any-cons : (x : X) (xs : List X) → Any P (x ∷ xs) → P x ⊎ Any P xs
  Any-cons x xs w = Any-cons_at x xs w.0 w.1 w.2 w.3 w.4

  pub Any-Contains : (xs : List X) (x : X) → Contains xs x → P x → Any P xs
  Any-Contains xs x w p = (w.0, x, w.1, w.2, p)

  pub Any-append_cases : (xs ys : List X) → Any P (xs ++ ys) → Any P xs ⊎ Any P ys
  Any-append_cases [] ys w = inr w
  Any-append_cases (x ∷ xs) ys w = elim (Any-cons x (xs ++ ys) w) [
    | inl here ↦ inl (Any-first x xs here)
    | inr later ↦ elim (Any-append_cases xs ys later) [ inl left ↦ inl (Any-later x xs left) | inr right ↦ inr right ]
  ]

  -- what holds of each item and what some item has
  pub All-Any : (Q : X → Type 0) (xs : List X) → All P xs → Any Q xs → Any (λ x. P x × Q x) xs
  All-Any Q xs all w = (w.0, w.1, w.2, w.3, (subst P w.3 (all w.0 w.1 w.2), w.4))

pub Any-weaker : {X : Type 0} (P Q : X → Type 0) → ((x : X) → P x → Q x) → (xs : List X) → Any P xs → Any Q xs
Any-weaker P Q f xs w = (w.0, w.1, w.2, w.3, f w.1 w.4)

module _ {X : Type 0} (P : X → Type 0) where
  pub All-left : (xs ys : List X) → All P (xs ++ ys) → All P xs
  All-left xs ys all = λ k d h.
      let size = length-append xs ys in
      subst P (get_or_append_left xs ys d k h) (all k d (omega arith))

  pub All-right : (xs ys : List X) → All P (xs ++ ys) → All P ys
  All-right xs ys all = λ k d h.
      let size = length-append xs ys in
      subst P (get_or-append-add xs ys k d) (all (length xs + k) d (omega arith))
