-- Lists that ascend strictly: where their items stand, how they are joined, and how long they are.
use Rattle.std.proofs.Common.{◌≡◌, ℕ, ◌<◌, ◌≤◌, List, [], ◌∷◌, ◌++◌, map, length, get_or, All, Contains, remove, sym, ap, ◌∙◌, true≢false, zero-le, arith, ⊎_elim}
use Rattle.std.specs.declared.cmp.Ordering.{Ordering}
use Rattle.std.specs.declared.cmp.Ordering.TheVariants.{Less}
use Rattle.std.specs.Ordering.{is_lt}
use Rattle.std.specs.Cmp.{IsTotalOrder, tied_itself}
use Rattle.std.specs.List.Sorted.{IsStrictlySortedBy}
use Rattle.std.proofs.lemmas.Bool.{cases_lt}
use Rattle.std.proofs.lemmas.List.Elements.{All-from_recursion, recursion_from_All, All-append, All-head, All-tail, All-map, All-weaker, All-cons, All-nil, All-contains}
use Rattle.std.proofs.lemmas.List.Sorted.{IsPermutation-remove, Contains-permutation, length_permutation}
use Rattle.std.proofs.lemmas.Map.Keys.{Less-from_sorted}
use Rattle.dl_terms.specs.Sets.{IsSetOf}
use Rattle.dl_terms.proofs.MemberLemmas.{Contains-first, Contains-later, Contains-cons}

-- ---- joined lists

pub sorted-append : {A : Type 0} (R : A → A → Ordering) (xs ys : List A) → IsStrictlySortedBy R xs → IsStrictlySortedBy R ys
    → All (λ x. All (λ y. R x y ≡ Less) ys) xs → IsStrictlySortedBy R (xs ++ ys)
unfolding IsStrictlySortedBy
sorted-append R [] ys up up' across = up'
sorted-append R (x ∷ xs) ys up up' across =
    let below_all = All-append (λ y. R x y ≡ Less) xs ys (All-from_recursion (λ y. R x y ≡ Less) xs up.0)
    (All-head (λ z. All (λ y. R z y ≡ Less) ys) x xs across) in (
      recursion_from_All (λ y. R x y ≡ Less) (xs ++ ys) below_all,
      sorted-append R xs ys up.1 up' (All-tail (λ z. All (λ y. R z y ≡ Less) ys) x xs across),
    )

pub sorted-push : {A : Type 0} (R : A → A → Ordering) (xs : List A) (y : A) → IsStrictlySortedBy R xs → All (λ x. R x y ≡ Less) xs
    → IsStrictlySortedBy R (xs ++ y ∷ [])
unfolding IsStrictlySortedBy
sorted-push R xs y up below_y =
    sorted-append R xs (y ∷ []) up (tt, tt)
    (All-weaker (λ x. R x y ≡ Less) (λ x. All (λ z. R x z ≡ Less) (y ∷ []))
    (λ x h. All-cons (λ z. R x z ≡ Less) y [] h (All-nil (λ z. R x z ≡ Less))) xs below_y)

pub sorted-map : {A B : Type 0} (R : A → A → Ordering) (S : B → B → Ordering) (f : A → B) → ((x y : A) → S (f x) (f y) ≡ R x y)
    → (xs : List A) → IsStrictlySortedBy R xs → IsStrictlySortedBy S (map f xs)
unfolding IsStrictlySortedBy
sorted-map R S f same [] up = tt
sorted-map R S f same (x ∷ xs) up = (
  recursion_from_All (λ y. S (f x) y ≡ Less) (map f xs)
      (All-map (λ y. S (f x) y ≡ Less) f xs
      (All-weaker (λ y. R x y ≡ Less) (λ y. S (f x) (f y) ≡ Less) (λ y h. same x y ∙ h) xs (All-from_recursion (λ y. R x y ≡ Less) xs up.0))),
  sorted-map R S f same xs up.1,
)

-- ---- where items stand

module _ {A : Type 0} {R : A → A → Ordering} (total : IsTotalOrder R) where
  pub not_itself : (x y : A) → R x y ≡ Less → x ≡ y → ⊥
  not_itself x y less same = true≢false (ap is_lt (sym less ∙ ap (R x) (sym same) ∙ tied_itself total x))

  pub one_index : (xs : List A) → IsStrictlySortedBy R xs → (d : A) (i j : ℕ) → i < length xs → j < length xs
      → get_or xs i d ≡ get_or xs j d → i ≡ j
  one_index xs up d i j i_in j_in same =
      ⊎_elim (λ (lt : i < j). absurd (not_itself (get_or xs i d) (get_or xs j d) (Less-from_sorted R xs i j d up lt j_in) same))
      (λ (ge : j ≤ i). ⊎_elim
      (λ (lt : j < i). absurd (not_itself (get_or xs j d) (get_or xs i d) (Less-from_sorted R xs j i d up lt i_in) (sym same)))
      (λ (le : i ≤ j). omega arith) (cases_lt j i))
      (cases_lt i j)

  -- ---- how long

  -- a list that ascends strictly is no longer than one that has its items
  pub no_longer : (xs ys : List A) → IsStrictlySortedBy R xs → ((x : A) → Contains xs x → Contains ys x) → length xs ≤ length ys
  unfolding IsStrictlySortedBy
  no_longer [] ys up within = zero-le
  no_longer (x ∷ xs) ys up within =
      let c : Contains ys x = within x (Contains-first x xs) in
      let moved = IsPermutation-remove ys c.0 x c.1 (sym c.2) in
      let long = length_permutation ys (x ∷ remove ys c.0) moved in
      let rest = no_longer xs (remove ys c.0) up.1 (λ z h.
      let later = All-contains (λ y. R x y ≡ Less) xs z (All-from_recursion (λ y. R x y ≡ Less) xs up.0) h in
      ⊎_elim (λ (same : x ≡ z). absurd (not_itself x z later same)) (λ (there : Contains (remove ys c.0) z). there)
      (Contains-cons x z (remove ys c.0) (Contains-permutation ys (x ∷ remove ys c.0) z moved (within z (Contains-later x z xs h))))) in
      omega (arith, long, rest)

  pub IsSetOf-no_longer : (set items : List A) → IsSetOf R set items → length set ≤ length items
  IsSetOf-no_longer set items is = no_longer set items is.ascending (λ x. (is.members x).0)
