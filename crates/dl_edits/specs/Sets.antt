-- Sets as lists that have each item once, by an order that tells items apart. They are this project's own.
use Rattle.std.specs.Prelude.{◌≤◌, Bool, not, cond, List, [], ◌∷◌}
use Rattle.std.specs.List.{filter, list_any}
use Rattle.std.specs.declared.cmp.Ordering.{Ordering}
use Rattle.std.specs.Ordering.{is_eq}
use Rattle.dl_row.specs.Lists.{count, put}

-- a list has an item
abbrev pub has : {A : Type 0} → (A → A → Ordering) → List A → A → Bool
has cmp xs x = list_any (λ y. is_eq (cmp x y)) xs

-- each item once
pub record IsOnce {A : Type 0} (cmp : A → A → Ordering) (xs : List A) : Type 0 where
  pub at_most : (x : A) → count (λ y. is_eq (cmp x y)) xs ≤ 1

-- a set with one more item, and without one
abbrev pub with_item : {A : Type 0} → (A → A → Ordering) → A → List A → List A
with_item cmp x xs = cond (has cmp xs x) xs (put cmp x xs)

abbrev pub without_item : {A : Type 0} → (A → A → Ordering) → A → List A → List A
without_item cmp x xs = filter (λ y. not (is_eq (cmp x y))) xs

-- a set with the items of a list
abbrev pub with_items : {A : Type 0} → (A → A → Ordering) → List A → List A → List A
with_items cmp [] xs = xs
with_items cmp (y ∷ ys) xs = with_items cmp ys (with_item cmp y xs)
