-- Lists as bags, which a count of each item tells, and lists in order.
use Rattle.std.specs.Prelude.{◌≡◌, ◌==◌, ℕ, suc, ◌+◌, Bool, false, cond, List, [], ◌∷◌}
use Rattle.std.specs.List.{list_any, AllByRecursion}
use Rattle.std.specs.declared.cmp.Ordering.{Ordering}
use Rattle.std.specs.declared.option.Option.{Option}
use Rattle.std.specs.declared.option.Option.TheVariants.{Some, None}
use Rattle.std.specs.Ordering.{is_gt}

-- how many items pass a test
abbrev pub count : {A : Type 0} → (A → Bool) → List A → ℕ
count p [] = 0
count p (x ∷ xs) = cond (p x) 1 0 + count p xs

-- an item put where it belongs in an ascending list
abbrev pub put : {A : Type 0} → (A → A → Ordering) → A → List A → List A
put cmp x [] = x ∷ []
put cmp x (y ∷ ys) = cond (is_gt (cmp x y)) (y ∷ put cmp x ys) (x ∷ y ∷ ys)

-- the items of a list, ascending
abbrev pub ordered : {A : Type 0} → (A → A → Ordering) → List A → List A
ordered cmp [] = []
ordered cmp (x ∷ xs) = put cmp x (ordered cmp xs)

-- each item stands so to those after it
abbrev pub InOrder : {A : Type 0} → (A → A → Type 0) → List A → Type 0
InOrder R [] = Unit {0}
InOrder R (x ∷ xs) = AllByRecursion (R x) xs × InOrder R xs

-- no item comes after a greater one
abbrev pub Ascends : {A : Type 0} → (A → A → Ordering) → List A → Type 0
Ascends cmp = InOrder (λ x y. is_gt (cmp x y) ≡ false)

-- the items but those at given places, where the list begins at a place
abbrev pub left_from : {A : Type 0} → ℕ → List ℕ → List A → List A
left_from i places [] = []
left_from i places (x ∷ xs) =
    cond (list_any (λ p. p == i) places) (left_from (suc i) places xs) (x ∷ left_from (suc i) places xs)

-- the items but those at given places
abbrev pub left_of : {A : Type 0} → List ℕ → List A → List A
left_of = left_from 0

abbrev pub first_some : {A : Type 0} → Option A → Option A → Option A
first_some None b = b
first_some (Some a) b = Some a

-- the last item that passes a test
abbrev pub last_where : {A : Type 0} → (A → Bool) → List A → Option A
last_where p [] = None
last_where p (x ∷ xs) = first_some (last_where p xs) (cond (p x) (Some x) None)
