-- Lists made of lists: flattened, picked from, each item with a later one, and each with the next.
use Rattle.std.proofs.Common.{◌≡◌, zero, suc, List, [], ◌∷◌, ◌++◌, Option, Some, None, map, refl, sym, ap, subst, ◌∙◌, ⊎_elim, arith, zero-lt-suc}
use Rattle.std.specs.List.{All, AllPairs, Contains, flat_map, filter_map, zip, cons_option}
use Rattle.std.specs.Option.{MatchOption}
use Rattle.std.proofs.lemmas.List.Elements.{All-nil, All-cons, All-head, All-tail, All-append, All-map, Contains-append_left, Contains-append_right, Contains-append_cases}
use Rattle.std.proofs.lemmas.List.Kept.{AllPairs-cons}
use Rattle.dl_terms.specs.NormalForm.{ring, pairs}
use Rattle.dl_terms.proofs.MemberLemmas.{Contains-first, Contains-later, Contains-cons, Contains-nil, Contains-one}

pub Contains-flat_map : {A B : Type 0} (f : A → List B) (xs : List A) (x : A) (y : B) → Contains xs x → Contains (f x) y
    → Contains (flat_map f xs) y
Contains-flat_map f [] x y c h = absurd (Contains-nil x c)
Contains-flat_map f (z ∷ zs) x y c h =
    ⊎_elim (λ (same : z ≡ x). Contains-append_left (f z) (flat_map f zs) y (subst (λ w. Contains (f w) y) (sym same) h))
    (λ (later : Contains zs x). Contains-append_right (f z) (flat_map f zs) y (Contains-flat_map f zs x y later h)) (Contains-cons z x zs c)

pub Contains-map : {A B : Type 0} (f : A → B) (xs : List A) (x : A) → Contains xs x → Contains (map f xs) (f x)
Contains-map f [] x c = absurd (Contains-nil x c)
Contains-map f (y ∷ ys) x c =
    ⊎_elim (λ (same : y ≡ x). subst (λ z. Contains (f y ∷ map f ys) (f z)) same (Contains-first (f y) (map f ys)))
    (λ (later : Contains ys x). Contains-later (f y) (f x) (map f ys) (Contains-map f ys x later)) (Contains-cons y x ys c)

pub All-flat_map : {A B : Type 0} (P : B → Type 0) (f : A → List B) (xs : List A) → All (λ x. All P (f x)) xs → All P (flat_map f xs)
All-flat_map P f [] all = All-nil P
All-flat_map P f (x ∷ xs) all =
    All-append P (f x) (flat_map f xs) (All-head (λ x. All P (f x)) x xs all) (All-flat_map P f xs (All-tail (λ x. All P (f x)) x xs all))

pub All-filter_map : {A B : Type 0} (P : B → Type 0) (f : A → Option B) (xs : List A) → All (λ x. MatchOption (f x) (Unit {0}) P) xs
    → All P (filter_map f xs)
All-filter_map P f [] all = All-nil P
All-filter_map {A} {B} P f (x ∷ xs) all =
    by (f x) (All-head (λ x. MatchOption (f x) (Unit {0}) P) x xs all)
    (All-filter_map P f xs (All-tail (λ x. MatchOption (f x) (Unit {0}) P) x xs all))
  where
    by : (o : Option B) → MatchOption o (Unit {0}) P → All P (filter_map f xs) → All P (cons_option o (filter_map f xs))
    by None h rest = rest
    by (Some y) h rest = All-cons P y (filter_map f xs) h rest

-- the other way round: what holds of all that is made of items
pub All-of_map : {A B : Type 0} (P : B → Type 0) (f : A → B) (xs : List A) → All P (map f xs) → All (λ x. P (f x)) xs
All-of_map P f [] all = All-nil (λ x. P (f x))
All-of_map P f (x ∷ xs) all =
    All-cons (λ x. P (f x)) x xs (All-head P (f x) (map f xs) all) (All-of_map P f xs (All-tail P (f x) (map f xs) all))

pub All-split : {A : Type 0} (P : A → Type 0) (xs ys : List A) → All P (xs ++ ys) → All P xs × All P ys
All-split P [] ys all = (All-nil P, all)
All-split P (x ∷ xs) ys all =
    let rest = All-split P xs ys (All-tail P x (xs ++ ys) all) in
    (All-cons P x xs (All-head P x (xs ++ ys) all) rest.0, rest.1)

pub All-of_flat_map : {A B : Type 0} (P : B → Type 0) (f : A → List B) (xs : List A) → All P (flat_map f xs) → All (λ x. All P (f x)) xs
All-of_flat_map P f [] all = All-nil (λ x. All P (f x))
All-of_flat_map P f (x ∷ xs) all =
    let both = All-split P (f x) (flat_map f xs) all in
    All-cons (λ x. All P (f x)) x xs both.0 (All-of_flat_map P f xs both.1)

-- what is picked of an item is in what is picked of the list
pub Contains-filter_map : {A B : Type 0} (f : A → Option B) (xs : List A) (x : A) (y : B) → Contains xs x → f x ≡ Some y
    → Contains (filter_map f xs) y
Contains-filter_map f [] x y c e = absurd (Contains-nil x c)
Contains-filter_map {A} {B} f (z ∷ zs) x y c e =
    ⊎_elim (λ (same : z ≡ x). first (f z) (ap f same ∙ e))
    (λ (later : Contains zs x). more (f z) (Contains-filter_map f zs x y later e)) (Contains-cons z x zs c)
  where
    first : (o : Option B) → o ≡ Some y → Contains (cons_option o (filter_map f zs)) y
    first o h = subst (λ o. Contains (cons_option o (filter_map f zs)) y) (sym h) (Contains-first y (filter_map f zs))

    more : (o : Option B) → Contains (filter_map f zs) y → Contains (cons_option o (filter_map f zs)) y
    more None h = h
    more (Some w) h = Contains-later w y (filter_map f zs) h

-- what is picked comes from an item
pub Contains-picked : {A B : Type 0} (f : A → Option B) (xs : List A) (y : B) → Contains (filter_map f xs) y → (x : A) × Contains xs x × (f x ≡ Some y)
Contains-picked f [] y c = absurd (Contains-nil y c)
Contains-picked {A} {B} f (z ∷ zs) y c = by (f z) refl (Contains-picked f zs y) c
  where
    by : (o : Option B) → f z ≡ o → (Contains (filter_map f zs) y → (x : A) × Contains zs x × (f x ≡ Some y))
        → Contains (cons_option o (filter_map f zs)) y → (x : A) × Contains (z ∷ zs) x × (f x ≡ Some y)
    by None e rest h = let w = rest h in (w.0, Contains-later z w.0 zs w.1, w.2)
    by (Some v) e rest h =
        ⊎_elim (λ (same : v ≡ y). (z, Contains-first z zs, e ∙ ap (λ v. Some v) same))
        (λ (later : Contains (filter_map f zs) y). let w = rest later in (w.0, Contains-later z w.0 zs w.1, w.2))
        (Contains-cons v y (filter_map f zs) h)

-- ---- each with every later one

pub All-pairs : {A : Type 0} (R : A → A → Type 0) (xs : List A) → AllPairs R xs → All (λ p. R p.0 p.1) (pairs xs)
All-pairs R [] each = All-nil (λ p. R p.0 p.1)
All-pairs R (x ∷ xs) each =
    let first : All (R x) xs = λ k d lt. each zero (suc k) d (zero-lt-suc k) (omega (arith, lt)) in
    let rest : AllPairs R xs = λ i j d lt within. each (suc i) (suc j) d (omega (arith, lt)) (omega (arith, within)) in
    All-append (λ p. R p.0 p.1) (map (λ y. (x, y)) xs) (pairs xs) (All-map (λ p. R p.0 p.1) (λ y. (x, y)) xs first) (All-pairs R xs rest)

pub AllPairs-pairs : {A : Type 0} (R : A → A → Type 0) (xs : List A) → All (λ p. R p.0 p.1) (pairs xs) → AllPairs R xs
AllPairs-pairs R [] all = λ i j d lt within. absurd (omega (arith, within))
AllPairs-pairs R (x ∷ xs) all =
    let both = All-split (λ p. R p.0 p.1) (map (λ y. (x, y)) xs) (pairs xs) all in
    AllPairs-cons R x xs (All-of_map (λ p. R p.0 p.1) (λ y. (x, y)) xs both.0) (AllPairs-pairs R xs both.1)

-- ---- each with the next, and the last with the first

module _ {A : Type 0} (R : A → A → Type 0) (same : (x : A) → R x x) (join : (x y z : A) → R x y → R y z → R x z) where
  -- along a list that ends before an item, the first leads to each, and each to that item
  along : (x : A) (xs : List A) (end : A) → All (λ p. R p.0 p.1) (zip (x ∷ xs) (xs ++ end ∷ [])) → (y : A) → Contains (x ∷ xs) y → R x y × R y end
  along x [] end all y c =
      let e = Contains-one x y c in
      (subst (λ z. R x z) e (same x), subst (λ z. R z end) e (All-head (λ p. R p.0 p.1) (x, end) [] all))
  along x (z ∷ xs) end all y c =
      let step = All-head (λ p. R p.0 p.1) (x, z) (zip (z ∷ xs) (xs ++ end ∷ [])) all in
      let rest = along z xs end (All-tail (λ p. R p.0 p.1) (x, z) (zip (z ∷ xs) (xs ++ end ∷ [])) all) in
      ⊎_elim (λ (e : x ≡ y). (subst (λ w. R x w) e (same x), subst (λ w. R w end) e (join x z end step (rest z (Contains-first z xs)).1)))
      (λ (later : Contains (z ∷ xs) y). (join x z y step (rest y later).0, (rest y later).1)) (Contains-cons x y (z ∷ xs) c)

  -- of a ring each leads to each
  pub ring-leads : (xs : List A) → All (λ p. R p.0 p.1) (ring xs) → (y z : A) → Contains xs y → Contains xs z → R y z
  ring-leads [] all y z c d = absurd (Contains-nil y c)
  ring-leads (x ∷ xs) all y z c d = join y x z (along x xs x all y c).1 (along x xs x all z d).0

-- both of a pair of a ring are members
pub Contains-ring : {A : Type 0} (xs : List A) → All (λ p. Contains xs p.0 × Contains xs p.1) (ring xs)
Contains-ring [] = All-nil (λ p. Contains [] p.0 × Contains [] p.1)
Contains-ring {A} (x ∷ xs) = zipped (x ∷ xs) (xs ++ x ∷ []) (λ y c. c) back
  where
    zipped : (ys zs : List A) → ((y : A) → Contains ys y → Contains (x ∷ xs) y) → ((y : A) → Contains zs y → Contains (x ∷ xs) y)
        → All (λ p. Contains (x ∷ xs) p.0 × Contains (x ∷ xs) p.1) (zip ys zs)
    zipped [] zs f g = All-nil (λ p. Contains (x ∷ xs) p.0 × Contains (x ∷ xs) p.1)
    zipped (y ∷ ys) [] f g = All-nil (λ p. Contains (x ∷ xs) p.0 × Contains (x ∷ xs) p.1)
    zipped (y ∷ ys) (z ∷ zs) f g =
        All-cons (λ p. Contains (x ∷ xs) p.0 × Contains (x ∷ xs) p.1) (y, z) (zip ys zs) (f y (Contains-first y ys), g z (Contains-first z zs))
        (zipped ys zs (λ w c. f w (Contains-later y w ys c)) (λ w c. g w (Contains-later z w zs c)))

    back : (y : A) → Contains (xs ++ x ∷ []) y → Contains (x ∷ xs) y
    back y c =
        ⊎_elim (λ (early : Contains xs y). Contains-later x y xs early)
        (λ (last : Contains (x ∷ []) y). subst (Contains (x ∷ xs)) (Contains-one x y last) (Contains-first x xs)) (Contains-append_cases xs (x ∷ []) y c)
