-- Rings and pairs of operands.
use Rattle.std.proofs.Common.{◌≡◌, ℕ, zero, suc, ◌+◌, ◌*◌, ◌-◌, ◌/◌, ◌<◌, ◌≤◌, List, [], ◌∷◌, ◌++◌, zip, map, length, get_or, take, drop, refl, sym, ap, ◌∙◌, arith, length-append, length-drop, append_assoc, mul_assoc, mul_left_comm}
use Rattle.std.proofs.lemmas.List.{length-map, map-append, at_drop_more, at_drop_all, take_all}
use Rattle.dl_terms.specs.NormalForm.{ring, pairs}

-- one with the first of a list, each of the list with the next, and its last with another
abbrev pub links : {A : Type 0} → A → List A → A → List (A × A)
links one [] end = (one, end) ∷ []
links one (x ∷ xs) end = (one, x) ∷ links x xs end

pub ring-links : {A : Type 0} (x : A) (xs : List A) → ring (x ∷ xs) ≡ links x xs x
ring-links {A} x xs = by x xs
  where
    by : (y : A) (ys : List A) → zip (y ∷ ys) (ys ++ x ∷ []) ≡ links y ys x
    by y [] = refl
    by y (z ∷ zs) = ap (λ l. (y, z) ∷ l) (by z zs)

length-links : {A : Type 0} (x : A) (xs : List A) (end : A) → length (links x xs end) ≡ suc (length xs)
length-links x [] end = refl
length-links x (y ∷ ys) end = ap suc (length-links y ys end)

-- a ring has as many links as operands
pub length-ring : {A : Type 0} (xs : List A) → length (ring xs) ≡ length xs
length-ring [] = refl
length-ring (x ∷ xs) = ap length (ring-links x xs) ∙ length-links x xs x

twice_pairs : {A : Type 0} (xs : List A) → 2 * length (pairs xs) + length xs ≡ length xs * length xs
twice_pairs [] = refl
twice_pairs (x ∷ xs) =
    let split : length (pairs (x ∷ xs)) ≡ length xs + length (pairs xs) =
    length-append (map (λ y. (x, y)) xs) (pairs xs) ∙ ap (λ n. n + length (pairs xs)) (length-map xs (λ y. (x, y))) in
    more (length xs) (length (pairs xs)) (length (pairs (x ∷ xs))) split (twice_pairs xs)
  where
    more : (n p q : ℕ) → q ≡ n + p → 2 * p + n ≡ n * n → 2 * q + suc n ≡ suc n * suc n
    more n p q e h = omega (arith, e, h)

-- half of the pairs of different places
pub length-pairs : {A : Type 0} (xs : List A) → length (pairs xs) ≡ length xs * (length xs - 1) / 2
length-pairs xs = half (length xs) (length (pairs xs)) (twice_pairs xs)
  where
    half : (n p : ℕ) → 2 * p + n ≡ n * n → p ≡ n * (n - 1) / 2
    half zero p e = omega (arith, e)
    half (suc m) p e =
        let twice : 2 * p ≡ suc m * m = omega (arith, e) in
        let before : suc m - 1 ≡ m = omega arith in
        let halved : p ≡ suc m * m / 2 = omega (arith, twice) in
        halved ∙ ap (λ k. suc m * k / 2) (sym before)

-- the pairs of an even number of operands, and of an odd one
pub half_even : (n h : ℕ) → n ≡ 2 * h → h * (n - 1) ≡ n * (n - 1) / 2
half_even n h e =
    let twice : n * (n - 1) ≡ 2 * (h * (n - 1)) = ap (λ k. k * (n - 1)) e ∙ mul_assoc 2 h (n - 1) in
    omega (arith, twice)

pub half_odd : (n h : ℕ) → n ≡ 2 * h + 1 → n * h ≡ n * (n - 1) / 2
half_odd n h e =
    let before : n - 1 ≡ 2 * h = omega (arith, e) in
    let twice : n * (n - 1) ≡ 2 * (n * h) = ap (λ k. n * k) before ∙ mul_left_comm n 2 h in
    omega (arith, twice)

-- ---- steps of the loops

-- the next link of a ring
pub links-more : {A : Type 0} (rows : List (A × A)) (one : A) (xs : List A) (i : ℕ) (end d : A) → i < length xs
    → rows ++ links one (drop i xs) end ≡ (rows ++ (one, get_or xs i d) ∷ []) ++ links (get_or xs i d) (drop (i + 1) xs) end
links-more rows one xs i end d within =
    at_drop_more (λ l. rows ++ links one l end) xs i d within
    ∙ sym (append_assoc rows ((one, get_or xs i d) ∷ []) (links (get_or xs i d) (drop (i + 1) xs) end))

-- the last link
pub links-all : {A : Type 0} (rows : List (A × A)) (one : A) (xs : List A) (i : ℕ) (end : A) → length xs ≤ i
    → rows ++ links one (drop i xs) end ≡ rows ++ (one, end) ∷ []
links-all rows one xs i end all = at_drop_all (λ l. rows ++ links one l end) xs i all

-- the pairs of the next operand with all later ones
pub pairs-more : {A B : Type 0} (f : A × A → B) (rows : List B) (xs : List A) (i : ℕ) (d : A) → i < length xs
    → rows ++ map f (pairs (drop i xs)) ≡ (rows ++ map (λ y. f (get_or xs i d, y)) (drop (i + 1) xs)) ++ map f (pairs (drop (i + 1) xs))
pairs-more {A} {B} f rows xs i d within =
    at_drop_more (λ l. rows ++ map f (pairs l)) xs i d within
    ∙ ap (λ l. rows ++ l) (map-append f (map (λ y. (get_or xs i d, y)) (drop (i + 1) xs)) (pairs (drop (i + 1) xs))
    ∙ ap (λ l. l ++ map f (pairs (drop (i + 1) xs))) (after (get_or xs i d) (drop (i + 1) xs)))
    ∙ sym (append_assoc rows (map (λ y. f (get_or xs i d, y)) (drop (i + 1) xs)) (map f (pairs (drop (i + 1) xs))))
  where
    after : (x : A) (ys : List A) → map f (map (λ y. (x, y)) ys) ≡ map (λ y. f (x, y)) ys
    after x [] = refl
    after x (y ∷ ys) = ap (λ l. f (x, y) ∷ l) (after x ys)

pub pairs-step : {A B : Type 0} (f : A × A → B) (start old new : List B) (xs : List A) (i : ℕ) (x : A) → i < length xs → x ≡ get_or xs i x
    → old ++ map f (pairs (drop i xs)) ≡ start → new ≡ old ++ map (λ y. f (x, y)) (take (length xs - (i + 1)) (drop (i + 1) xs))
    → new ++ map f (pairs (drop (i + 1) xs)) ≡ start
pairs-step f start old new xs i x within at so_far pushed =
    let rest : take (length xs - (i + 1)) (drop (i + 1) xs) ≡ drop (i + 1) xs =
    take_all (length xs - (i + 1)) (drop (i + 1) xs) (omega (arith, length-drop (i + 1) xs)) in
    ap (λ l. l ++ map f (pairs (drop (i + 1) xs)))
    (pushed ∙ ap (λ l. old ++ map (λ y. f (x, y)) l) rest ∙ ap (λ z. old ++ map (λ y. f (z, y)) (drop (i + 1) xs)) at)
    ∙ sym (pairs-more f old xs i x within) ∙ so_far
