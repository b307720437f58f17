-- Pieces of one width: how many there are, what stands in them, and one more at the end.
use Rattle.std.proofs.Common.{◌≡◌, ℕ, zero, suc, ◌+◌, ◌*◌, ◌<◌, ◌≤◌, List, [], ◌∷◌, ◌++◌, length, take, drop, get_or, slice_index_or, refl, ap, sym, subst, ◌∙◌, arith, length-drop, get_or-take, get_or-drop}
use Rattle.std.specs.List.{All}
use Rattle.std.proofs.lemmas.List.{take-append-le, drop-append-le, take_all, length-take-le}
use Rattle.std.proofs.lemmas.List.Elements.{All-nil, All-cons}
use Rattle.dl_terms.specs.Table.{Table, cut}

pub length-cut : (w n : ℕ) (xs : List ℕ) → length (cut w n xs) ≡ n
length-cut w zero xs = refl
length-cut w (suc n) xs = ap suc (length-cut w n (drop w xs))

-- an index in a piece is below the end of all pieces
pub index_below : (i n j w : ℕ) → i < n → j < w → i * w + j < n * w
index_below i n j w h k = grind arith

pub cut-at : (w n : ℕ) (xs : List ℕ) (i j : ℕ) → length xs ≡ n * w → i < n → j < w
    → get_or (slice_index_or (cut w n xs) i []) j 0 ≡ get_or xs (i * w + j) 0
cut-at w zero xs i j e h k = absurd (omega arith)
cut-at w (suc n) xs zero j e h k = let z : 0 * w + j ≡ j = omega arith in rw (get_or-take, z)
cut-at w (suc n) xs (suc i) j e h k =
    let l : length (drop w xs) ≡ n * w = omega (arith, length-drop w xs) in
    let s : suc i * w + j ≡ w + (i * w + j) = omega arith in
    let b : i < n = omega arith in
    cut-at w n (drop w xs) i j l b k ∙ rw (s, get_or-drop)

pub cut-append : (w n : ℕ) (xs ys : List ℕ) → length xs ≡ n * w → length ys ≡ w
    → cut w (suc n) (xs ++ ys) ≡ cut w n xs ++ ys ∷ []
cut-append w zero [] ys e f = let t : take w ys ≡ ys = take_all w ys (omega arith) in ap (λ z. z ∷ []) t
cut-append w zero (x ∷ xs) ys e f = absurd (omega arith)
cut-append w (suc n) xs ys e f =
    let l : length (drop w xs) ≡ n * w = omega (arith, length-drop w xs) in
    let le : w ≤ length xs = omega arith in
    let ih = cut-append w n (drop w xs) ys l f in
    rw (take-append-le w xs ys le, drop-append-le w xs ys le, ih)

-- a table that is seen as `t`
abbrev pub table : ℕ → ℕ → List ℕ → Table
table w n xs = record { width = w; tuples = cut w n xs }

-- the name at an index of a table is one of the names of its tuples
pub table_index : (t : Table) (w n : ℕ) (xs : List ℕ) (i j : ℕ) → table w n xs ≡ t → length xs ≡ n * w → i < length t.tuples
    → j < t.width → (i * w + j < length xs) × (get_or (slice_index_or t.tuples i []) j 0 ≡ get_or xs (i * w + j) 0)
table_index t w n xs i j is e h k =
    let count : length t.tuples ≡ n = ap (λ z. length z.tuples) (sym is) ∙ length-cut w n xs in
    let below : i < n = omega arith in
    let width : w ≡ t.width = ap (λ z. z.width) is in
    let within : j < w = omega arith in (
      omega (arith, index_below i n j w below within),
      ap (λ z. get_or (slice_index_or z.tuples i []) j 0) (sym is) ∙ cut-at w n xs i j e below within,
    )

-- one more tuple in the names is one more in the table
pub table_push : (t : Table) (w n m : ℕ) (xs ys tuple : List ℕ) → table w n xs ≡ t → length xs ≡ n * w → length tuple ≡ t.width
    → ys ≡ xs ++ tuple → m ≡ n + 1 → cut w m ys ≡ t.tuples ++ tuple ∷ []
table_push t w n m xs ys tuple is e h grown more =
    let width : w ≡ t.width = ap (λ z. z.width) is in
    let f : length tuple ≡ w = omega arith in
    let s : m ≡ suc n = omega arith in
    rw (s, grown, cut-append w n xs tuple e f) (ap (λ z. z.tuples ++ tuple ∷ []) is)

-- each piece has the width
pub all-cut : (w n : ℕ) (xs : List ℕ) → length xs ≡ n * w → All (λ t. length t ≡ w) (cut w n xs)
all-cut w zero xs e = All-nil (λ t. length t ≡ w)
all-cut w (suc n) xs e =
    let l : length (drop w xs) ≡ n * w = omega (arith, length-drop w xs) in
    All-cons (λ t. length t ≡ w) (take w xs) (cut w n (drop w xs)) (length-take-le w xs (omega arith)) (all-cut w n (drop w xs) l)

-- each tuple of a table has the table's width
pub table_widths : (t : Table) (w n : ℕ) (xs : List ℕ) → table w n xs ≡ t → length xs ≡ n * w → All (λ tuple. length tuple ≡ t.width) t.tuples
table_widths t w n xs is e = subst (λ z. All (λ tuple. length tuple ≡ z.width) z.tuples) is (all-cut w n xs e)
