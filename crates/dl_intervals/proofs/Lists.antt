-- Lists by their first element, and the pigeonhole principle.
use Rattle.std.proofs.Common.{◌≡◌, ℕ, suc, zero, ◌+◌, ◌<◌, ◌≤◌, ◌⊎◌, inl, inr, List, [], ◌∷◌, length, get_or, refl, sym, ap, ◌∙◌, subst, arith}
use Rattle.std.proofs.lemmas.List.{get_or_default}
use Rattle.std.proofs.lemmas.Bool.{cases_order}
use Rattle.std.specs.List.{All, Any, AllPairs, remove}
use Rattle.std.proofs.lemmas.List.Edits.{length-remove, get_or-remove_below, get_or-remove_above}

Any-cons_at : {X : Type 0} (P : X → Type 0) (x : X) (xs : List X) (k : ℕ) (y : X) → k < length (x ∷ xs) → get_or (x ∷ xs) k y ≡ y → P y → P x ⊎ Any P xs
Any-cons_at P x xs zero y h e p = inl (subst P (sym e) p)
Any-cons_at P x xs (suc k) y h e p = inr (k, y, omega arith, e, p)

-- an element with P is the first one or a later one
pub Any-cons : {X : Type 0} (P : X → Type 0) (x : X) (xs : List X) → Any P (x ∷ xs) → P x ⊎ Any P xs
Any-cons P x xs w = Any-cons_at P x xs w.0 w.1 w.2 w.3 w.4

pub Any-first : {X : Type 0} (P : X → Type 0) (x : X) (xs : List X) → P x → Any P (x ∷ xs)
Any-first P x xs p = (0, x, omega arith, refl, p)

pub Any-later : {X : Type 0} (P : X → Type 0) (x : X) (xs : List X) → Any P xs → Any P (x ∷ xs)
Any-later P x xs w = (suc w.0, w.1, omega arith, w.3, w.4)

pub Any-nil : {X : Type 0} (P : X → Type 0) → Any P [] → ⊥
Any-nil P w = omega arith

pub AllPairs-head : {X : Type 0} (R : X → X → Type 0) (x : X) (xs : List X) → AllPairs R (x ∷ xs) → All (R x) xs
AllPairs-head R x xs all = λ k d h. all 0 (suc k) d (omega arith) (omega arith)

pub AllPairs-tail : {X : Type 0} (R : X → X → Type 0) (x : X) (xs : List X) → AllPairs R (x ∷ xs) → AllPairs R xs
AllPairs-tail R x xs all = λ i j d lt h. all (suc i) (suc j) d (omega arith) (omega arith)

-- an element with P at another index than the removed one stays
Any-remove : {X : Type 0} (P : X → Type 0) (xs : List X) (i k : ℕ) (y : X) → i < length xs → k < length xs → get_or xs k y ≡ y → P y → (k < i) ⊎ (i < k) → Any P (remove xs i)
Any-remove P xs i k y hi hk e p (inl lt) =
    (k, y, omega (arith, length-remove xs i hi), rw (get_or-remove_below xs i y k lt hi) e, p)
Any-remove P xs i zero y hi hk e p (inr gt) = absurd (omega arith)
Any-remove P xs i (suc k) y hi hk e p (inr gt) =
    (k, y, omega (arith, length-remove xs i hi), rw (get_or-remove_above xs i y k (omega arith) hi) (let same : k + 1 ≡ suc k = omega arith in rw same e), p)

-- what stands at one index of a list is one element
meet : {X : Type 0} (xs : List X) (i k : ℕ) (x y : X) → i < length xs → i ≡ k → get_or xs i x ≡ x → get_or xs k y ≡ y → y ≡ x
meet xs i k x y h same p q = sym q ∙ (ap (λ j. get_or xs j y) (sym same) ∙ (get_or_default xs i y x h ∙ p))

-- what is related to another element stands elsewhere, and stays when that index is removed
other : {X Y : Type 0} (R : X → Y → Type 0) (x z : X) (ys : List Y) (here : Any (R x) ys) → Any (R z) ys → ((y : Y) → R x y → R z y → ⊥) → Any (R z) (remove ys here.0)
other R x z ys here there never =
    elim (cases_order there.0 here.0) [
      | inl same ↦ absurd (never here.1 here.4 (subst (R z) (meet ys here.0 there.0 here.1 there.1 here.2 (sym same) here.3 there.3) there.4))
      | inr w ↦ Any-remove (R z) ys here.0 there.0 there.1 here.2 there.2 there.3 there.4 w
    ]

-- each of xs is related to one of ys, and nothing to two of xs: so xs are no more than ys
pub pigeonhole : {X Y : Type 0} (R : X → Y → Type 0) (xs : List X) (ys : List Y) → All (λ x. Any (R x) ys) xs → AllPairs (λ a b. (y : Y) → R a y → R b y → ⊥) xs → length xs ≤ length ys
pigeonhole R [] ys all apart = omega arith
pigeonhole {X} {Y} R (x ∷ xs) ys all apart =
    let here : Any (R x) ys = all 0 x (omega arith) in
    let rest : All (λ a. Any (R a) (remove ys here.0)) xs =
    λ k d h. other R x (get_or xs k d) ys here (all (suc k) d (omega arith)) (λ y p q. apart 0 (suc k) d (omega arith) (omega arith) y p q) in
    let fewer = pigeonhole R xs (remove ys here.0) rest (AllPairs-tail (λ a b. (y : Y) → R a y → R b y → ⊥) x xs apart) in
    omega (arith, fewer, length-remove ys here.0 here.2)
