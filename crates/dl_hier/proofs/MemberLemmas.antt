-- What is in mapped and flattened lists, and where it stands.
use Rattle.std.proofs.Common.{◌≡◌, ℕ, ◌+◌, ◌<◌, List, [], ◌∷◌, ◌++◌, map, flat_map, length, get_or, All, Contains, sym, ap, subst, ◌∙◌, ⊎_elim, arith, length-append}
use Rattle.std.proofs.lemmas.List.{length-map, get_or-map, get_or_append_left, get_or-append-add, get_or_default}
use Rattle.std.proofs.lemmas.List.Elements.{All-nil, All-append, All-head, All-tail, Contains-append_left, Contains-append_right, Contains-append_cases}
use Rattle.dl_terms.proofs.MemberLemmas.{Contains-first, Contains-later, Contains-cons, Contains-nil}
use Rattle.dl_hier.specs.Nodes.{StandsAt}

pub Contains-map : {A B : Type 0} (f : A → B) (xs : List A) (y : B) → Contains (map f xs) y → (x : A) × Contains xs x × (f x ≡ y)
Contains-map f [] y c = absurd (Contains-nil y c)
Contains-map f (x ∷ xs) y c =
    ⊎_elim (λ (same : f x ≡ y). (x, Contains-first x xs, same))
    (λ (later : Contains (map f xs) y). let w = Contains-map f xs y later in (w.0, Contains-later x w.0 xs w.1, w.2))
    (Contains-cons (f x) y (map f xs) c)

pub Contains-map_of : {A B : Type 0} (f : A → B) (xs : List A) (x : A) → Contains xs x → Contains (map f xs) (f x)
Contains-map_of f [] x c = absurd (Contains-nil x c)
Contains-map_of f (y ∷ ys) x c =
    ⊎_elim (λ (same : y ≡ x). subst (λ z. Contains (f y ∷ map f ys) (f z)) same (Contains-first (f y) (map f ys)))
    (λ (later : Contains ys x). Contains-later (f y) (f x) (map f ys) (Contains-map_of f ys x later)) (Contains-cons y x ys c)

pub Contains-flat_map : {A B : Type 0} (f : A → List B) (xs : List A) (y : B) → Contains (flat_map f xs) y → (x : A) × Contains xs x × Contains (f x) y
Contains-flat_map f [] y c = absurd (Contains-nil y c)
Contains-flat_map f (x ∷ xs) y c =
    ⊎_elim (λ (here : Contains (f x) y). (x, Contains-first x xs, here))
    (λ (later : Contains (flat_map f xs) y). let w = Contains-flat_map f xs y later in (w.0, Contains-later x w.0 xs w.1, w.2))
    (Contains-append_cases (f x) (flat_map f xs) y c)

pub Contains-flat_map_of : {A B : Type 0} (f : A → List B) (xs : List A) (x : A) (y : B) → Contains xs x → Contains (f x) y → Contains (flat_map f xs) y
Contains-flat_map_of f [] x y c h = absurd (Contains-nil x c)
Contains-flat_map_of f (z ∷ zs) x y c h =
    ⊎_elim (λ (same : z ≡ x). Contains-append_left (f z) (flat_map f zs) y (subst (λ w. Contains (f w) y) (sym same) h))
    (λ (later : Contains zs x). Contains-append_right (f z) (flat_map f zs) y (Contains-flat_map_of f zs x y later h)) (Contains-cons z x zs c)

pub All-flat_map : {A B : Type 0} (P : B → Type 0) (Q : A → Type 0) (f : A → List B) → ((x : A) → Q x → All P (f x)) → (xs : List A) → All Q xs
    → All P (flat_map f xs)
All-flat_map P Q f each [] all = All-nil P
All-flat_map P Q f each (x ∷ xs) all =
    All-append P (f x) (flat_map f xs) (each x (All-head Q x xs all)) (All-flat_map P Q f each xs (All-tail Q x xs all))

-- ---- where items stand

pub StandsAt-Contains : {A : Type 0} {xs : List A} {i : ℕ} {x : A} → StandsAt xs i x → Contains xs x
StandsAt-Contains {A} {xs} {i} {x} s = (i, s.within, s.is)

pub StandsAt-default : {A : Type 0} {xs : List A} {i : ℕ} {x : A} (d : A) → StandsAt xs i x → get_or xs i d ≡ x
StandsAt-default {A} {xs} {i} {x} d s = get_or_default xs i d x s.within ∙ s.is

pub StandsAt-get : {A : Type 0} (xs : List A) (i : ℕ) (d : A) → i < length xs → StandsAt xs i (get_or xs i d)
StandsAt-get xs i d within = record { within = within; is = get_or_default xs i (get_or xs i d) d within }

pub StandsAt-map : {A B : Type 0} (f : A → B) {xs : List A} {i : ℕ} {x : A} → StandsAt xs i x → StandsAt (map f xs) i (f x)
StandsAt-map {A} {B} f {xs} {i} {x} s = record {
  within = omega (arith, s.within, length-map xs f);
  is = get_or-map f xs i x (f x) s.within ∙ ap f s.is;
}

pub StandsAt-left : {A : Type 0} {xs : List A} (ys : List A) {i : ℕ} {x : A} → StandsAt xs i x → StandsAt (xs ++ ys) i x
StandsAt-left {A} {xs} ys {i} {x} s = record {
  within = omega (arith, s.within, length-append xs ys);
  is = get_or_append_left xs ys x i s.within ∙ s.is;
}

pub StandsAt-right : {A : Type 0} (xs : List A) {ys : List A} {i : ℕ} {x : A} → StandsAt ys i x → StandsAt (xs ++ ys) (length xs + i) x
StandsAt-right {A} xs {ys} {i} {x} s = record {
  within = omega (arith, s.within, length-append xs ys);
  is = get_or-append-add xs ys i x ∙ s.is;
}
