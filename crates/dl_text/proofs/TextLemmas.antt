-- Texts of names, and texts that are appended one after another.
use Rattle.std.proofs.Common.{◌≡◌, ℕ, suc, ◌<◌, arith, true, false, cond, Some, List, [], ◌∷◌, ◌++◌, All, length, map, take, drop, get_or, ◌-◌, ◌≤◌, codes, slice_get, unwrap_or, refl, sym, ap, subst, ◌∙◌, append_assoc}
use Rattle.std.specs.List.{flat_map}
use Rattle.std.specs.Str.{bytes_eq}
use Rattle.dl_names.specs.NameList.{Text}
use Rattle.dl_names.specs.Iris.{owl_nothing}
use Rattle.std.proofs.lemmas.List.{take_all, append-nil}
use Rattle.std.proofs.lemmas.List.Elements.{All-nil, All-cons}
use Rattle.std.proofs.lemmas.List.Folds.{flat_map-map}
use Rattle.dl_terms.specs.declared.role.Base.{Base}
use Rattle.dl_terms.specs.declared.role.Base.TheVariants.{Named, Auxiliary}
use Rattle.dl_terms.specs.declared.role.Role.{Role}
use Rattle.dl_terms.specs.Broken.{role_name}
use Rattle.dl_terms.specs.Occurring.{base_names, role_names}
use Rattle.dl_text.specs.AxiomText.{property_of, joined, class_text}
use Rattle.dl_text.specs.NameText.{AreBelow, name_text}

pub class_text-nothing : (names : List Text) (n : ℕ) (text : Text) → slice_get names n ≡ Some text → bytes_eq owl_nothing text ≡ true
    → class_text names n ≡ codes "owl:Nothing"
class_text-nothing names n text is same =
    ap (λ t. cond (bytes_eq owl_nothing (unwrap_or t [])) (codes "owl:Nothing") (name_text names n)) is
    ∙ ap (λ b. cond b (codes "owl:Nothing") (name_text names n)) same

pub class_text-other : (names : List Text) (n : ℕ) (text : Text) → slice_get names n ≡ Some text → bytes_eq owl_nothing text ≡ false
    → class_text names n ≡ name_text names n
class_text-other names n text is same =
    ap (λ t. cond (bytes_eq owl_nothing (unwrap_or t [])) (codes "owl:Nothing") (name_text names n)) is
    ∙ ap (λ b. cond b (codes "owl:Nothing") (name_text names n)) same

-- ---- numbers of names

below_head : (count x : ℕ) (xs : List ℕ) → AreBelow count (x ∷ xs) → x < count
below_head count x xs h = h 0 0 (omega arith)

below_tail : (count x : ℕ) (xs : List ℕ) → AreBelow count (x ∷ xs) → AreBelow count xs
below_tail count x xs h = λ k d within. h (suc k) d (omega (arith, within))

pub role_below : (count : ℕ) (r : Role) → AreBelow count (role_names r) → property_of r < count
role_below count r h = by r.base h
  where
    by : (b : Base) → AreBelow count (base_names b) → role_name b < count
    by (Named n) g = below_head count n [] g
    by (Auxiliary n i c) g = below_head count n (c ∷ []) g

pub below_left : (count : ℕ) (xs ys : List ℕ) → AreBelow count (xs ++ ys) → AreBelow count xs
below_left count [] ys h = All-nil (λ n. n < count)
below_left count (x ∷ xs) ys h =
    All-cons (λ n. n < count) x xs (below_head count x (xs ++ ys) h) (below_left count xs ys (below_tail count x (xs ++ ys) h))

pub below_right : (count : ℕ) (xs ys : List ℕ) → AreBelow count (xs ++ ys) → AreBelow count ys
below_right count [] ys h = h
below_right count (x ∷ xs) ys h = below_right count xs ys (below_tail count x (xs ++ ys) h)

pub below_each : {X : Type 0} (count : ℕ) (f : X → List ℕ) (xs : List X) → AreBelow count (flat_map f xs) → All (λ x. AreBelow count (f x)) xs
below_each count f [] h = All-nil (λ x. AreBelow count (f x))
below_each count f (x ∷ xs) h =
    All-cons (λ x. AreBelow count (f x)) x xs (below_left count (f x) (flat_map f xs) h)
    (below_each count f xs (below_right count (f x) (flat_map f xs) h))

-- the names of items that are shown as a list
pub items_below : {X : Type 0} (f : X → List ℕ) (count : ℕ) (numbers : List ℕ) (xs shown : List X) → numbers ≡ flat_map f xs → shown ≡ xs
    → AreBelow count numbers → All (λ x. AreBelow count (f x)) shown
items_below f count numbers xs shown names is h =
    subst (λ l. All (λ x. AreBelow count (f x)) l) (sym is) (below_each count f xs (subst (AreBelow count) names h))

-- ---- texts with spaces between them

pub joined-map : {X : Type 0} (f : X → Text) (x : X) (xs : List X)
    → joined (map f (x ∷ xs)) ≡ f x ++ flat_map (λ y. 32 ∷ f y) xs
joined-map f x xs = ap (λ l. f x ++ l) (flat_map-map (λ t. 32 ∷ t) f xs)

take_rest : {X : Type 0} (x : X) (xs : List X) → take (length (x ∷ xs) - 1) xs ≡ xs
take_rest x xs = ap (λ n. take n xs) (omega arith) ∙ take_all (length xs) xs (omega arith)

-- a first text, and then the others with their spaces
pub joined_of : {X : Type 0} (f : X → Text) (d : X) (xs : List X) (out mid new : Text) → 1 ≤ length xs → mid ≡ out ++ f (get_or xs 0 d)
    → new ≡ mid ++ flat_map (λ y. 32 ∷ f y) (take (length xs - 1) (drop 1 xs)) → new ≡ out ++ joined (map f xs)
joined_of f d [] out mid new some first rest = absurd (omega (arith, some))
joined_of f d (x ∷ xs) out mid new some first rest =
    rest ∙ (λ i. first i ++ flat_map (λ y. 32 ∷ f y) (take_rest x xs i)) ∙ append_assoc out (f x) (flat_map (λ y. 32 ∷ f y) xs)
    ∙ ap (λ l. out ++ l) (sym (joined-map f x xs))

pub joined-none : {X : Type 0} (f : X → Text) → joined (map f []) ≡ []
joined-none f = refl

pub all_head : {X : Type 0} (P : X → Type 0) (x : X) (xs : List X) → All P (x ∷ xs) → P x
all_head P x xs h = h 0 x (omega arith)

pub all_tail : {X : Type 0} (P : X → Type 0) (x : X) (xs : List X) → All P (x ∷ xs) → All P xs
all_tail P x xs h = λ k d within. h (suc k) d (omega (arith, within))

pub ruleset all_of_items = (all_head, all_tail)

pub ruleset below_names = (role_below, below_left, below_right)

pub ruleset class_texts = (class_text-nothing, class_text-other)

-- numbers, and none behind them
pub below_same : (count : ℕ) (numbers : List ℕ) → AreBelow count numbers → AreBelow count (numbers ++ [])
below_same count numbers h = subst (AreBelow count) (sym (append-nil numbers)) h
