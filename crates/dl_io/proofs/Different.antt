-- Names that differ from one another.
use Rattle.std.proofs.Common.{◌≡◌, ◌≢◌, ◌↔◌, ℕ, List, [], ◌∷◌, length, Bool, true, false, ◌||◌, refl, sym, ap, subst, ◌∙◌, true≢false, String, string_bytes, Vec}
use Rattle.std.specs.declared.alloc.Global.{Global}
use Rattle.std.specs.Map.{keys_of}
use Rattle.dl_io.specs.Files.{files_of, HaveDifferentNames}
use Rattle.std.specs.List.{list_any, AllByRecursion, IsDistinct, AllPairs}
use Rattle.std.specs.Str.{bytes_eq}
use Rattle.std.proofs.lemmas.Slice.Eq.{bytes_eq-Decides}
use Rattle.std.proofs.lemmas.Map.Made.{AllPairs-from_IsDistinct, IsDistinct-from_AllPairs}

or_false : (a b : Bool) → (a || b) ≡ false → (a ≡ false) × (b ≡ false)
or_false false b none = (refl, none)
or_false true b none = absurd (true≢false none)

or_true : (a b : Bool) → (a || b) ≡ true → a ≡ false → b ≡ true
or_true false b some fails = some
or_true true b some fails = absurd (true≢false fails)

-- the test of the files' names, over the list of the names
pub list_any-keys_of : (name : List ℕ) (files : List (String Global × Vec ℕ Global)) → list_any (λ file. bytes_eq name (string_bytes file.0)) files ≡ list_any (bytes_eq name) (keys_of (files_of files))
list_any-keys_of name [] = refl
list_any-keys_of name (file ∷ files) = ap (λ rest. bytes_eq name (string_bytes file.0) || rest) (list_any-keys_of name files)

-- no name is this one
pub none_named : (name : List ℕ) (names : List (List ℕ)) → list_any (bytes_eq name) names ≡ false → AllByRecursion (λ other. bytes_eq name other ≡ false) names
none_named name [] none = tt
none_named name (other ∷ names) none =
    let parts = or_false (bytes_eq name other) (list_any (bytes_eq name) names) none in
    (parts.0, none_named name names parts.1)

-- some name is
pub some_named : (name : List ℕ) (names : List (List ℕ)) → list_any (bytes_eq name) names ≡ true → AllByRecursion (λ other. bytes_eq name other ≡ false) names → ⊥
some_named name [] some none = true≢false (sym some)
some_named name (other ∷ names) some none =
    some_named name names (or_true (bytes_eq name other) (list_any (bytes_eq name) names) some none.0) none.1

-- where no later name is the first, all differ exactly if the later ones do
pub IsDistinct-cons : (name : List ℕ) (names : List (List ℕ)) → list_any (bytes_eq name) names ≡ false → IsDistinct bytes_eq (name ∷ names) ↔ IsDistinct bytes_eq names
unfolding IsDistinct
IsDistinct-cons name names none = (λ distinct. distinct.1, λ distinct. (none_named name names none, distinct))

-- where some later name is the first, they don't all differ
pub not_IsDistinct-cons : (name : List ℕ) (names : List (List ℕ)) → list_any (bytes_eq name) names ≡ true → IsDistinct bytes_eq (name ∷ names) → ⊥
unfolding IsDistinct
not_IsDistinct-cons name names some distinct = some_named name names some distinct.0

-- by the test of bytes, and by equality
pub IsDistinct-AllPairs : (names : List (List ℕ)) → IsDistinct bytes_eq names ↔ AllPairs (λ one other. one ≢ other) names
IsDistinct-AllPairs names = (AllPairs-from_IsDistinct bytes_eq-Decides names, IsDistinct-from_AllPairs bytes_eq-Decides names)

pub IsDistinct-nil : IsDistinct bytes_eq []
unfolding IsDistinct
IsDistinct-nil = tt

-- one step through the files: no later one has the name of the first
pub goes_on : (all rest others : List (String Global × Vec ℕ Global)) (first : String Global × Vec ℕ Global) → rest ≡ first ∷ others
    → list_any (λ file. bytes_eq (string_bytes first.0) (string_bytes file.0)) others ≡ false
    → (IsDistinct bytes_eq (keys_of (files_of rest)) ↔ IsDistinct bytes_eq (keys_of (files_of all)))
    → IsDistinct bytes_eq (keys_of (files_of others)) ↔ IsDistinct bytes_eq (keys_of (files_of all))
goes_on all rest others first split none same =
    let P : List (String Global × Vec ℕ Global) → Type 0 = λ files. IsDistinct bytes_eq (keys_of (files_of files)) ↔ IsDistinct bytes_eq (keys_of (files_of all)) in
    let here : P (first ∷ others) = subst P split same in
    let step = IsDistinct-cons (string_bytes first.0) (keys_of (files_of others)) (sym (list_any-keys_of (string_bytes first.0) others) ∙ none) in
    (λ distinct. here.0 (step.1 distinct), λ distinct. step.0 (here.1 distinct))

-- a later one has it
pub ends_early : (all rest others : List (String Global × Vec ℕ Global)) (first : String Global × Vec ℕ Global) → rest ≡ first ∷ others
    → list_any (λ file. bytes_eq (string_bytes first.0) (string_bytes file.0)) others ≡ true
    → (IsDistinct bytes_eq (keys_of (files_of rest)) ↔ IsDistinct bytes_eq (keys_of (files_of all)))
    → HaveDifferentNames (files_of all) → ⊥
ends_early all rest others first split some same different =
    let P : List (String Global × Vec ℕ Global) → Type 0 = λ files. IsDistinct bytes_eq (keys_of (files_of files)) ↔ IsDistinct bytes_eq (keys_of (files_of all)) in
    let here : P (first ∷ others) = subst P split same in
    not_IsDistinct-cons (string_bytes first.0) (keys_of (files_of others)) (sym (list_any-keys_of (string_bytes first.0) others) ∙ some)
    (here.1 ((IsDistinct-AllPairs (keys_of (files_of all))).1 different))

-- none is left
pub all_seen : (all rest : List (String Global × Vec ℕ Global)) → length rest ≡ 0
    → (IsDistinct bytes_eq (keys_of (files_of rest)) ↔ IsDistinct bytes_eq (keys_of (files_of all)))
    → HaveDifferentNames (files_of all)
all_seen all [] none same = (IsDistinct-AllPairs (keys_of (files_of all))).0 (same.0 IsDistinct-nil)
all_seen all (file ∷ files) none same = absurd (cc)
