-- Counts of rows, held at 2^64 - 1.
use Rattle.std.proofs.Common.{◌≡◌, ℕ, ◌+◌, ◌<◌, ◌≤◌, List, length, get_or, take, min, max, flat_map, sym, ap, ap₂, ◌∙◌, arith, length-append}
use Rattle.std.proofs.lemmas.List.Sums.{sum_by_more}
use Rattle.dl_terms.specs.declared.axiom.Axiom.{Axiom}
use Rattle.dl_normal.specs.Weight.{axiom_weight, total_weight}
use Rattle.dl_normal.proofs.RowLemmas.{flat_map-more}

-- one more axiom: sums, and numbers of rows, over m are m
held-more : (m s l : ℕ) → 1 ≤ m → min (min s m + max (min l m) 1) m ≡ min (s + max l 1) m
held-more m s l h = omega arith

pub total_weight-more : (m : ℕ) (axioms : List Axiom) (i : ℕ) (a : Axiom) (rows total : ℕ) → 1 ≤ m → i < length axioms → a ≡ get_or axioms i a
    → total ≡ min (total_weight (take i axioms)) m → (l : ℕ) → axiom_weight a ≡ max l 1 → rows ≡ min l m
    → min (total + max rows 1) m ≡ min (total_weight (take (i + 1) axioms)) m
total_weight-more m axioms i a rows total least within at so_far l weight counted =
    ap₂ (λ s r. min (s + max r 1) m) so_far counted ∙ held-more m (total_weight (take i axioms)) l least
    ∙ ap (λ n. min n m) (ap (λ w. total_weight (take i axioms) + w) (sym weight ∙ ap axiom_weight at) ∙ sym (sum_by_more axiom_weight axioms i a within))

-- one more item of a list of which each has rows
pub held-rows : {A B : Type 0} (m : ℕ) (f : A → List B) (xs : List A) (i : ℕ) (d : A) (total count : ℕ) → i < length xs
    → total ≡ min (length (flat_map f (take i xs))) m → count ≡ length (f (get_or xs i d))
    → min (total + count) m ≡ min (length (flat_map f (take (i + 1) xs))) m
held-rows m f xs i d total count within so_far counted =
    let more = ap length (flat_map-more f xs i d within) ∙ length-append (flat_map f (take i xs)) (f (get_or xs i d)) in
    omega (arith, so_far, counted, more)
