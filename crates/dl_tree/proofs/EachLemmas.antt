-- Lists that gain an item at their end.
use Rattle.std.proofs.Common.{◌≡◌, ℕ, ◌+◌, ◌<◌, ◌⊎◌, List, [], ◌∷◌, ◌++◌, length, length-append, get_or, sym, ap, subst, ◌∙◌, inl, inr, arith}
use Rattle.std.proofs.lemmas.List.{get_or_append_left, get_or_at}
use Rattle.dl_tree.specs.Each.{IsEach}

pub IsEach-none : {X : Type 0} (d : X) (P : ℕ → X → Type 0) (xs : List X) → xs ≡ [] → IsEach d 0 P xs
IsEach-none d P xs empty = record { as_many = ap length empty; each = λ k l. absurd (omega (arith, l)) }

pub IsEach-push : {X : Type 0} (d : X) (P : ℕ → X → Type 0) (n : ℕ) (old new : List X) (x : X) → IsEach d n P old → P n x → new ≡ old ++ x ∷ []
    → IsEach d (n + 1) P new
IsEach-push d P n old new x so_far here pushed = record {
  as_many = ap length pushed ∙ length-append old (x ∷ []) ∙ ap (λ k. k + 1) so_far.as_many;
  each = λ k l. subst (λ z. P k (get_or z k d)) (sym pushed) (by k (cases k n l));
}
  where
    cases : (k n : ℕ) → k < n + 1 → (k < n) ⊎ (k ≡ n)
    cases k n l = grind arith

    by : (k : ℕ) → (k < n) ⊎ (k ≡ n) → P k (get_or (old ++ x ∷ []) k d)
    by k (inl h) =
        let within : k < length old = let m = so_far.as_many in omega (arith, h, m) in
        subst (P k) (sym (get_or_append_left old (x ∷ []) d k within)) (so_far.each k h)
    by k (inr e) =
        subst (P k) (sym (get_or_at old x [] d k (so_far.as_many ∙ sym e))) (subst (λ m. P m x) (sym e) here)

pub IsEach-same : {X : Type 0} (d : X) (P Q : ℕ → X → Type 0) (n : ℕ) (xs : List X) → ((k : ℕ) (x : X) → P k x → Q k x) → IsEach d n P xs → IsEach d n Q xs
IsEach-same d P Q n xs same h = record { as_many = h.as_many; each = λ k l. same k (get_or xs k d) (h.each k l) }
