-- What a binary search of a list that ascends strictly finds.
use Rattle.std.proofs.Common.{◌≡◌, ℕ, ◌+◌, ◌<◌, ◌≤◌, List, length, get_or, Contains, sym, ap, ◌∙◌, ⊎_elim, true≢false, HoldsAt, arith}
use Rattle.std.specs.declared.cmp.Ordering.{Ordering}
use Rattle.std.specs.declared.cmp.Ordering.TheVariants.{Less, Equal, Greater}
use Rattle.std.specs.Ordering.{is_lt, is_gt, ordering_index, ordering_reverse}
use Rattle.std.specs.Cmp.{IsTotalOrder, tied_itself}
use Rattle.std.specs.List.Sorted.{IsStrictlySortedBy, IsSortedBy, IsNonDecreasingBy, IsPartitionPoint}
use Rattle.std.proofs.lemmas.Bool.{cases_lt}
use Rattle.std.proofs.lemmas.List.Sorted.{searchable_from_sorted}
use Rattle.std.proofs.lemmas.Map.Keys.{Less-from_sorted}
use Rattle.dl_hier.specs.Nodes.{StandsAt}

module _ {A : Type 0} {R : A → A → Ordering} (total : IsTotalOrder R) where
  never_falls : (xs : List A) → IsStrictlySortedBy R xs → IsSortedBy (λ x y. is_lt (R x y)) xs
  never_falls xs up = λ k d low within.
      ap is_lt (total.antisymm (get_or xs (k + 1) d) (get_or xs k d)
      ∙ ap ordering_reverse (Less-from_sorted R xs k (k + 1) d up (omega arith) within))

  pub absent : (xs : List A) → IsStrictlySortedBy R xs → (x : A) (i : ℕ)
      → (IsNonDecreasingBy (λ y. ordering_index (R y x)) xs → IsPartitionPoint (λ y. R y x ≡ Less) (λ y. R y x ≡ Greater) xs i) → Contains xs x → ⊥
  absent xs up x i parts c =
      let p = parts (searchable_from_sorted total (λ y. y) xs x (never_falls xs up)) in
      let itself : R (get_or xs c.0 x) x ≡ Equal = ap (λ y. R y x) c.2 ∙ tied_itself total x in
      ⊎_elim (λ (before : c.0 < i). true≢false (ap is_lt (sym (p.0 c.0 x (omega arith) before) ∙ itself)))
      (λ (after : i ≤ c.0). true≢false (ap is_gt (sym (p.1 c.0 x after c.1) ∙ itself))) (cases_lt c.0 i)

  pub present : ((x y : A) → R x y ≡ Equal → x ≡ y) → (xs : List A) (x : A) (i : ℕ) → i < length xs → HoldsAt (λ y. R y x ≡ Equal) xs i → StandsAt xs i x
  present equal xs x i within at = record { within = within; is = equal (get_or xs i x) x (at x) }
