-- A list that is sorted, and from which repeats are dropped, is the set of its items.
use Rattle.std.proofs.Common.{◌≡◌, Bool, true, List, [], sym, ◌∙◌, refl}
use Rattle.std.specs.declared.cmp.Ordering.{Ordering}
use Rattle.std.specs.declared.cmp.Ordering.TheVariants.{Less, Equal, Greater}
use Rattle.std.specs.Ordering.{is_eq, eq_by_cmp}
use Rattle.std.specs.Cmp.{IsTotalOrder, IsEquivalence}
use Rattle.std.specs.List.{dedup}
use Rattle.std.specs.List.Retain.{IsFiltered, DiffersFromLast}
use Rattle.std.specs.List.Sorted.{IsPermutation, IsSorted}
use Rattle.std.proofs.lemmas.List.Filters.{dedup_is}
use Rattle.std.proofs.lemmas.List.Kept.{Contains-dedup, Contains-from_dedup, IsStrictlySortedBy-dedup}
use Rattle.std.proofs.lemmas.List.Sorted.{Contains-permutation, IsPermutation-sym}
use Rattle.dl_terms.specs.Sets.{IsSetOf}

is_eq_equal : (o : Ordering) → is_eq o ≡ true → o ≡ Equal
is_eq_equal Less h = cc
is_eq_equal Equal h = refl
is_eq_equal Greater h = cc

module _ {A : Type 0} {R : A → A → Ordering} {E : A → A → Bool} (total : IsTotalOrder R) (same : IsEquivalence E)
    (ties : (x y : A) → E x y ≡ eq_by_cmp R x y) (equal : (x y : A) → R x y ≡ Equal → x ≡ y) where
  alike : (x y : A) → E x y ≡ true → x ≡ y
  alike x y h = equal x y (is_eq_equal (R x y) (sym (ties x y) ∙ h))

  pub set_from_dedup : (items sorted set : List A) → IsPermutation items sorted → IsSorted R sorted
      → IsFiltered (DiffersFromLast E) [] sorted set → IsSetOf R set items
  set_from_dedup items sorted set moved up kept =
      let is : set ≡ dedup E sorted = dedup_is E sorted set kept in
      record {
        ascending = rw is (IsStrictlySortedBy-dedup total ties sorted up);
        members = λ x. (
          λ h. Contains-permutation sorted items x (IsPermutation-sym items sorted moved) (Contains-from_dedup E sorted x (rw is at h)),
          λ h. rw is (Contains-dedup same alike sorted x (Contains-permutation items sorted x moved h)),
        );
      }
