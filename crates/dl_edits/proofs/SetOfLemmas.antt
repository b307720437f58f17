-- Sets of lists, by the order that the code has and by that of the definitions.
use Rattle.std.proofs.Common.{◌≡◌, ℕ, ◌≤◌, Bool, true, false, ◌||◌, refl, sym, ap, ◌∙◌, All, Contains, List, [], ◌∷◌, length, subst, arith}
use Rattle.std.specs.Bool.{OnTrue}
use Rattle.std.specs.Cmp.{IsTotalOrder}
use Rattle.std.specs.List.{AllAdjacentBelow}
use Rattle.std.specs.List.Sorted.{IsStrictlySortedBy}
use Rattle.std.specs.declared.cmp.Ordering.{Ordering}
use Rattle.std.specs.declared.cmp.Ordering.TheVariants.{Less}
use Rattle.std.proofs.lemmas.Map.Keys.{sorted_from_all_adjacent}
use Rattle.std.proofs.Math.Path.{fun_ext}
use Rattle.std.proofs.lemmas.List.Elements.{All-weaker, All-contains, All-contains_itself}
use Rattle.dl_terms.specs.Sets.{IsSetOf}
use Rattle.dl_terms.proofs.OrderLemmas.{IsLinear}
use Rattle.dl_edits.specs.Sets.{has, with_items}
use Rattle.dl_edits.proofs.SetLemmas.{has-with_items, has_there, there_has}
use Rattle.dl_edits.proofs.AscendLemmas.{with_items-sorted}

module _ {A : Type 0} (R S : A → A → Ordering) (same : (x y : A) → R x y ≡ S x y) where
  pub ascends_derived : (b : Bool) (items : List A) → OnTrue b (IsStrictlySortedBy R items)
      → OnTrue b (IsStrictlySortedBy S items)
  ascends_derived b items up =
      subst (λ T. OnTrue b (IsStrictlySortedBy T items)) (fun_ext (λ x. fun_ext (λ y. same x y))) up

  pub set_derived : (set items : List A) → IsSetOf R set items → IsSetOf S set items
  set_derived set items is = subst (λ T. IsSetOf T set items) (fun_ext (λ x. fun_ext (λ y. same x y))) is

module _ {A : Type 0} {cmp : A → A → Ordering} where
  pub set_itself : (items : List A) → IsStrictlySortedBy cmp items → IsSetOf cmp items items
  set_itself items up = record { ascending = up; members = λ x. (λ c. c, λ c. c) }

  -- the set of a list is that of any other set of it
  pub set_between : (set other items : List A) → IsSetOf cmp set items → IsSetOf cmp other items → IsSetOf cmp set other
  set_between set other items is has = record {
    ascending = is.ascending;
    members = λ x. (λ c. (has.members x).1 ((is.members x).0 c), λ c. (is.members x).1 ((has.members x).0 c));
  }

-- where each item is below the next, the list ascends
pub ascending_from : {A : Type 0} {cmp : A → A → Ordering} → IsTotalOrder cmp → (items : List A) (i : ℕ)
    → length items ≤ i → AllAdjacentBelow (λ x y. cmp x y ≡ Less) items i → IsStrictlySortedBy cmp items
unfolding IsStrictlySortedBy
ascending_from total [] i h below = tt
ascending_from total (x ∷ items) i h below =
    sorted_from_all_adjacent total (x ∷ items) x (λ k within. below k x (omega (arith, h, within)))

-- what holds of each item of a list holds of each of its set
pub set_all : {A : Type 0} {cmp : A → A → Ordering} (P : A → Type 0) (set items : List A) → IsSetOf cmp set items
    → All P items → All P set
set_all P set items is all =
    All-weaker (Contains set) P (λ x c. All-contains P items x all ((is.members x).0 c)) set (All-contains_itself set)

-- each list has a set
pub set_exists : {A : Type 0} {cmp : A → A → Ordering} → IsLinear cmp → (items : List A)
    → IsSetOf cmp (with_items cmp items []) items
unfolding IsStrictlySortedBy
set_exists {A} {cmp} l items = record {
  ascending = with_items-sorted l items [] tt;
  members = λ x. (
    λ c. there_has l items x (or_none (has cmp items x)
        (sym (has-with_items l items [] x) ∙ has_there l (with_items cmp items []) x c)),
    λ c. there_has l (with_items cmp items []) x
        (has-with_items l items [] x ∙ ap (λ b. b || false) (has_there l items x c)),
  );
}
  where
    or_none : (b : Bool) → (b || false) ≡ true → b ≡ true
    or_none true e = refl
    or_none false e = e
