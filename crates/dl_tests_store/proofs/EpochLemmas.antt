-- Lists of no item and of one item ascend; and versions that the first of some epochs covers.
use Rattle.std.proofs.Common.{◌≡◌, ℕ, ◌<◌, ◌≤◌, List, [], ◌∷◌, map, length, get_or, refl, subst, arith}
use Rattle.std.specs.List.{Any}
use Rattle.std.specs.List.Sorted.{IsStrictlySortedBy}
use Rattle.std.specs.declared.cmp.Ordering.{Ordering}
use Rattle.dl_epoch.specs.Covering.{Kept, kept}
use Rattle.dl_epoch.specs.declared.entry.Entry.{Entry}

pub none_ascends : {K : Type 0} (cmp : K → K → Ordering) → IsStrictlySortedBy cmp []
unfolding IsStrictlySortedBy
none_ascends cmp = tt

pub one_ascends : {K : Type 0} (cmp : K → K → Ordering) (x : K) → IsStrictlySortedBy cmp (x ∷ [])
unfolding IsStrictlySortedBy
one_ascends cmp x = (tt, tt)

-- where the first entry begins at a version or before, one does
pub one_begins : (entries : List Entry) (all : List Kept) (version : ℕ) (e : Entry) → map kept entries ≡ all → e ≡ get_or entries 0 e → 0 < length entries
    → e.first ≤ version → Any (λ k. k.first ≤ version) all
one_begins [] all version e are is some begins = absurd (omega (arith, some))
one_begins (x ∷ entries) all version e are is some begins =
    subst (Any (λ k. k.first ≤ version)) are (0, kept x, omega arith, refl, subst (λ y. y.first ≤ version) is begins)
