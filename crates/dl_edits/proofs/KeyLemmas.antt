-- Keys of the library's ordered sets: adding and removing one is adding and removing an item of a set.
use Rattle.std.proofs.Common.{◌≡◌, Bool, true, false, not, cond, ◌||◌, List, [], ◌∷◌, ◌++◌, filter, refl, sym, ap, ap₂, subst, ◌∙◌}
use Rattle.std.specs.List.{AllByRecursion}
use Rattle.std.specs.List.Sorted.{IsStrictlySortedBy}
use Rattle.std.specs.declared.cmp.Ordering.{Ordering}
use Rattle.std.specs.declared.cmp.Ordering.TheVariants.{Less, Equal, Greater}
use Rattle.std.specs.Ordering.{is_eq, is_gt, match_ordering, ordering_reverse}
use Rattle.std.specs.BTreeMap.{is_at}
use Rattle.std.specs.BTreeSet.{insert_key}
use Rattle.std.specs.Set.{remove_key}
use Rattle.dl_terms.proofs.OrderLemmas.{IsLinear}
use Rattle.dl_row.specs.Lists.{put}
use Rattle.dl_row.proofs.OrderedLemmas.{each-weaker}
use Rattle.dl_edits.specs.Sets.{has, with_item, without_item}

module _ {A : Type 0} {cmp : A → A → Ordering} (l : IsLinear cmp) where
  -- an item below all others isn't among them
  has_none : (x : A) (ys : List A) → AllByRecursion (λ y. cmp x y ≡ Less) ys → has cmp ys x ≡ false
  has_none x [] below = refl
  has_none x (y ∷ ys) below = ap₂ (λ a b. a || b) (ap is_eq below.0) (has_none x ys below.1)

  kept_all : (x : A) (ys : List A) → AllByRecursion (λ y. cmp x y ≡ Less) ys → filter (λ y. not (is_eq (cmp x y))) ys ≡ ys
  kept_all x [] below = refl
  kept_all x (y ∷ ys) below =
      ap (λ o. cond (not (is_eq o)) (y ∷ filter (λ z. not (is_eq (cmp x z))) ys) (filter (λ z. not (is_eq (cmp x z))) ys)) below.0
      ∙ ap (λ zs. y ∷ zs) (kept_all x ys below.1)

  pub insert_key-with : (xs : List A) (x : A) → IsStrictlySortedBy cmp xs → insert_key cmp xs x ≡ with_item cmp x xs
  unfolding IsStrictlySortedBy
  insert_key-with [] x up = refl
  insert_key-with (y ∷ ys) x up = by (cmp x y) refl (insert_key-with ys x up.1)
    where
      front : (b : Bool) → y ∷ cond b ys (put cmp x ys) ≡ cond b (y ∷ ys) (y ∷ put cmp x ys)
      front true = refl
      front false = refl

      by : (o : Ordering) → cmp x y ≡ o → insert_key cmp ys x ≡ with_item cmp x ys
          → match_ordering o (x ∷ y ∷ ys) (y ∷ ys) (y ∷ insert_key cmp ys x)
          ≡ cond (is_eq o || has cmp ys x) (y ∷ ys) (cond (is_gt o) (y ∷ put cmp x ys) (x ∷ y ∷ ys))
      by Less e rest =
          let none = has_none x ys (each-weaker (λ z. cmp y z ≡ Less) (λ z. cmp x z ≡ Less) ys (λ z h. l.total.trans x y z e h) up.0) in
          sym (ap (λ b. cond b (y ∷ ys) (x ∷ y ∷ ys)) none)
      by Equal e rest = refl
      by Greater e rest = ap (λ zs. y ∷ zs) rest ∙ front (has cmp ys x)

  pub remove_key-without : (xs : List A) (x : A) → IsStrictlySortedBy cmp xs → remove_key (is_at (cmp x)) xs ≡ without_item cmp x xs
  unfolding IsStrictlySortedBy
  remove_key-without [] x up = refl
  remove_key-without (y ∷ ys) x up = by (cmp x y) refl (remove_key-without ys x up.1)
    where
      by : (o : Ordering) → cmp x y ≡ o → remove_key (is_at (cmp x)) ys ≡ without_item cmp x ys
          → cond (is_eq o) ys (y ∷ remove_key (is_at (cmp x)) ys)
          ≡ cond (not (is_eq o)) (y ∷ without_item cmp x ys) (without_item cmp x ys)
      by Less e rest = ap (λ zs. y ∷ zs) rest
      by Equal e rest = sym (kept_all x ys (subst (λ z. AllByRecursion (λ w. cmp z w ≡ Less) ys) (sym (l.equal x y e)) up.0))
      by Greater e rest = ap (λ zs. y ∷ zs) rest

  -- an item above all others goes to their end
  pub insert_key-last : (xs : List A) (x : A) → AllByRecursion (λ y. cmp y x ≡ Less) xs → insert_key cmp xs x ≡ xs ++ x ∷ []
  insert_key-last [] x above = refl
  insert_key-last (y ∷ ys) x above =
      ap (λ o. match_ordering o (x ∷ y ∷ ys) (y ∷ ys) (y ∷ insert_key cmp ys x)) (l.total.antisymm x y ∙ ap ordering_reverse above.0)
      ∙ ap (λ zs. y ∷ zs) (insert_key-last ys x above.1)
