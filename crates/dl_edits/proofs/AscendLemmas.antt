-- Sets in order: what ascends strictly still does after edits.
use Rattle.std.proofs.Common.{◌≡◌, ℕ, ◌+◌, ◌≤◌, Bool, true, false, not, cond, List, [], ◌∷◌, refl, ap, subst, ◌∙◌, true≢false, arith}
use Rattle.std.specs.List.{AllByRecursion}
use Rattle.std.specs.List.Sorted.{IsStrictlySortedBy, IsStrictlyIncreasing}
use Rattle.std.specs.declared.cmp.Ordering.{Ordering}
use Rattle.std.specs.declared.cmp.Ordering.TheVariants.{Less, Equal, Greater}
use Rattle.std.specs.Ordering.{is_eq, is_gt, nat_cmp}
use Rattle.std.proofs.lemmas.Map.Keys.{IsStrictlyIncreasing-from_sorted, sorted_from_strictly_increasing}
use Rattle.dl_terms.specs.Order.{axiom_cmp}
use Rattle.dl_terms.specs.declared.axiom.Axiom.{Axiom}
use Rattle.dl_terms.specs.declared.axiom.Signature.{Signature}
use Rattle.dl_terms.proofs.OrderLemmas.{IsLinear, axioms_linear, numbers_linear}
use Rattle.dl_row.specs.Lists.{count, put, Ascends}
use Rattle.dl_row.proofs.CountLemmas.{same_itself, same_is}
use Rattle.dl_row.proofs.OrderedLemmas.{each-weaker, ordered-ascends, ordered-same}
use Rattle.dl_epoch.specs.Known.{IsSignature}
use Rattle.dl_edits.specs.Sets.{has, with_item, with_items, IsOnce}
use Rattle.dl_edits.specs.Names.{item_classes, item_properties}
use Rattle.dl_edits.specs.Edits.{axioms_with, edited_axioms, signature_with, edited_signature}
use Rattle.dl_edits.specs.Signatures.{HasEachOnce}
use Rattle.dl_event.specs.declared.event.Edit.{Edit}
use Rattle.dl_event.specs.declared.event.Item.{Item}
use Rattle.dl_event.specs.declared.event.Item.TheVariants as item
use Rattle.dl_edits.proofs.SetLemmas.{once-with_item, once-filter}
use Rattle.dl_edits.proofs.OrderedLemmas.{InOrder-filter}

module _ {A : Type 0} {cmp : A → A → Ordering} (l : IsLinear cmp) where
  strictly : (x : A) (ys : List A) → AllByRecursion (λ y. is_gt (cmp x y) ≡ false) ys → count (λ y. is_eq (cmp x y)) ys ≡ 0 → AllByRecursion (λ y. cmp x y ≡ Less) ys
  strictly x [] all none = tt
  strictly x (y ∷ ys) all none = by (cmp x y) refl all.0 none (strictly x ys all.1)
    where
      by : (o : Ordering) → cmp x y ≡ o → is_gt o ≡ false → cond (is_eq o) 1 0 + count (λ y. is_eq (cmp x y)) ys ≡ 0
          → (count (λ y. is_eq (cmp x y)) ys ≡ 0 → AllByRecursion (λ y. cmp x y ≡ Less) ys) → (cmp x y ≡ Less) × AllByRecursion (λ y. cmp x y ≡ Less) ys
      by Less e g n ih = (e, ih (omega (arith, n)))
      by Equal e g n ih = absurd (omega (arith, n))
      by Greater e g n ih = absurd (true≢false g)

  -- a list in order that has each item once ascends strictly
  pub strictly_sorted : (xs : List A) → Ascends cmp xs → IsOnce cmp xs → IsStrictlySortedBy cmp xs
  unfolding IsStrictlySortedBy
  strictly_sorted [] up once = tt
  strictly_sorted (x ∷ xs) up once =
      (strictly x xs up.0 (none (same_itself l x) (once.at_most x)), strictly_sorted xs up.1 (record { at_most = λ y. rest y (once.at_most y) }))
    where
      none : is_eq (cmp x x) ≡ true → cond (is_eq (cmp x x)) 1 0 + count (λ y. is_eq (cmp x y)) xs ≤ 1 → count (λ y. is_eq (cmp x y)) xs ≡ 0
      none e h = let c = ap {B = ℕ} (λ b. cond b 1 0) e in omega (arith, c, h)

      rest : (y : A) → cond (is_eq (cmp y x)) 1 0 + count (λ z. is_eq (cmp y z)) xs ≤ 1 → count (λ z. is_eq (cmp y z)) xs ≤ 1
      rest y h = omega (arith, h)

  pub with_item-ascends : (x : A) (xs : List A) → Ascends cmp xs → Ascends cmp (with_item cmp x xs)
  with_item-ascends x xs up = by (has cmp xs x)
    where
      by : (b : Bool) → Ascends cmp (cond b xs (put cmp x xs))
      by true = up
      by false = subst (λ ys. Ascends cmp (put cmp x ys)) (ordered-same l xs up) (ordered-ascends l.total (x ∷ xs))

  -- and a list that ascends strictly is in order, and has each item once
  sorted_up : (xs : List A) → IsStrictlySortedBy cmp xs → Ascends cmp xs
  unfolding IsStrictlySortedBy
  sorted_up [] s = tt
  sorted_up (x ∷ xs) s = (each-weaker (λ y. cmp x y ≡ Less) (λ y. is_gt (cmp x y) ≡ false) xs (λ y e. ap is_gt e) s.0, sorted_up xs s.1)

  none_equal : (x : A) (ys : List A) → AllByRecursion (λ y. cmp x y ≡ Less) ys → count (λ y. is_eq (cmp x y)) ys ≡ 0
  none_equal x [] all = refl
  none_equal x (y ∷ ys) all = let e = ap {B = ℕ} (λ o. cond (is_eq o) 1 0) all.0 in let n = none_equal x ys all.1 in omega (arith, e, n)

  sorted_count : (xs : List A) → IsStrictlySortedBy cmp xs → (z : A) → count (λ y. is_eq (cmp z y)) xs ≤ 1
  unfolding IsStrictlySortedBy
  sorted_count [] s z = omega arith
  sorted_count (x ∷ xs) s z = by (is_eq (cmp z x)) refl s.0 (sorted_count xs s.1 z)
    where
      by : (b : Bool) → is_eq (cmp z x) ≡ b → AllByRecursion (λ y. cmp x y ≡ Less) xs → count (λ y. is_eq (cmp z y)) xs ≤ 1
          → cond b 1 0 + count (λ y. is_eq (cmp z y)) xs ≤ 1
      by true e all ih = let n = ap (λ w. count (λ y. is_eq (cmp w y)) xs) (same_is l z x e) ∙ none_equal x xs all in omega (arith, n)
      by false e all ih = omega (arith, ih)

record IsSet {A : Type 0} (cmp : A → A → Ordering) (xs : List A) : Type 0 where
  pub up : Ascends cmp xs
  pub once : IsOnce cmp xs

module _ {A : Type 0} {cmp : A → A → Ordering} (l : IsLinear cmp) where
  set_of : (xs : List A) → IsStrictlySortedBy cmp xs → IsSet cmp xs
  set_of xs s = record { up = sorted_up l xs s; once = record { at_most = sorted_count l xs s } }

  -- a list that ascends strictly has each item once
  pub sorted-once : (xs : List A) → IsStrictlySortedBy cmp xs → IsOnce cmp xs
  sorted-once xs s = (set_of xs s).once

  sorted_of : (xs : List A) → IsSet cmp xs → IsStrictlySortedBy cmp xs
  sorted_of xs is = strictly_sorted l xs is.up is.once

  with_item_set : (x : A) (xs : List A) → IsSet cmp xs → IsSet cmp (with_item cmp x xs)
  with_item_set x xs is = record { up = with_item-ascends l x xs is.up; once = once-with_item l x xs is.once }

  pub with_items-sorted : (ys xs : List A) → IsStrictlySortedBy cmp xs → IsStrictlySortedBy cmp (with_items cmp ys xs)
  with_items-sorted ys xs s = sorted_of (with_items cmp ys xs) (by ys xs (set_of xs s))
    where
      by : (ys xs : List A) → IsSet cmp xs → IsSet cmp (with_items cmp ys xs)
      by [] xs is = is
      by (y ∷ ys) xs is = by ys (with_item cmp y xs) (with_item_set y xs is)

-- ---- axioms

axioms_with_set : (add : Bool) (i : Item) (xs : List Axiom) → IsSet axiom_cmp xs → IsSet axiom_cmp (axioms_with add i xs)
axioms_with_set true (item.Axiom a) xs is = with_item_set axioms_linear a xs is
axioms_with_set false (item.Axiom a) xs is = record {
  up = InOrder-filter (λ x y. is_gt (axiom_cmp x y) ≡ false) (λ y. not (is_eq (axiom_cmp a y))) xs is.up;
  once = once-filter (λ y. not (is_eq (axiom_cmp a y))) xs is.once;
}
axioms_with_set true (item.Fact f) xs is = is
axioms_with_set true (item.Class c) xs is = is
axioms_with_set true (item.Property p) xs is = is
axioms_with_set false (item.Fact f) xs is = is
axioms_with_set false (item.Class c) xs is = is
axioms_with_set false (item.Property p) xs is = is

edited_axioms_set : (edits : List Edit) (xs : List Axiom) → IsSet axiom_cmp xs → IsSet axiom_cmp (edited_axioms edits xs)
edited_axioms_set [] xs is = is
edited_axioms_set (e ∷ edits) xs is = edited_axioms_set edits (axioms_with e.add e.item xs) (axioms_with_set e.add e.item xs is)

-- after edits axioms are in axiom order, as before
pub edited_axioms-sorted : (edits : List Edit) (xs : List Axiom) → IsStrictlySortedBy axiom_cmp xs → IsStrictlySortedBy axiom_cmp (edited_axioms edits xs)
edited_axioms-sorted edits xs s =
    sorted_of axioms_linear (edited_axioms edits xs) (edited_axioms_set edits xs (set_of axioms_linear xs s))

-- ---- signatures

-- a signature whose lists ascend strictly has each name once
pub signature-once : (s : Signature) → IsSignature s → HasEachOnce s
signature-once s is = record {
  classes = sorted-once numbers_linear s.classes (sorted_from_strictly_increasing s.classes is.classes);
  roles = sorted-once numbers_linear s.roles (sorted_from_strictly_increasing s.roles is.roles);
}

-- after edits the lists of a signature ascend strictly, as before
pub edited_signature-sorted : (edits : List Edit) (s : Signature) → IsSignature s → IsSignature (edited_signature edits s)
edited_signature-sorted [] s is = is
edited_signature-sorted (e ∷ edits) s is = edited_signature-sorted edits (signature_with e.add e.item s) (one e.add e.item)
  where
    more : (ys xs : List ℕ) → IsStrictlyIncreasing xs → IsStrictlyIncreasing (with_items nat_cmp ys xs)
    more ys xs up = IsStrictlyIncreasing-from_sorted (with_items nat_cmp ys xs) (with_items-sorted numbers_linear ys xs (sorted_from_strictly_increasing xs up))

    one : (add : Bool) (i : Item) → IsSignature (signature_with add i s)
    one true i = record { classes = more (item_classes i) s.classes is.classes; roles = more (item_properties i) s.roles is.roles }
    one false i = is
