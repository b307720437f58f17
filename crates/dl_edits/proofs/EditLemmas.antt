-- Edits of facts and of the signature.
use Rattle.std.proofs.Common.{◌≡◌, Bool, true, false, not, ◌&&◌, ◌||◌, cond, List, [], ◌∷◌, refl, sym, ap, ◌∙◌, subst}
use Rattle.std.specs.Ordering.{is_eq, nat_cmp}
use Rattle.dl_terms.specs.Order.{fact_cmp}
use Rattle.dl_terms.specs.declared.axiom.Fact.{Fact}
use Rattle.dl_terms.specs.declared.axiom.Fact.TheVariants.{Is, Link}
use Rattle.dl_terms.specs.declared.axiom.Signature.{Signature}
use Rattle.dl_terms.proofs.OrderLemmas.{facts_linear, numbers_linear}
use Rattle.dl_edits.specs.Sets.{has, IsOnce}
use Rattle.dl_edits.specs.Names.{item_classes, item_properties}
use Rattle.dl_edits.specs.Edits.{names_fact, decided, facts_with, edited_facts, signature_with, edited_signature}
use Rattle.dl_edits.specs.Signatures.{HasEachOnce, IsPart, knows, AreKnown}
use Rattle.dl_event.specs.declared.event.Item.{Item}
use Rattle.dl_event.specs.declared.event.Item.TheVariants as item
use Rattle.dl_event.specs.declared.event.Edit.{Edit}
use Rattle.dl_row.proofs.CountLemmas.{same_is, same_itself}
use Rattle.dl_edits.proofs.SetLemmas.{has-with_item, once-with_item, has-filter, once-filter, has-with_items, once-with_items}

-- ---- facts

-- sets that have the same facts have the same facts after an edit
facts_with_same : (add : Bool) (i : Item) (xs ys : List Fact) → ((f : Fact) → has fact_cmp xs f ≡ has fact_cmp ys f)
    → (f : Fact) → has fact_cmp (facts_with add i xs) f ≡ has fact_cmp (facts_with add i ys) f
facts_with_same true (item.Fact g) xs ys same f =
    has-with_item facts_linear g xs f ∙ ap (λ b. is_eq (fact_cmp f g) || b) (same f) ∙ sym (has-with_item facts_linear g ys f)
facts_with_same false (item.Fact g) xs ys same f =
    has-filter facts_linear (λ y. not (is_eq (fact_cmp g y))) xs f ∙ ap (λ b. not (is_eq (fact_cmp g f)) && b) (same f)
    ∙ sym (has-filter facts_linear (λ y. not (is_eq (fact_cmp g y))) ys f)
facts_with_same true (item.Axiom a) xs ys same f = same f
facts_with_same true (item.Class c) xs ys same f = same f
facts_with_same true (item.Property p) xs ys same f = same f
facts_with_same false (item.Axiom a) xs ys same f = same f
facts_with_same false (item.Class c) xs ys same f = same f
facts_with_same false (item.Property p) xs ys same f = same f

pub edited_facts_same : (edits : List Edit) (xs ys : List Fact) → ((f : Fact) → has fact_cmp xs f ≡ has fact_cmp ys f)
    → (f : Fact) → has fact_cmp (edited_facts edits xs) f ≡ has fact_cmp (edited_facts edits ys) f
edited_facts_same [] xs ys same = same
edited_facts_same (e ∷ edits) xs ys same =
    edited_facts_same edits (facts_with e.add e.item xs) (facts_with e.add e.item ys) (facts_with_same e.add e.item xs ys same)

facts_with_once : (add : Bool) (i : Item) (xs : List Fact) → IsOnce fact_cmp xs → IsOnce fact_cmp (facts_with add i xs)
facts_with_once true (item.Fact g) xs once = once-with_item facts_linear g xs once
facts_with_once false (item.Fact g) xs once = once-filter (λ y. not (is_eq (fact_cmp g y))) xs once
facts_with_once true (item.Axiom a) xs once = once
facts_with_once true (item.Class c) xs once = once
facts_with_once true (item.Property p) xs once = once
facts_with_once false (item.Axiom a) xs once = once
facts_with_once false (item.Class c) xs once = once
facts_with_once false (item.Property p) xs once = once

pub edited_facts_once : (edits : List Edit) (xs : List Fact) → IsOnce fact_cmp xs → IsOnce fact_cmp (edited_facts edits xs)
edited_facts_once [] xs once = once
edited_facts_once (e ∷ edits) xs once = edited_facts_once edits (facts_with e.add e.item xs) (facts_with_once e.add e.item xs once)

-- ---- signatures

or_right : (a b : Bool) → b ≡ true → (a || b) ≡ true
or_right true b e = refl
or_right false b e = e

or_left : (a b : Bool) → a ≡ true → (a || b) ≡ true
or_left true b e = refl
or_left false b e = absurd (by e)
  where
    by : false ≡ true → ⊥
    by e = subst (λ b. cond b ⊥ (Unit {0})) e tt

pub part_itself : (s : Signature) → IsPart s s
part_itself s = record { classes = λ n h. h; roles = λ n h. h }

pub part_trans : (s t u : Signature) → IsPart s t → IsPart t u → IsPart s u
part_trans s t u p q = record { classes = λ n h. q.classes n (p.classes n h); roles = λ n h. q.roles n (p.roles n h) }

pub signature_grows : (add : Bool) (i : Item) (s : Signature) → IsPart s (signature_with add i s)
signature_grows true i s = record {
  classes = λ n h. has-with_items numbers_linear (item_classes i) s.classes n ∙ or_right (has nat_cmp (item_classes i) n) (has nat_cmp s.classes n) h;
  roles = λ n h. has-with_items numbers_linear (item_properties i) s.roles n ∙ or_right (has nat_cmp (item_properties i) n) (has nat_cmp s.roles n) h;
}
signature_grows false i s = part_itself s

pub edited_signature_grows : (edits : List Edit) (s : Signature) → IsPart s (edited_signature edits s)
edited_signature_grows [] s = part_itself s
edited_signature_grows (e ∷ edits) s =
    part_trans s (signature_with e.add e.item s) (edited_signature edits (signature_with e.add e.item s)) (signature_grows e.add e.item s)
    (edited_signature_grows edits (signature_with e.add e.item s))

signature_with_once : (add : Bool) (i : Item) (s : Signature) → HasEachOnce s → HasEachOnce (signature_with add i s)
signature_with_once true i s is = record {
  classes = once-with_items numbers_linear (item_classes i) s.classes is.classes;
  roles = once-with_items numbers_linear (item_properties i) s.roles is.roles;
}
signature_with_once false i s is = is

pub edited_signature_once : (edits : List Edit) (s : Signature) → HasEachOnce s → HasEachOnce (edited_signature edits s)
edited_signature_once [] s is = is
edited_signature_once (e ∷ edits) s is = edited_signature_once edits (signature_with e.add e.item s) (signature_with_once e.add e.item s is)

-- ---- the facts' predicates are in the signature

pub knows_more : (s t : Signature) → IsPart s t → (f : Fact) → knows s f ≡ true → knows t f ≡ true
knows_more s t part (Is c x) h = part.classes c h
knows_more s t part (Link p x y) h = part.roles p h

-- an added fact is known
knows_added : (g : Fact) (s : Signature) → knows (signature_with true (item.Fact g) s) g ≡ true
knows_added (Is c x) s =
    has-with_items numbers_linear (c ∷ []) s.classes c ∙ or_left (is_eq (nat_cmp c c) || false) (has nat_cmp s.classes c) (or_left (is_eq (nat_cmp c c)) false (same_itself numbers_linear c))
knows_added (Link p x y) s =
    has-with_items numbers_linear (p ∷ []) s.roles p ∙ or_left (is_eq (nat_cmp p p) || false) (has nat_cmp s.roles p) (or_left (is_eq (nat_cmp p p)) false (same_itself numbers_linear p))

known_with : (add : Bool) (i : Item) (s : Signature) (facts : List Fact) → AreKnown s facts → AreKnown (signature_with add i s) (facts_with add i facts)
known_with true (item.Fact g) s facts known f h = by (is_eq (fact_cmp f g)) refl (sym (has-with_item facts_linear g facts f) ∙ h)
  where
    by : (b : Bool) → is_eq (fact_cmp f g) ≡ b → (b || has fact_cmp facts f) ≡ true → knows (signature_with true (item.Fact g) s) f ≡ true
    by true e h = ap (knows (signature_with true (item.Fact g) s)) (same_is facts_linear f g e) ∙ knows_added g s
    by false e h = knows_more s (signature_with true (item.Fact g) s) (signature_grows true (item.Fact g) s) f (known f h)
known_with false (item.Fact g) s facts known f h = known f (by (not (is_eq (fact_cmp g f))) (sym (has-filter facts_linear (λ y. not (is_eq (fact_cmp g y))) facts f) ∙ h))
  where
    by : (b : Bool) → (b && has fact_cmp facts f) ≡ true → has fact_cmp facts f ≡ true
    by true e = e
    by false e = absurd (subst (λ b. cond b ⊥ (Unit {0})) e tt)
known_with true (item.Axiom a) s facts known f h = knows_more s (signature_with true (item.Axiom a) s) (signature_grows true (item.Axiom a) s) f (known f h)
known_with true (item.Class c) s facts known f h = knows_more s (signature_with true (item.Class c) s) (signature_grows true (item.Class c) s) f (known f h)
known_with true (item.Property p) s facts known f h = knows_more s (signature_with true (item.Property p) s) (signature_grows true (item.Property p) s) f (known f h)
known_with false (item.Axiom a) s facts known f h = known f h
known_with false (item.Class c) s facts known f h = known f h
known_with false (item.Property p) s facts known f h = known f h

pub edited_known : (edits : List Edit) (s : Signature) (facts : List Fact) → AreKnown s facts → AreKnown (edited_signature edits s) (edited_facts edits facts)
edited_known [] s facts known = known
edited_known (e ∷ edits) s facts known =
    edited_known edits (signature_with e.add e.item s) (facts_with e.add e.item facts) (known_with e.add e.item s facts known)

-- ---- the last edit that names a fact decides

turned_eq : (f g : Fact) → is_eq (fact_cmp g f) ≡ is_eq (fact_cmp f g)
turned_eq f g = by (is_eq (fact_cmp f g)) (is_eq (fact_cmp g f)) refl refl
  where
    by : (a b : Bool) → is_eq (fact_cmp f g) ≡ a → is_eq (fact_cmp g f) ≡ b → b ≡ a
    by true true d e = refl
    by true false d e = sym (sym (same_itself facts_linear g) ∙ ap (λ z. is_eq (fact_cmp g z)) (sym (same_is facts_linear f g d)) ∙ e)
    by false true d e = sym (sym d ∙ ap (λ z. is_eq (fact_cmp z g)) (sym (same_is facts_linear g f e)) ∙ same_itself facts_linear g)
    by false false d e = refl

decides_one : (add : Bool) (i : Item) (xs : List Fact) (f : Fact) → has fact_cmp (facts_with add i xs) f ≡ cond (names_fact f i) add (has fact_cmp xs f)
decides_one true (item.Fact g) xs f = has-with_item facts_linear g xs f ∙ by (is_eq (fact_cmp f g)) (has fact_cmp xs f)
  where
    by : (a b : Bool) → (a || b) ≡ cond a true b
    by true b = refl
    by false b = refl
decides_one false (item.Fact g) xs f =
    has-filter facts_linear (λ y. not (is_eq (fact_cmp g y))) xs f ∙ ap (λ b. not b && has fact_cmp xs f) (turned_eq f g)
    ∙ by (is_eq (fact_cmp f g)) (has fact_cmp xs f)
  where
    by : (a b : Bool) → (not a && b) ≡ cond a false b
    by true b = refl
    by false b = refl
decides_one true (item.Axiom a) xs f = refl
decides_one true (item.Class c) xs f = refl
decides_one true (item.Property p) xs f = refl
decides_one false (item.Axiom a) xs f = refl
decides_one false (item.Class c) xs f = refl
decides_one false (item.Property p) xs f = refl

pub edits_decide : (edits : List Edit) (xs : List Fact) (f : Fact) → has fact_cmp (edited_facts edits xs) f ≡ decided edits f (has fact_cmp xs f)
edits_decide [] xs f = refl
edits_decide (e ∷ edits) xs f = edits_decide edits (facts_with e.add e.item xs) f ∙ ap (decided edits f) (decides_one e.add e.item xs f)
