-- The set of the names of a signature and of added items is the signature after the edits.
use Rattle.std.proofs.Common.{◌≡◌, ℕ, Bool, true, false, ◌||◌, List, [], ◌∷◌, ◌++◌, flat_map, refl, sym, ap, ◌∙◌, append-nil}
use Rattle.std.specs.Ordering.{is_eq, nat_cmp}
use Rattle.std.specs.List.Sorted.{IsStrictlyIncreasing}
use Rattle.std.proofs.lemmas.List.Folds.{list_any-append}
use Rattle.std.proofs.lemmas.Map.Keys.{sorted_from_strictly_increasing}
use Rattle.dl_terms.specs.Sets.{IsSetOf}
use Rattle.dl_terms.specs.declared.axiom.Signature.{Signature}
use Rattle.dl_terms.proofs.AnswerLemmas.{IsSetOf-unique}
use Rattle.dl_terms.proofs.OrderLemmas.{numbers_linear}
use Rattle.dl_epoch.specs.Known.{IsSignature}
use Rattle.dl_edits.specs.Edits.{signature_with, edited_signature}
use Rattle.dl_edits.specs.Names.{item_classes, item_properties, added_classes, added_properties}
use Rattle.dl_edits.specs.Sets.{has, with_items}
use Rattle.dl_event.specs.declared.event.Edit.{Edit}
use Rattle.dl_edits.proofs.AscendLemmas.{edited_signature-sorted}
use Rattle.dl_edits.proofs.SetLemmas.{has-with_items, has_there, there_has}

abbrev has_number : List ℕ → ℕ → Bool
has_number = has nat_cmp

has-append : (xs ys : List ℕ) (n : ℕ) → has_number (xs ++ ys) n ≡ (has_number xs n || has_number ys n)
has-append xs ys n = list_any-append (λ y. is_eq (nat_cmp n y)) xs ys

-- names that are put to a set, and more behind them
put_first : (names set more : List ℕ) (n : ℕ) → has_number (with_items nat_cmp names set ++ more) n ≡ has_number (set ++ (names ++ more)) n
put_first names set more n =
    has-append (with_items nat_cmp names set) more n ∙ ap (λ b. b || has_number more n) (has-with_items numbers_linear names set n)
    ∙ turned (has_number names n) (has_number set n) (has_number more n)
    ∙ sym (has-append set (names ++ more) n ∙ ap (λ b. has_number set n || b) (has-append names more n))
  where
    turned : (a b c : Bool) → ((a || b) || c) ≡ (b || (a || c))
    turned true true c = refl
    turned true false c = refl
    turned false b c = refl

-- what the lists of the signature have after edits
classes_after : (edits : List Edit) (s : Signature) (n : ℕ)
    → has_number (edited_signature edits s).classes n ≡ has_number (s.classes ++ flat_map added_classes edits) n
classes_after [] s n = ap (λ xs. has_number xs n) (sym (append-nil s.classes))
classes_after (e ∷ edits) s n = classes_after edits (signature_with e.add e.item s) n ∙ by e.add
  where
    by : (add : Bool) → has_number ((signature_with add e.item s).classes ++ flat_map added_classes edits) n
        ≡ has_number (s.classes ++ flat_map added_classes (record { add = add; item = e.item } ∷ edits)) n
    by true = put_first (item_classes e.item) s.classes (flat_map added_classes edits) n
    by false = refl

roles_after : (edits : List Edit) (s : Signature) (n : ℕ)
    → has_number (edited_signature edits s).roles n ≡ has_number (s.roles ++ flat_map added_properties edits) n
roles_after [] s n = ap (λ xs. has_number xs n) (sym (append-nil s.roles))
roles_after (e ∷ edits) s n = roles_after edits (signature_with e.add e.item s) n ∙ by e.add
  where
    by : (add : Bool) → has_number ((signature_with add e.item s).roles ++ flat_map added_properties edits) n
        ≡ has_number (s.roles ++ flat_map added_properties (record { add = add; item = e.item } ∷ edits)) n
    by true = put_first (item_properties e.item) s.roles (flat_map added_properties edits) n
    by false = refl

-- a list in order that has what others have is the set of them
set_is : (set xs items : List ℕ) → IsSetOf nat_cmp set items → IsStrictlyIncreasing xs → ((n : ℕ) → has_number xs n ≡ has_number items n) → set ≡ xs
set_is set xs items of up same = IsSetOf-unique numbers_linear set xs items of (record {
  ascending = sorted_from_strictly_increasing xs up;
  members = λ n. (
    λ c. there_has numbers_linear items n (sym (same n) ∙ has_there numbers_linear xs n c),
    λ c. there_has numbers_linear xs n (same n ∙ has_there numbers_linear items n c),
  );
})

pub signature_is : (edits : List Edit) (s : Signature) (classes roles : List ℕ) → IsSignature s
    → IsSetOf nat_cmp classes (s.classes ++ flat_map added_classes edits) → IsSetOf nat_cmp roles (s.roles ++ flat_map added_properties edits)
    → record { classes = classes; roles = roles } ≡ edited_signature edits s
signature_is edits s classes roles is of_classes of_roles =
    let up = edited_signature-sorted edits s is in
    let c = set_is classes (edited_signature edits s).classes (s.classes ++ flat_map added_classes edits) of_classes up.classes (classes_after edits s) in
    let r = set_is roles (edited_signature edits s).roles (s.roles ++ flat_map added_properties edits) of_roles up.roles (roles_after edits s) in
    λ i. record { classes = c i; roles = r i }
