-- What edits make of a set of axioms, and of the library's set of them.
use Rattle.std.proofs.Common.{◌≡◌, ℕ, ◌+◌, ◌<◌, Bool, true, false, ◌||◌, List, [], ◌∷◌, ◌++◌, length, take, get_or, All, refl, sym, ap, ◌∙◌, true≢false, arith, get_or-take}
use Rattle.std.proofs.Math.Path.{fun_ext}
use Rattle.std.specs.declared.cmp.Ordering.{Ordering}
use Rattle.std.specs.declared.cmp.Ordering.TheVariants.{Less}
use Rattle.std.specs.List.{list_any}
use Rattle.std.specs.List.Sorted.{IsStrictlySortedBy}
use Rattle.std.specs.BTreeMap.{is_at}
use Rattle.std.specs.BTreeSet.{insert_key}
use Rattle.std.specs.Set.{remove_key}
use Rattle.std.proofs.lemmas.List.{take_more, length-take-le, get_or_default}
use Rattle.std.proofs.lemmas.List.Elements.{recursion_from_All}
use Rattle.std.proofs.lemmas.Map.Keys.{Less-from_sorted}
use Rattle.dl_terms.specs.Order.{axiom_cmp}
use Rattle.dl_terms.specs.declared.axiom.Axiom.{Axiom}
use Rattle.dl_terms.proofs.OrderLemmas.{axioms_linear}
use Rattle.dl_edits.specs.Decided.{is_axiom}
use Rattle.dl_edits.specs.Edits.{axioms_with, edited_axioms}
use Rattle.dl_event.specs.declared.event.Item.{Item}
use Rattle.dl_event.specs.declared.event.Item.TheVariants as item
use Rattle.dl_event.specs.declared.event.Edit.{Edit}
use Rattle.dl_edits.proofs.KeyLemmas.{insert_key-with, remove_key-without, insert_key-last}

-- ---- no edit of an axiom changes nothing

other_item : (add : Bool) (i : Item) (axioms : List Axiom) → is_axiom i ≡ false → axioms_with add i axioms ≡ axioms
other_item add (item.Axiom a) axioms other = absurd (true≢false other)
other_item true (item.Fact f) axioms other = refl
other_item true (item.Class c) axioms other = refl
other_item true (item.Property p) axioms other = refl
other_item false (item.Fact f) axioms other = refl
other_item false (item.Class c) axioms other = refl
other_item false (item.Property p) axioms other = refl

pub edited_none : (edits : List Edit) (axioms : List Axiom) → list_any (λ e. is_axiom e.item) edits ≡ false → edited_axioms edits axioms ≡ axioms
edited_none [] axioms none = refl
edited_none (e ∷ edits) axioms none = by (is_axiom e.item) refl none (edited_none edits axioms)
  where
    by : (b : Bool) → is_axiom e.item ≡ b → (b || list_any (λ d. is_axiom d.item) edits) ≡ false
        → (list_any (λ d. is_axiom d.item) edits ≡ false → edited_axioms edits axioms ≡ axioms)
        → edited_axioms edits (axioms_with e.add e.item axioms) ≡ axioms
    by true is none rest = absurd (true≢false none)
    by false is none rest = ap (edited_axioms edits) (other_item e.add e.item axioms is) ∙ rest none

-- ---- the library's set, by an order that agrees with that of axioms

module _ {R : Axiom → Axiom → Ordering} (agrees : (a b : Axiom) → R a b ≡ axiom_cmp a b) where
  same_order : R ≡ axiom_cmp
  same_order = fun_ext (λ a. fun_ext (λ b. agrees a b))

  pub key_added : (keys after : List Axiom) (add : Bool) (i : Item) (a copy : Axiom) → add ≡ true → i ≡ item.Axiom a → copy ≡ a
      → IsStrictlySortedBy axiom_cmp keys → after ≡ insert_key R keys copy → after ≡ axioms_with add i keys
  key_added keys after add i a copy adds is same up e =
      e ∙ ap (λ S. insert_key S keys copy) same_order ∙ insert_key-with axioms_linear keys copy up
      ∙ ap (λ b. axioms_with true (item.Axiom b) keys) same ∙ ap (λ b. axioms_with b (item.Axiom a) keys) (sym adds)
      ∙ ap (λ j. axioms_with add j keys) (sym is)

  pub key_removed : (keys after : List Axiom) (add : Bool) (i : Item) (a : Axiom) → add ≡ false → i ≡ item.Axiom a
      → IsStrictlySortedBy axiom_cmp keys → after ≡ remove_key (is_at (R a)) keys → after ≡ axioms_with add i keys
  key_removed keys after add i a removes is up e =
      e ∙ ap (λ S. remove_key (is_at (S a)) keys) same_order ∙ remove_key-without axioms_linear keys a up
      ∙ ap (λ b. axioms_with b (item.Axiom a) keys) (sym removes) ∙ ap (λ j. axioms_with add j keys) (sym is)

  -- the first so many of axioms that ascend, and the next one
  pub key_next : (axioms keys after : List Axiom) (k : ℕ) (a copy : Axiom) → IsStrictlySortedBy axiom_cmp axioms → k < length axioms
      → a ≡ get_or axioms k a → copy ≡ a → keys ≡ take k axioms → after ≡ insert_key R keys copy → after ≡ take (k + 1) axioms
  key_next axioms keys after k a copy up inside here same are e =
      e ∙ ap (λ S. insert_key S keys copy) same_order ∙ ap (λ b. insert_key axiom_cmp keys b) same ∙ ap (λ xs. insert_key axiom_cmp xs a) are
      ∙ insert_key-last axioms_linear (take k axioms) a (recursion_from_All (λ b. axiom_cmp b a ≡ Less) (take k axioms) below)
      ∙ ap (λ b. take k axioms ++ b ∷ []) here ∙ sym (take_more axioms k a inside)
    where
      as_long : length (take k axioms) ≡ k
      as_long = length-take-le k axioms (omega arith)

      below : All (λ b. axiom_cmp b a ≡ Less) (take k axioms)
      below j d within =
          let early : j < k = omega (arith, as_long, within) in
          ap (λ b. axiom_cmp b a) (get_or-take k axioms j d early)
          ∙ sym (ap (axiom_cmp (get_or axioms j d)) (same_at d))
          ∙ Less-from_sorted axiom_cmp axioms j k d up early inside
        where
          same_at : (d : Axiom) → get_or axioms k d ≡ a
          same_at d = sym (here ∙ get_or_default axioms k a d inside)
