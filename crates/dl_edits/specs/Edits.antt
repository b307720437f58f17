-- What edits make of a set of axioms, a set of facts and a signature, one edit after another. Edits are this project's
-- own.
use Rattle.std.specs.Prelude.{Bool, true, false, cond, List, [], ◌∷◌}
use Rattle.std.specs.Ordering.{nat_cmp, is_eq}
use Rattle.dl_terms.specs.Order.{axiom_cmp, fact_cmp}
use Rattle.dl_terms.specs.declared.axiom.Axiom.{Axiom}
use Rattle.dl_terms.specs.declared.axiom.Fact.{Fact}
use Rattle.dl_terms.specs.declared.axiom.Signature.{Signature}
use Rattle.dl_edits.specs.Sets.{with_item, without_item, with_items}
use Rattle.dl_edits.specs.Names.{item_classes, item_properties}
use Rattle.dl_event.specs.declared.event.Item.{Item}
use Rattle.dl_event.specs.declared.event.Item.TheVariants as item
use Rattle.dl_event.specs.declared.event.Edit.{Edit}

-- the axioms after one edit: an item is added or removed
abbrev pub axioms_with : Bool → Item → List Axiom → List Axiom
axioms_with true (item.Axiom a) axioms = with_item axiom_cmp a axioms
axioms_with false (item.Axiom a) axioms = without_item axiom_cmp a axioms
axioms_with add (item.Fact f) axioms = axioms
axioms_with add (item.Class c) axioms = axioms
axioms_with add (item.Property p) axioms = axioms

-- the facts after one edit
abbrev pub facts_with : Bool → Item → List Fact → List Fact
facts_with true (item.Fact f) facts = with_item fact_cmp f facts
facts_with false (item.Fact f) facts = without_item fact_cmp f facts
facts_with add (item.Axiom a) facts = facts
facts_with add (item.Class c) facts = facts
facts_with add (item.Property p) facts = facts

-- the signature after one edit: it gains what an added item names, and never shrinks
abbrev pub signature_with : Bool → Item → Signature → Signature
signature_with true i signature = record {
  classes = with_items nat_cmp (item_classes i) signature.classes;
  roles = with_items nat_cmp (item_properties i) signature.roles;
}
signature_with false i signature = signature

-- the axioms, the facts and the signature after edits
abbrev pub edited_axioms : List Edit → List Axiom → List Axiom
edited_axioms [] axioms = axioms
edited_axioms (e ∷ edits) axioms = edited_axioms edits (axioms_with e.add e.item axioms)

abbrev pub edited_facts : List Edit → List Fact → List Fact
edited_facts [] facts = facts
edited_facts (e ∷ edits) facts = edited_facts edits (facts_with e.add e.item facts)

abbrev pub edited_signature : List Edit → Signature → Signature
edited_signature [] signature = signature
edited_signature (e ∷ edits) signature = edited_signature edits (signature_with e.add e.item signature)

-- an edit of an item names a fact
abbrev pub names_fact : Fact → Item → Bool
names_fact f (item.Fact g) = is_eq (fact_cmp f g)
names_fact f (item.Axiom a) = false
names_fact f (item.Class c) = false
names_fact f (item.Property p) = false

-- whether a fact is there after edits: the last edit that names it decides
abbrev pub decided : List Edit → Fact → Bool → Bool
decided [] f b = b
decided (e ∷ edits) f b = decided edits f (cond (names_fact f e.item) e.add b)
