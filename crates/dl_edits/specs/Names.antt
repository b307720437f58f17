-- The predicates that items name and edits add, and how many there are with the auxiliary roles. That measure is this
-- project's own.
use Rattle.std.specs.Prelude.{ℕ, ◌+◌, cond, List, [], ◌∷◌, length}
use Rattle.std.specs.Ordering.{nat_cmp, ordering_then}
use Rattle.std.specs.declared.cmp.Ordering.{Ordering}
use Rattle.dl_terms.specs.Order.{role_cmp}
use Rattle.dl_terms.specs.declared.role.Role.{Role}
use Rattle.dl_terms.specs.declared.axiom.Axiom.{Axiom}
use Rattle.dl_terms.specs.declared.axiom.Signature.{Signature}
use Rattle.dl_normal.specs.Filled.{filled_pairs}
use Rattle.dl_epoch.specs.Predicates.{axiom_classes, axiom_properties, fact_classes, fact_properties}
use Rattle.dl_edits.specs.Sets.{with_items}
use Rattle.dl_event.specs.declared.event.Edit.{Edit}
use Rattle.dl_event.specs.declared.event.Item.{Item}
use Rattle.dl_event.specs.declared.event.Item.TheVariants as item

-- the classes and properties that an item names
abbrev pub item_classes : Item → List ℕ
item_classes (item.Axiom a) = axiom_classes a
item_classes (item.Fact f) = fact_classes f
item_classes (item.Class c) = c ∷ []
item_classes (item.Property p) = []

abbrev pub item_properties : Item → List ℕ
item_properties (item.Axiom a) = axiom_properties a
item_properties (item.Fact f) = fact_properties f
item_properties (item.Class c) = []
item_properties (item.Property p) = p ∷ []

-- those that an edit adds
abbrev pub added_classes : Edit → List ℕ
added_classes e = cond e.add (item_classes e.item) []

abbrev pub added_properties : Edit → List ℕ
added_properties e = cond e.add (item_properties e.item) []

-- an order of auxiliary roles, which tells them apart
abbrev pub auxiliary_cmp : Role × ℕ → Role × ℕ → Ordering
auxiliary_cmp x y = ordering_then (role_cmp x.0 y.0) (nat_cmp x.1 y.1)

-- how many auxiliary roles axioms have: the different pairs of a role and a class in their parts
abbrev pub auxiliaries : List Axiom → ℕ
auxiliaries axioms = length (with_items auxiliary_cmp (filled_pairs axioms) [])

-- the names of a signature and the auxiliary roles of axioms, together
abbrev pub predicates : List Axiom → Signature → ℕ
predicates axioms signature = length signature.classes + length signature.roles + auxiliaries axioms
