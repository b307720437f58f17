-- Axioms after edits: a signature has their names, and none has an auxiliary role.
use Rattle.std.proofs.Common.{◌≡◌, ℕ, Bool, true, false, not, cond, ◌||◌, List, [], ◌∷◌, All, Contains, refl, sym, ap, subst, ◌∙◌}
use Rattle.std.specs.Ordering.{is_eq, nat_cmp}
use Rattle.std.proofs.lemmas.List.Elements.{All-weaker, All-filter, All-head, All-tail, All-contains_itself}
use Rattle.dl_terms.specs.Auxiliaries.{HasNoAuxiliary}
use Rattle.dl_terms.specs.Order.{axiom_cmp}
use Rattle.dl_terms.specs.declared.role.Base.{Base}
use Rattle.dl_terms.specs.declared.role.Base.TheVariants.{Named, Auxiliary}
use Rattle.dl_terms.specs.declared.role.Role.{Role}
use Rattle.dl_terms.specs.declared.role.Basic.{Basic}
use Rattle.dl_terms.specs.declared.role.Basic.TheVariants as basic
use Rattle.dl_terms.specs.declared.axiom.Part.{Part}
use Rattle.dl_terms.specs.declared.axiom.Part.TheVariants as part
use Rattle.dl_terms.specs.declared.axiom.Axiom.{Axiom}
use Rattle.dl_terms.specs.declared.axiom.Axiom.TheVariants.{SubClass, EquivalentClasses, DisjointClasses, SubRole, EquivalentRoles, DisjointRoles, InverseRoles, Domain, Range, Symmetric, Asymmetric, Irreflexive}
use Rattle.dl_terms.specs.declared.axiom.Signature.{Signature}
use Rattle.dl_terms.proofs.OrderLemmas.{numbers_linear}
use Rattle.dl_hier.specs.Rows.{IsNamedIn}
use Rattle.dl_epoch.specs.Known.{IsRoleIn, IsConceptIn, IsPartIn, IsAxiomIn}
use Rattle.dl_row.specs.Lists.{put}
use Rattle.dl_edits.specs.Sets.{has, with_items}
use Rattle.dl_edits.specs.Names.{item_classes, item_properties}
use Rattle.dl_edits.specs.Edits.{axioms_with, edited_axioms, signature_with, edited_signature}
use Rattle.dl_edits.specs.Signatures.{IsPart}
use Rattle.dl_event.specs.Auxiliaries.{ItemHasNoAuxiliary}
use Rattle.dl_event.specs.declared.event.Edit.{Edit}
use Rattle.dl_event.specs.declared.event.Item.{Item}
use Rattle.dl_event.specs.declared.event.Item.TheVariants as item
use Rattle.dl_edits.proofs.SetLemmas.{has-with_items, has_there, there_has}
use Rattle.dl_epoch.proofs.PredicateLemmas.{axiom_is_in}
use Rattle.dl_edits.proofs.OrderedLemmas.{All-put}
use Rattle.dl_edits.proofs.EditLemmas.{signature_grows}

-- ---- a larger signature has the names too

module _ (s t : Signature) (grows : IsPart s t) where
  class_more : (c : ℕ) → Contains s.classes c → Contains t.classes c
  class_more c h = there_has numbers_linear t.classes c (grows.classes c (has_there numbers_linear s.classes c h))

  base_more : (b : Base) → IsNamedIn s.roles b → IsNamedIn t.roles b
  base_more (Named p) h = there_has numbers_linear t.roles p (grows.roles p (has_there numbers_linear s.roles p h))
  base_more (Auxiliary p i c) h = tt

  concept_more : (b : Basic) → IsConceptIn s b → IsConceptIn t b
  concept_more (basic.Class c) h = class_more c h
  concept_more (basic.SomeOf r) h = base_more r.base h

  part_more : (p : Part) → IsPartIn s p → IsPartIn t p
  part_more part.Thing h = tt
  part_more (part.Class c) h = class_more c h
  part_more (part.Any r) h = base_more r.base h
  part_more (part.Fill r c) h = (base_more r.base h.0, class_more c h.1)
  part_more (part.Not b) h = concept_more b h

  parts_more : (ps : List Part) → All (IsPartIn s) ps → All (IsPartIn t) ps
  parts_more = All-weaker (IsPartIn s) (IsPartIn t) part_more

  concepts_more : (bs : List Basic) → All (IsConceptIn s) bs → All (IsConceptIn t) bs
  concepts_more = All-weaker (IsConceptIn s) (IsConceptIn t) concept_more

  roles_more : (rs : List Role) → All (IsRoleIn s) rs → All (IsRoleIn t) rs
  roles_more = All-weaker (IsRoleIn s) (IsRoleIn t) (λ r. base_more r.base)

  axiom_more : (a : Axiom) → IsAxiomIn s a → IsAxiomIn t a
  axiom_more (SubClass b ps) h = (concept_more b h.0, parts_more ps h.1)
  axiom_more (EquivalentClasses bs) h = concepts_more bs h
  axiom_more (DisjointClasses bs) h = concepts_more bs h
  axiom_more (SubRole r q) h = (base_more r.base h.0, base_more q.base h.1)
  axiom_more (EquivalentRoles rs) h = roles_more rs h
  axiom_more (DisjointRoles rs) h = roles_more rs h
  axiom_more (InverseRoles r q) h = (base_more r.base h.0, base_more q.base h.1)
  axiom_more (Domain r ps) h = (base_more r.base h.0, parts_more ps h.1)
  axiom_more (Range r ps) h = (base_more r.base h.0, parts_more ps h.1)
  axiom_more (Symmetric r) h = base_more r.base h
  axiom_more (Asymmetric r) h = base_more r.base h
  axiom_more (Irreflexive r) h = base_more r.base h

-- the signature that an added axiom gives has its names
added_in : (s : Signature) (a : Axiom) → IsAxiomIn (signature_with true (item.Axiom a) s) a
added_in s a =
    axiom_is_in (signature_with true (item.Axiom a) s) a (each (item_classes (item.Axiom a)) s.classes)
    (each (item_properties (item.Axiom a)) s.roles)
  where
    gained : (ys xs : List ℕ) (n : ℕ) → Contains ys n → Contains (with_items nat_cmp ys xs) n
    gained ys xs n c =
        there_has numbers_linear (with_items nat_cmp ys xs) n
        (has-with_items numbers_linear ys xs n ∙ ap (λ b. b || has nat_cmp xs n) (has_there numbers_linear ys n c))

    each : (ys xs : List ℕ) → All (Contains (with_items nat_cmp ys xs)) ys
    each ys xs = λ k d h. gained ys xs _ (All-contains_itself ys k d h)

-- ---- after edits

-- what holds of all axioms and of an added one holds of all after an edit
axioms_with-all : (P : Axiom → Type 0) (add : Bool) (i : Item) (axioms : List Axiom) → ((a : Axiom) → add ≡ true → i ≡ item.Axiom a → P a)
    → All P axioms → All P (axioms_with add i axioms)
axioms_with-all P true (item.Axiom a) axioms one all = by (has axiom_cmp axioms a)
  where
    by : (b : Bool) → All P (cond b axioms (put axiom_cmp a axioms))
    by true = all
    by false = All-put P axiom_cmp a axioms (one a refl refl) all
axioms_with-all P false (item.Axiom a) axioms one all = All-filter (λ y. not (is_eq (axiom_cmp a y))) P axioms all
axioms_with-all P true (item.Fact f) axioms one all = all
axioms_with-all P true (item.Class c) axioms one all = all
axioms_with-all P true (item.Property p) axioms one all = all
axioms_with-all P false (item.Fact f) axioms one all = all
axioms_with-all P false (item.Class c) axioms one all = all
axioms_with-all P false (item.Property p) axioms one all = all

-- the signature after edits has the names of the axioms after them
pub edited_axioms-known : (edits : List Edit) (s : Signature) (axioms : List Axiom) → All (IsAxiomIn s) axioms
    → All (IsAxiomIn (edited_signature edits s)) (edited_axioms edits axioms)
edited_axioms-known [] s axioms all = all
edited_axioms-known (e ∷ edits) s axioms all =
    let t = signature_with e.add e.item s in
    edited_axioms-known edits t (axioms_with e.add e.item axioms)
    (axioms_with-all (IsAxiomIn t) e.add e.item axioms
    (λ a add is. subst (λ i. IsAxiomIn (signature_with e.add i s) a) (sym is) (subst (λ b. IsAxiomIn (signature_with b (item.Axiom a) s) a) (sym add) (added_in s a)))
    (All-weaker (IsAxiomIn s) (IsAxiomIn t) (axiom_more s t (signature_grows e.add e.item s)) axioms all))

-- no axiom after edits has an auxiliary role, where none had and no added one has
pub edited_axioms-plain : (edits : List Edit) (axioms : List Axiom) → All (λ e. ItemHasNoAuxiliary e.item) edits → All HasNoAuxiliary axioms
    → All HasNoAuxiliary (edited_axioms edits axioms)
edited_axioms-plain [] axioms plain all = all
edited_axioms-plain (e ∷ edits) axioms plain all =
    edited_axioms-plain edits (axioms_with e.add e.item axioms) (All-tail (λ e. ItemHasNoAuxiliary e.item) e edits plain)
    (axioms_with-all HasNoAuxiliary e.add e.item axioms (λ a add is. subst ItemHasNoAuxiliary is (All-head (λ e. ItemHasNoAuxiliary e.item) e edits plain)) all)
