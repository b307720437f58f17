-- What edits say of a fact, and what a map of facts has that takes it up.
use Rattle.std.proofs.Common.{◌≡◌, ◌↔◌, ℕ, ◌<◌, Bool, true, false, cond, ◌||◌, List, [], ◌∷◌, length, get_or, Contains, unwrap_or, refl, sym, ap, subst, ◌∙◌, true≢false}
use Rattle.std.proofs.Math.Path.{fun_ext}
use Rattle.std.specs.declared.cmp.Ordering.{Ordering}
use Rattle.std.specs.declared.option.Option.{Option}
use Rattle.std.specs.declared.option.Option.TheVariants.{Some, None}
use Rattle.std.specs.Ordering.{is_eq}
use Rattle.std.specs.Cmp.{eq_by_cmp_equiv}
use Rattle.std.specs.List.{list_any, slice_get}
use Rattle.std.specs.BTreeMap.{BTreeMap, IsOrdered, is_at, get}
use Rattle.std.proofs.lemmas.Map.Entries.{place_from_lookup, btree_map_get_place}
use Rattle.std.proofs.lemmas.Option.{slice_get-get_or, get_or_from_slice_get, slice_get_within}
use Rattle.dl_terms.specs.Order.{fact_cmp}
use Rattle.dl_terms.specs.declared.axiom.Fact.{Fact}
use Rattle.dl_terms.proofs.OrderLemmas.{facts_linear}
use Rattle.dl_row.proofs.CountLemmas.{same_is}
use Rattle.dl_edits.specs.Edits.{names_fact, decided}
use Rattle.dl_edits.specs.Decided.{Decide, said}
use Rattle.dl_event.specs.declared.event.Item.{Item}
use Rattle.dl_event.specs.declared.event.Item.TheVariants as item
use Rattle.dl_event.specs.declared.event.Edit.{Edit}

-- ---- edits

abbrev naming : List Edit → Fact → Bool
naming edits f = list_any (λ e. names_fact f e.item) edits

-- what is decided is what was said, or else what was before
decided_said : (edits : List Edit) (f : Fact) (told : Option Bool) (before : Bool)
    → decided edits f (unwrap_or told before) ≡ unwrap_or (said edits f told) before
decided_said [] f told before = refl
decided_said (e ∷ edits) f told before =
    ap (decided edits f) (by (names_fact f e.item)) ∙ decided_said edits f (cond (names_fact f e.item) (Some e.add) told) before
  where
    by : (b : Bool) → cond b e.add (unwrap_or told before) ≡ unwrap_or (cond b (Some e.add) told) before
    by true = refl
    by false = refl

-- what no edit names stays as it was
said_unnamed : (edits : List Edit) (f : Fact) (told : Option Bool) → naming edits f ≡ false → said edits f told ≡ told
said_unnamed [] f told none = refl
said_unnamed (e ∷ edits) f told none = by (names_fact f e.item) none (said_unnamed edits f told)
  where
    by : (b : Bool) → (b || naming edits f) ≡ false → (naming edits f ≡ false → said edits f told ≡ told)
        → said edits f (cond b (Some e.add) told) ≡ told
    by true none rest = absurd (true≢false none)
    by false none rest = rest none

-- of what one names, something is said
still_said : (edits : List Edit) (f : Fact) (b : Bool) → (there : Bool) × (said edits f (Some b) ≡ Some there)
still_said [] f b = (b, refl)
still_said (e ∷ edits) f b = by (names_fact f e.item) (still_said edits f e.add) (still_said edits f b)
  where
    by : (n : Bool) → (there : Bool) × (said edits f (Some e.add) ≡ Some there) → (there : Bool) × (said edits f (Some b) ≡ Some there)
        → (there : Bool) × (said edits f (cond n (Some e.add) (Some b)) ≡ Some there)
    by true new old = new
    by false new old = old

said_named : (edits : List Edit) (f : Fact) (told : Option Bool) → naming edits f ≡ true → (there : Bool) × (said edits f told ≡ Some there)
said_named [] f told named = absurd (true≢false (sym named))
said_named (e ∷ edits) f told named = by (names_fact f e.item) named (said_named edits f told)
  where
    by : (n : Bool) → (n || naming edits f) ≡ true → (naming edits f ≡ true → (there : Bool) × (said edits f told ≡ Some there))
        → (there : Bool) × (said edits f (cond n (Some e.add) told) ≡ Some there)
    by true named rest = still_said edits f e.add
    by false named rest = rest named

-- where nothing was said before, what is said is what is decided
pub Decide-said : (edits : List Edit) (f : Fact) (there : Bool) → said edits f None ≡ Some there → Decide edits f there
Decide-said edits f there is = record {
  named = by (naming edits f) refl;
  last = λ before. decided_said edits f None before ∙ ap (λ o. unwrap_or o before) is;
}
  where
    by : (b : Bool) → naming edits f ≡ b → naming edits f ≡ true
    by true e = e
    by false e = cc (said_unnamed edits f None e)

pub said-Decide : (edits : List Edit) (f : Fact) (there : Bool) → Decide edits f there → said edits f None ≡ Some there
said-Decide edits f there d =
    let n = said_named edits f None d.named in
    let same = sym (ap (λ o. unwrap_or o there) n.1) ∙ sym (decided_said edits f None there) ∙ d.last there in
    n.1 ∙ ap Some same

-- a fact that an edit names is decided, and another one stays as it was
pub named_decided : (edits : List Edit) (f : Fact) → naming edits f ≡ true → (there : Bool) × Decide edits f there
named_decided edits f named = let n = said_named edits f None named in (n.0, Decide-said edits f n.0 n.1)

pub unnamed_stays : (edits : List Edit) (f : Fact) (before : Bool) → naming edits f ≡ false → decided edits f before ≡ before
unnamed_stays edits f before none =
    decided_said edits f None before ∙ ap (λ o. unwrap_or o before) (said_unnamed edits f None none)

-- ---- maps

-- the map by an order that agrees with that of facts
module _ {R : Fact → Fact → Ordering} (agrees : (f g : Fact) → R f g ≡ fact_cmp f g) where
  same_order : R ≡ fact_cmp
  same_order = fun_ext (λ f. fun_ext (λ g. agrees f g))

  -- what one edit says goes over what was said of its fact
  pub put_said : (old new : BTreeMap Fact Bool) (i : Item) (g : Fact) (add : Bool) → i ≡ item.Fact g
      → ((q : Fact) → get R new q ≡ cond (is_at (R g) q) (Some add) (get R old q))
      → (f : Fact) → get fact_cmp new f ≡ cond (names_fact f i) (Some add) (get fact_cmp old f)
  put_said old new i g add is put f =
      subst (λ S. get S new f ≡ cond (is_at (S g) f) (Some add) (get S old f)) same_order (put f)
      ∙ ap (λ b. cond b (Some add) (get fact_cmp old f)) ((eq_by_cmp_equiv facts_linear.total).symm g f ∙ ap (names_fact f) (sym is))

  -- a map that says of each fact what the edits say has exactly what they decide
  pub pairs_exact : (m : BTreeMap Fact Bool) (pairs : List (Fact × Bool)) (edits : List Edit) → IsOrdered R m → pairs ≡ m.entries
      → ((f : Fact) → get fact_cmp m f ≡ said edits f None)
      → (f : Fact) (there : Bool) → Contains pairs (f, there) ↔ Decide edits f there
  pairs_exact m pairs edits up is says f there = (to, from)
    where
      ordered : IsOrdered fact_cmp m
      ordered = subst (λ S. IsOrdered S m) same_order up

      at_place : (k : ℕ) → k < length m.entries → get_or m.entries k (f, there) ≡ (f, there) → Decide edits f there
      at_place k inside e =
          Decide-said edits f there
          (sym (says f) ∙ btree_map_get_place facts_linear.total m k f there ordered (slice_get-get_or m.entries k (f, there) inside ∙ ap Some e))

      to : Contains pairs (f, there) → Decide edits f there
      to c = let d = subst (λ ps. Contains ps (f, there)) is c in at_place d.0 d.1 d.2

      found : (k : ℕ) (g : Fact) → slice_get m.entries k ≡ Some (g, there) → is_eq (fact_cmp f g) ≡ true → Contains m.entries (f, there)
      found k g e same =
          let one = same_is facts_linear f g same in
          (k, slice_get_within m.entries k (g, there) e, get_or_from_slice_get m.entries k (g, there) (f, there) e ∙ ap (λ h. (h, there)) (sym one))

      from : Decide edits f there → Contains pairs (f, there)
      from d =
          let p = place_from_lookup (is_at (fact_cmp f)) m.entries there (says f ∙ said-Decide edits f there d) in
          subst (λ ps. Contains ps (f, there)) (sym is) (found p.0 p.1 p.2 p.3)
