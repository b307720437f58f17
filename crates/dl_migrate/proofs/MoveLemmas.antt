-- A row that moves to an epoch: its own epoch is looked up, and its fact stays.
use Rattle.std.proofs.Common.{◌≡◌, ℕ, zero, suc, ◌<◌, cond, List, [], ◌∷◌, map, length, get_or, Contains, Option, Some, None, refl, sym, ap, ap₂, subst, ◌∙◌, arith}
use Rattle.std.specs.List.{Any, AllPairs}
use Rattle.std.proofs.lemmas.Bool.{eq-eqb, ne_eqb}
use Rattle.dl_terms.specs.declared.axiom.Fact.{Fact}
use Rattle.dl_terms.specs.declared.axiom.Fact.TheVariants.{Is, Link}
use Rattle.dl_terms.specs.declared.axiom.Signature.{Signature}
use Rattle.dl_row.specs.Rows.{Epoch, names_of, name_at, number_of, epoch_of, fact_by, fact_named, fact_in, fact_of}
use Rattle.dl_row.specs.declared.row.Kind.{Kind}
use Rattle.dl_row.specs.declared.row.Kind.TheVariants.{Class, Role}
use Rattle.dl_row.specs.declared.row.Row.{Row}
use Rattle.dl_epoch.specs.Frozen.{Frozen, IsFrozen, from_version}
use Rattle.dl_epoch.specs.Covering.{Kept, epoch_in, AreEntries}
use Rattle.dl_migrate.specs.Moving.{numbered_in, renumbered, IsKnownTo, CanMove, IsSameRow}
use Rattle.dl_migrate.specs.Naming.{signed_by}
use Rattle.dl_migrate.proofs.NameLemmas.{some_none, some_some, name_of_number, frozen-once, frozen-has}

-- ---- epochs by their ids

-- ids ascend strictly, so each entry is found by its id
pub found_by_id : (es : List Kept) (k : ℕ) (d : Kept) → AllPairs (λ d e. d.epoch.id < e.epoch.id) es → k < length es
    → epoch_of (map epoch_in es) (get_or es k d).epoch.id ≡ Some (epoch_in (get_or es k d))
found_by_id [] k d up h = absurd (omega (arith, h))
found_by_id (e ∷ es) zero d up h = ap (λ b. cond b (Some (epoch_in e)) (epoch_of (map epoch_in es) e.epoch.id)) (eq-eqb e.epoch.id e.epoch.id refl)
found_by_id (e ∷ es) (suc k) d up h =
    let id = (get_or es k d).epoch.id in
    ap (λ b. cond b (Some (epoch_in e)) (epoch_of (map epoch_in es) id))
    (ne_eqb e.epoch.id id (λ same. (let lt = up 0 (suc k) d (omega arith) h in omega (arith, lt, same))))
    ∙ found_by_id es k d (λ i j x lt within. up (suc i) (suc j) x (omega (arith, lt)) (omega (arith, within))) (omega (arith, h))

-- an epoch that is among the entries is found by its id
pub found_among : (es : List Kept) (to : Frozen) → AreEntries es → Any (λ e. e.epoch ≡ to) es
    → (first : ℕ) × (epoch_of (map epoch_in es) to.id ≡ Some (from_version first to))
found_among es to are one = (
  (one.1).first,
  ap (λ (e : Frozen). epoch_of (map epoch_in es) e.id) (sym is) ∙ found_by_id es one.0 one.1 are.ids one.2
      ∙ ap₂ (λ n (e : Frozen). Some (from_version n e)) (ap (λ (x : Kept). x.first) one.3) is,
)
  where
    is : (get_or es one.0 one.1).epoch ≡ to
    is = ap (λ (x : Kept). x.epoch) one.3 ∙ one.4

-- ---- the fact of a row

known_name : (k : Kind) (s : Signature) (x y name : ℕ) → IsKnownTo s (fact_by k x y name) → Contains (signed_by k s) name
known_name Class s x y name known = known
known_name Role s x y name known = known

-- ---- what stays

pub epoch_is : (es : List Epoch) (e : Epoch) (r : Row) (f : Fact) → fact_of es r ≡ Some f → (renumbered es e r).epoch ≡ e.id
epoch_is es e r f stands = ap (λ o. (numbered_in e r o).epoch) stands ∙ by f
  where
    by : (f : Fact) → (numbered_in e r (Some f)).epoch ≡ e.id
    by (Is c x) = refl
    by (Link p x y) = refl

-- the fact of a row is its kind's, of its ends
pub row_form : (es : List Epoch) (r : Row) (f : Fact) → fact_of es r ≡ Some f → (name : ℕ) × (fact_by r.kind r.s r.o name ≡ f)
row_form es r f s = by (epoch_of es r.epoch) s
  where
    named : (o : Option ℕ) → fact_named r o ≡ Some f → (name : ℕ) × (fact_by r.kind r.s r.o name ≡ f)
    named None h = absurd (some_none h)
    named (Some name) h = (name, some_some h)

    by : (o : Option Epoch) → fact_in r o ≡ Some f → (name : ℕ) × (fact_by r.kind r.s r.o name ≡ f)
    by None h = named None h
    by (Some e) h = named (name_at (names_of r.kind e) r.number) h

module _ (es : List Epoch) (to : Frozen) (is : IsFrozen to) (since : ℕ) (found : epoch_of es to.id ≡ Some (from_version since to)) (first : ℕ) where
  -- the row in an epoch which knows the fact stands for it
  numbered_stands : (r : Row) (k : Kind) (name : ℕ) → r.kind ≡ k → Contains (signed_by k to.signature) name
      → fact_of es (numbered_in (from_version first to) r (Some (fact_by k r.s r.o name))) ≡ Some (fact_by r.kind r.s r.o name)
  numbered_stands r Class name e known =
      let q = numbered_in (from_version first to) r (Some (Is name r.s)) in
      ap (fact_in q) found ∙ ap (λ k. fact_named q (name_at (names_of k (from_version since to)) (number_of to.classes name))) e
      ∙ ap (fact_named q) (name_of_number to.classes name (frozen-once to is Class) (frozen-has to is Class name known))
  numbered_stands r Role name e known =
      let q = numbered_in (from_version first to) r (Some (Link name r.s r.o)) in
      ap (fact_in q) found ∙ ap (λ k. fact_named q (name_at (names_of k (from_version since to)) (number_of to.roles name))) e
      ∙ ap (fact_named q) (name_of_number to.roles name (frozen-once to is Role) (frozen-has to is Role name known))

  renumbered_fact : (r : Row) → (can : CanMove es to.signature r) → fact_of es (renumbered es (from_version first to) r) ≡ Some can.fact
  renumbered_fact r can =
      let form = row_form es r can.fact can.stands in
      ap (λ o. fact_of es (numbered_in (from_version first to) r o)) (can.stands ∙ ap Some (sym form.1))
      ∙ numbered_stands r r.kind form.0 refl (known_name r.kind to.signature r.s r.o form.0 (subst (IsKnownTo to.signature) (sym form.1) can.known))
      ∙ ap Some form.1

  pub same_row : (r : Row) → CanMove es to.signature r → IsSameRow es r (renumbered es (from_version first to) r)
  same_row r can =
      record {
        fact = renumbered_fact r can ∙ sym can.stands;
        first = by_first (fact_of es r);
        last = by_last (fact_of es r);
        s = by_s (fact_of es r);
      }
    where
      by_first : (o : Option Fact) → (numbered_in (from_version first to) r o).first ≡ r.first
      by_first None = refl
      by_first (Some (Is c x)) = refl
      by_first (Some (Link p x y)) = refl

      by_last : (o : Option Fact) → (numbered_in (from_version first to) r o).last ≡ r.last
      by_last None = refl
      by_last (Some (Is c x)) = refl
      by_last (Some (Link p x y)) = refl

      by_s : (o : Option Fact) → (numbered_in (from_version first to) r o).s ≡ r.s
      by_s None = refl
      by_s (Some (Is c x)) = refl
      by_s (Some (Link p x y)) = refl
