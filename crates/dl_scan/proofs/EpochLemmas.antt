-- One epoch after another: each row is read by the one epoch that has its id.
use Rattle.std.proofs.Common.{◌≡◌, ◌≢◌, ℕ, ◌+◌, ◌<◌, ◌≤◌, ◌↔◌, ◌⊎◌, inl, inr, Bool, true, false, cond, ◌==◌, List, [], ◌∷◌, ◌++◌, map, filter, append_assoc, append-nil, take, length, get_or, Option, Some, None, Result, Ok, Err, OnOk, refl, sym, ap, subst, ◌∙◌, arith}
use Rattle.std.specs.List.{All, Contains, find}
use Rattle.std.specs.Option.{option_or}
use Rattle.std.specs.Arc.{arc_value}
use Rattle.std.proofs.lemmas.Bool.{eqb-true, ne_eqb}
use Rattle.std.proofs.lemmas.List.{map-append, take_more, take_all, get_or-map, get_or-take, length-map, length-take}
use Rattle.std.proofs.lemmas.List.Elements.{All-head, All-tail, filter-append}
use Rattle.std.proofs.lemmas.List.Folds.{find-append}
use Rattle.dl_terms.specs.declared.axiom.Fact.{Fact}
use Rattle.dl_hier.specs.declared.below.Below.{Below}
use Rattle.dl_row.specs.Rows.{Epoch, fact_of, fact_in}
use Rattle.dl_row.specs.declared.row.Row.{Row}
use Rattle.dl_epoch.specs.Covering.{Kept, kept, epoch_in, AreEntries}
use Rattle.dl_epoch.specs.Frozen.{Frozen}
use Rattle.dl_epoch.specs.Translating.{AreNumbersOf}
use Rattle.dl_epoch.specs.declared.entry.Entry.{Entry}
use Rattle.dl_epoch.specs.declared.numbers.Ranges.{Ranges}
use Rattle.dl_scan.specs.Pairs.{IsPairBelow, member, plain, turned, visible_facts}
use Rattle.dl_scan.specs.Scans.{Scan, scan, Gains, Takes, TakesSifted}
use Rattle.dl_scan.specs.Sieves.{passes, passes_first}
use Rattle.dl_scan.specs.Reading.{all_read}
use Rattle.dl_scan.proofs.ReadLemmas.{epoch_gains}
use Rattle.dl_scan.proofs.FactLemmas.{said, said_of, no_facts}
use Rattle.dl_scan.proofs.BelowLemmas.{pair-either}
use Rattle.dl_scan.proofs.SieveLemmas.{Gains-sifted}

find-none : {A : Type 0} (p : A → Bool) (xs : List A) → All (λ x. p x ≡ false) xs → find p xs ≡ None
find-none p [] all = refl
find-none p (x ∷ xs) all =
    ap (λ b. cond b (Some x) (find p xs)) (All-head (λ y. p y ≡ false) x xs all) ∙ find-none p xs (All-tail (λ y. p y ≡ false) x xs all)

-- ---- one epoch more, with an id of its own

module _ (es : List Epoch) (e : Epoch) (apart : All (λ d. d.id ≢ e.id) es) (r : Row) (f : Fact) where
  has_id : Epoch → Bool
  has_id d = d.id == r.epoch

  found : fact_of (es ++ e ∷ []) r ≡ fact_in r (option_or (find (λ (d : Epoch). d.id == r.epoch) es) (find (λ (d : Epoch). d.id == r.epoch) (e ∷ [])))
  found = ap (fact_in r) (find-append (λ (d : Epoch). d.id == r.epoch) es (e ∷ []))

  fact_to : fact_of (es ++ e ∷ []) r ≡ Some f → (fact_of es r ≡ Some f) ⊎ (fact_of (e ∷ []) r ≡ Some f)
  fact_to h = by (find (λ (d : Epoch). d.id == r.epoch) es) refl (sym found ∙ h)
    where
      by : (o : Option Epoch) → find (λ (d : Epoch). d.id == r.epoch) es ≡ o → fact_in r (option_or o (find (λ (d : Epoch). d.id == r.epoch) (e ∷ []))) ≡ Some f
          → (fact_of es r ≡ Some f) ⊎ (fact_of (e ∷ []) r ≡ Some f)
      by (Some d) is g = inl (ap (fact_in r) is ∙ g)
      by None is g = inr g

  fact_left : fact_of es r ≡ Some f → fact_of (es ++ e ∷ []) r ≡ Some f
  fact_left h = found ∙ by (find (λ (d : Epoch). d.id == r.epoch) es) h
    where
      by : (o : Option Epoch) → fact_in r o ≡ Some f → fact_in r (option_or o (find (λ (d : Epoch). d.id == r.epoch) (e ∷ []))) ≡ Some f
      by (Some d) g = g
      by None g = cc

  fact_right : fact_of (e ∷ []) r ≡ Some f → fact_of (es ++ e ∷ []) r ≡ Some f
  fact_right h = by (e.id == r.epoch) refl h
    where
      by : (b : Bool) → (e.id == r.epoch) ≡ b → fact_in r (cond b (Some e) None) ≡ Some f → fact_of (es ++ e ∷ []) r ≡ Some f
      by true same g =
          found
          ∙ ap (λ o. fact_in r (option_or o (find (λ (d : Epoch). d.id == r.epoch) (e ∷ []))))
          (find-none (λ (d : Epoch). d.id == r.epoch) es
          (λ k d lt. ne_eqb (get_or es k d).id r.epoch (λ other. apart k d lt (other ∙ sym (eqb-true e.id r.epoch same)))))
          ∙ h
      by false same g = cc

module _ (es : List Epoch) (e : Epoch) (apart : All (λ d. d.id ≢ e.id) es) (version : ℕ) (rows : List Row) where
  fact-either : (f : Fact) → Contains (visible_facts (es ++ e ∷ []) version rows) f
      ↔ (Contains (visible_facts es version rows) f ⊎ Contains (visible_facts (e ∷ []) version rows) f)
  fact-either f = (to, from)
    where
      to : Contains (visible_facts (es ++ e ∷ []) version rows) f → Contains (visible_facts es version rows) f ⊎ Contains (visible_facts (e ∷ []) version rows) f
      to c =
          let s = said (es ++ e ∷ []) version rows f c in
          elim (fact_to es e apart s.row f s.stands) [
            | inl one ↦ inl (said_of es version rows f (record { row = s.row; there = s.there; seen = s.seen; stands = one }))
            | inr other ↦ inr (said_of (e ∷ []) version rows f (record { row = s.row; there = s.there; seen = s.seen; stands = other }))
          ]

      from : Contains (visible_facts es version rows) f ⊎ Contains (visible_facts (e ∷ []) version rows) f → Contains (visible_facts (es ++ e ∷ []) version rows) f
      from (inl c) =
          let s = said es version rows f c in
          said_of (es ++ e ∷ []) version rows f (record { row = s.row; there = s.there; seen = s.seen; stands = fact_left es e apart s.row f s.stands })
      from (inr c) =
          let s = said (e ∷ []) version rows f c in
          said_of (es ++ e ∷ []) version rows f (record { row = s.row; there = s.there; seen = s.seen; stands = fact_right es e apart s.row f s.stands })

  pub pair_step : (below : Below) (p : ℕ × ℕ) → IsPairBelow (visible_facts (es ++ e ∷ []) version rows) below p
      ↔ (IsPairBelow (visible_facts es version rows) below p ⊎ IsPairBelow (visible_facts (e ∷ []) version rows) below p)
  pair_step below p =
      pair-either (visible_facts es version rows) (visible_facts (e ∷ []) version rows) (visible_facts (es ++ e ∷ []) version rows) below p fact-either

-- ---- the epochs of entries, one after another

-- the epochs of entries, as rows speak of them
abbrev pub epochs_of : List Entry → List Epoch
epochs_of entries = map epoch_in (map kept entries)

module _ (entries : List Entry) (version : ℕ) (rows : List Row) (below : Below) where
  -- the pairs gained from the epochs before a place
  abbrev pub GainsTo : ℕ → List (ℕ × ℕ) → List (ℕ × ℕ) → Type 0
  GainsTo i old now = Gains old now (IsPairBelow (visible_facts (epochs_of (take i entries)) version rows) below)

  pub Gains-none : (old : List (ℕ × ℕ)) → GainsTo 0 old old
  Gains-none old p = (λ c. inl c, λ h. elim h [ inl c ↦ c | inr b ↦ absurd (none b) ])
    where
      none : IsPairBelow (visible_facts [] version rows) below p → ⊥
      none (member listed fact same) = no_facts version rows _ fact
      none (plain listed fact) = no_facts version rows _ fact
      none (turned listed fact) = no_facts version rows _ fact

  module _ (ascend : AreEntries (map kept entries)) (i : ℕ) (entry : Entry) (inside : i < length entries) where
    here : Entry
    here = get_or entries i entry

    apart : All (λ d. d.id ≢ (epoch_in (kept (get_or entries i entry))).id) (epochs_of (take i entries))
    apart k d lt same =
        let shorter : length (epochs_of (take i entries)) ≡ length (take i entries) = length-map (map kept (take i entries)) epoch_in ∙ length-map (take i entries) kept in
        let most = length-take i entries in
        let before : k < i = omega arith in
        let one = at k d before in
        let ascends = ascend.ids k i (kept entry) before (let n = length-map entries kept in omega arith) in
        let first : (get_or (map kept entries) k (kept entry)).epoch.id ≡ (arc_value (get_or entries k entry).epoch).id
        = ap (λ (x : Kept). x.epoch.id) (get_or-map kept entries k entry (kept entry) (omega arith)) in
        let second : (get_or (map kept entries) i (kept entry)).epoch.id ≡ (arc_value (get_or entries i entry).epoch).id
        = ap (λ (x : Kept). x.epoch.id) (get_or-map kept entries i entry (kept entry) inside) in
        omega (arith, ascends, first, second, one, same)
      where
        at : (k : ℕ) (d : Epoch) → k < i → (get_or (epochs_of (take i entries)) k d).id ≡ (arc_value (get_or entries k entry).epoch).id
        at k d h =
            let taken : k < length (take i entries) = (let n = length-take i entries in omega arith) in
            let one = get_or-map epoch_in (map kept (take i entries)) k (kept entry) d (let n = length-map (take i entries) kept in omega arith) in
            let two = get_or-map kept (take i entries) k entry (kept entry) taken in
            ap (λ (x : Epoch). x.id) one ∙ ap (λ (x : Kept). x.epoch.id) two ∙ ap (λ (x : Entry). (arc_value x.epoch).id) (get_or-take i entries k entry h)

    more : epochs_of (take (i + 1) entries) ≡ epochs_of (take i entries) ++ epoch_in (kept (get_or entries i entry)) ∷ []
    more =
        ap epochs_of (take_more entries i entry inside)
        ∙ ap (map epoch_in) (map-append kept (take i entries) (get_or entries i entry ∷ []))
        ∙ map-append epoch_in (map kept (take i entries)) (kept (get_or entries i entry) ∷ [])

    pub Gains-more : (old now new : List (ℕ × ℕ)) → GainsTo i old now
        → Gains now new (IsPairBelow (visible_facts (epoch_in (kept (get_or entries i entry)) ∷ []) version rows) below)
        → GainsTo (i + 1) old new
    Gains-more old now new before step p =
        let e = epoch_in (kept (get_or entries i entry)) in
        let both = pair_step (epochs_of (take i entries)) e apart version rows below p in (
          λ c. elim ((step p).0 c) [
            | inl earlier ↦ elim ((before p).0 earlier) [
              | inl first ↦ inl first
              | inr gained ↦ inr (subst (λ es. IsPairBelow (visible_facts es version rows) below p) (sym more) (both.1 (inl gained)))
            ]
            | inr gained ↦ inr (subst (λ es. IsPairBelow (visible_facts es version rows) below p) (sym more) (both.1 (inr gained)))
          ],
          λ h. elim h [
            | inl first ↦ (step p).1 (inl ((before p).1 (inl first)))
            | inr gained ↦ elim (both.0 (subst (λ es. IsPairBelow (visible_facts es version rows) below p) more gained)) [
              | inl earlier ↦ (step p).1 (inl ((before p).1 (inr earlier)))
              | inr here ↦ (step p).1 (inr here)
            ]
          ],
        )

  -- after the last one
  pub Gains-all : (i : ℕ) (old new : List (ℕ × ℕ)) → length entries ≤ i → GainsTo i old new
      → Gains old new (IsPairBelow (visible_facts (epochs_of entries) version rows) below)
  Gains-all i old new past gains = subst (λ es. Gains old new (IsPairBelow (visible_facts (epochs_of es) version rows) below)) (take_all i entries past) gains

  -- of those pairs the ones whose first name passes a sieve
  pub record SiftsTo (marks : List Bool) (i : ℕ) (old now : List (ℕ × ℕ)) : Type 0 where
    pub whole : List (ℕ × ℕ)
    pub gains : GainsTo i [] whole
    pub is : now ≡ old ++ filter (passes_first marks) whole

  pub Sifts-none : (marks : List Bool) (old : List (ℕ × ℕ)) → SiftsTo marks 0 old old
  Sifts-none marks old = record { whole = []; gains = Gains-none []; is = sym (append-nil old) }

  pub Sifts-all : (marks : List Bool) (i : ℕ) (old new : List (ℕ × ℕ)) → length entries ≤ i → SiftsTo marks i old new
      → Gains old new (λ p. IsPairBelow (visible_facts (epochs_of entries) version rows) below p × (passes_first marks p ≡ true))
  Sifts-all marks i old new past sifts =
      Gains-sifted (passes_first marks) old new sifts.whole (IsPairBelow (visible_facts (epochs_of entries) version rows) below)
      (Gains-all i [] sifts.whole past sifts.gains) sifts.is

-- ---- for answers

-- one entry more, whose epoch is read by its own intervals
module _ (entries : List Entry) (version : ℕ) (rows : List Row) (below : Below) (ascend : AreEntries (map kept entries)) (i : ℕ) (entry : Entry)
    (inside : i < length entries) (frozen : Frozen) (is : arc_value (get_or entries i entry).epoch ≡ frozen) (ranges : Ranges)
    (of_classes : AreNumbersOf frozen.classes below.classes ranges.classes) (of_forward : AreNumbersOf frozen.roles below.forward ranges.forward)
    (of_backward : AreNumbersOf frozen.roles below.backward ranges.backward) where
  pub Gains-step : (id : ℕ) → id ≡ (arc_value (get_or entries i entry).epoch).id → (old now new : List (ℕ × ℕ))
      → GainsTo entries version rows below i old now → new ≡ now ++ all_read id ranges version rows → GainsTo entries version rows below (i + 1) old new
  Gains-step id same old now new before added =
      Gains-more entries version rows below ascend i entry inside old now new before
      (epoch_gains (epoch_in (kept (get_or entries i entry))) version rows below ranges.classes ranges.forward ranges.backward
      (subst (λ (f : Frozen). AreNumbersOf f.classes below.classes ranges.classes) (sym is) of_classes)
      (subst (λ (f : Frozen). AreNumbersOf f.roles below.forward ranges.forward) (sym is) of_forward)
      (subst (λ (f : Frozen). AreNumbersOf f.roles below.backward ranges.backward) (sym is) of_backward)
      now new (subst (λ n. new ≡ now ++ all_read n ranges version rows) same added))

  pub Sifts-step : (id : ℕ) → id ≡ (arc_value (get_or entries i entry).epoch).id → (marks : List Bool) (old now new : List (ℕ × ℕ))
      → SiftsTo entries version rows below marks i old now → new ≡ now ++ filter (passes_first marks) (all_read id ranges version rows)
      → SiftsTo entries version rows below marks (i + 1) old new
  Sifts-step id same marks old now new before added =
      let read = all_read id ranges version rows in
      let pass = passes_first marks in record {
        whole = before.whole ++ read;
        gains = Gains-step id same [] before.whole (before.whole ++ read) before.gains refl;
        is = added ∙ (ap (λ l. l ++ filter pass read) before.is ∙ (append_assoc old (filter pass before.whole) (filter pass read)
            ∙ ap (λ l. old ++ l) (sym (filter-append pass before.whole read))));
      }

-- a scan whose pairs were gained
pub took_sifted : {T E : Type 0} (r : Result T E) (entries epochs : List Kept) (old now : Scan) (rows : List Row) (marks : List Bool) (pairs : List (ℕ × ℕ)) → entries ≡ epochs → old ≡ now
    → OnOk r (Gains old.pairs pairs (λ p. IsPairBelow (visible_facts (map epoch_in entries) old.version rows) old.below p × (passes_first marks p ≡ true)))
    → OnOk r (TakesSifted (map epoch_in epochs) rows marks now (scan old.below old.version pairs))
took_sifted (Ok x) entries epochs old now rows marks pairs is same gains =
    subst (λ ks. TakesSifted (map epoch_in ks) rows marks now (scan old.below old.version pairs)) is
    (subst (λ s. TakesSifted (map epoch_in entries) rows marks s (scan old.below old.version pairs)) same (record { below = refl; version = refl; pairs = gains }))
took_sifted (Err e) entries epochs old now rows marks pairs is same gains = tt

-- where every name passes, nothing is left out
pub took_all : {T E : Type 0} (r : Result T E) (epochs : List Epoch) (rows : List Row) (marks : List Bool) (old new : Scan)
    → ((name : ℕ) → passes marks name ≡ true) → OnOk r (TakesSifted epochs rows marks old new) → OnOk r (Takes epochs rows old new)
took_all (Ok x) epochs rows marks old new every takes = record {
  below = takes.below;
  version = takes.version;
  pairs = λ p. (
    λ c. elim ((takes.pairs p).0 c) [ inl before ↦ inl before | inr here ↦ inr here.0 ],
    λ h. (takes.pairs p).1 (elim h [ inl before ↦ inl before | inr here ↦ inr (here, every p.0) ]),
  );
}
took_all (Err e) epochs rows marks old new every takes = tt
