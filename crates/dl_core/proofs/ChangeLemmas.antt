-- What a commit changes: which facts come and go, and the places of the rows of those that go.
use Rattle.std.proofs.Common.{◌≡◌, ◌↔◌, ℕ, zero, suc, ◌%◌, ◌≤◌, ◌⊎◌, inl, inr, Bool, true, false, not, ◌&&◌, cond, nat_lt, List, [], ◌∷◌, ◌++◌, map, filter, filter_map, slice_get, Option, Some, None, refl, sym, ap, ap₂, subst, ◌∙◌, true≢false, arith}
use Rattle.std.specs.List.{AllByRecursion, Contains, list_any}
use Rattle.std.specs.List.Sorted.{IsStrictlySortedBy}
use Rattle.std.specs.Option.{MatchOption, is_some}
use Rattle.std.specs.Ordering.{is_eq, is_gt}
use Rattle.std.specs.declared.cmp.Ordering.{Ordering}
use Rattle.std.specs.declared.cmp.Ordering.TheVariants.{Less}
use Rattle.std.proofs.lemmas.Bool.{and_parts, and_from, not-true}
use Rattle.std.proofs.lemmas.Option.{slice_get_within, get_or_from_slice_get, same_Some}
use Rattle.std.proofs.lemmas.List.Elements.{filter_passes, Contains-append_left, Contains-push, Contains-push_cases}
use Rattle.std.proofs.lemmas.List.Kept.{IsStrictlySortedBy-filter}
use Rattle.dl_terms.specs.Order.{fact_cmp}
use Rattle.dl_terms.specs.declared.axiom.Fact.{Fact}
use Rattle.dl_terms.proofs.OrderLemmas.{IsLinear, facts_linear}
use Rattle.dl_terms.proofs.MemberLemmas.{Contains-nil, All-Contains, sorted_unique}
use Rattle.dl_hier.proofs.MemberLemmas.{Contains-map, Contains-map_of}
use Rattle.dl_row.specs.Lists.{count, Ascends}
use Rattle.dl_row.specs.Rows.{fact_of, is_fact, visible, rows_for, open_end}
use Rattle.dl_row.specs.declared.row.Row.{Row}
use Rattle.dl_row.proofs.CountLemmas.{same_itself}
use Rattle.dl_edits.specs.Sets.{has, with_item, with_items}
use Rattle.dl_edits.specs.Edits.{names_fact, facts_with, edited_facts}
use Rattle.dl_edits.specs.Decided.{Decide}
use Rattle.dl_core.specs.History.{facts_at}
use Rattle.dl_core.specs.Root.{Root, IsLive, IsRowAt, epochs, shard, stands_in}
use Rattle.dl_core.specs.Next.{IsReady, root_facts, new_facts}
use Rattle.dl_core.specs.Held.{IsSound}
use Rattle.dl_core.specs.Changes.{first_end, shard_of, StandsAt, turns, turned, AreGone, IsPlaceIn, OneHere, NoneHere}
use Rattle.dl_event.specs.declared.event.Item.{Item}
use Rattle.dl_event.specs.declared.event.Item.TheVariants as item
use Rattle.dl_event.specs.declared.event.Edit.{Edit}
use Rattle.dl_edits.proofs.CountLemmas.{count-filter_le}
use Rattle.dl_core.proofs.CommitLemmas.{le_true, lt_true}
use Rattle.dl_edits.proofs.EditLemmas.{edited_facts_once, edits_decide}
use Rattle.dl_core.proofs.FactLemmas.{visible_once, visible_say}
use Rattle.dl_edits.proofs.CountLemmas.{there_counts}
use Rattle.dl_core.proofs.FoundLemmas.{Contains-filter_of}
use Rattle.dl_edits.proofs.OrderedLemmas.{InOrder-filter}
use Rattle.dl_core.proofs.PinLemmas.{Contains-filter}
use Rattle.dl_edits.proofs.AscendLemmas.{strictly_sorted, with_item-ascends}
use Rattle.dl_edits.proofs.SetLemmas.{has_there, there_has}
use Rattle.dl_edits.proofs.SaidLemmas.{named_decided, unnamed_stays}

-- ---- the open row of a fact

slice_there : {A : Type 0} (xs : List A) (k : ℕ) (x : A) → slice_get xs k ≡ Some x → Contains xs x
slice_there xs k x e = (k, slice_get_within xs k x e, get_or_from_slice_get xs k x x e)

-- of items that pass a test there is one at most, so they stand at one place
two_places : {A : Type 0} (p : A → Bool) (xs : List A) (i j : ℕ) (x y : A) → slice_get xs i ≡ Some x
    → slice_get xs j ≡ Some y → p x ≡ true → p y ≡ true
    → count p xs ≤ 1 → i ≡ j
two_places p [] i j x y a b px py h = cc
two_places p (z ∷ xs) zero zero x y a b px py h = refl
two_places p (z ∷ xs) zero (suc j) x y a b px py h =
    let first = ap {B = ℕ} (λ c. cond c 1 0) (ap p (same_Some z x a) ∙ px) in
    let later = there_counts p xs y (slice_there xs j y b) py in
    absurd (omega (arith, first, later, h))
two_places p (z ∷ xs) (suc i) zero x y a b px py h =
    let first = ap {B = ℕ} (λ c. cond c 1 0) (ap p (same_Some z y b) ∙ py) in
    let later = there_counts p xs x (slice_there xs i x a) px in
    absurd (omega (arith, first, later, h))
two_places p (z ∷ xs) (suc i) (suc j) x y a b px py h = ap suc (two_places p xs i j x y a b px py (omega (arith, h)))

module _ (root : Root) (sound : IsSound root) (ready : IsReady root) (f : Fact) where
  seen : (r : Row) → Contains root.rows r → r.last ≡ open_end → fact_of (epochs root) r ≡ Some f
      → (visible root.version r && is_fact f (fact_of (epochs root) r)) ≡ true
  seen r c last stands =
      let row = All-Contains (IsRowAt (epochs root) root.version) root.rows r sound.stands.rows_are.each c in
      ap₂ (λ a b. a && b)
      (ap₂ (λ a b. a && b) (le_true r.first root.version row.begins)
      (ap (nat_lt root.version) last ∙ lt_true root.version open_end (omega (arith, ready))))
      (ap (is_fact f) stands ∙ same_itself facts_linear f)

  row_in : (place : ℕ) (s : StandsAt root f place) → Contains root.rows s.row
  row_in place s = Contains-filter (stands_in root.shards (shard_of root f)) root.rows s.row
      (slice_there (shard root (shard_of root f)) place s.row s.at)

  row_seen : (place : ℕ) (s : StandsAt root f place)
      → (visible root.version s.row && is_fact f (fact_of (epochs root) s.row)) ≡ true
  row_seen place s = seen s.row (row_in place s) s.is_open s.stands

  -- a fact with an open row is there
  pub stands_there : (place : ℕ) → StandsAt root f place → has fact_cmp (root_facts root) f ≡ true
  stands_there place s =
      let n = there_counts (λ r. visible root.version r && is_fact f (fact_of (epochs root) r)) root.rows s.row
      (row_in place s) (row_seen place s) in
      let one = visible_say (epochs root) root.rows root.version (facts_at sound.load sound.history root.version)
      (sound.stands.reads root.version (IsLive.current refl)).facts_are f in
      some (has fact_cmp (root_facts root) f) n one
    where
      some : (b : Bool) → 1 ≤ rows_for (epochs root) root.rows root.version f
          → rows_for (epochs root) root.rows root.version f ≡ cond b 1 0 → b ≡ true
      some true n e = refl
      some false n e = absurd (omega (arith, n, e))

  -- and that row stands at one place
  pub one_place : (p q : ℕ) → StandsAt root f p → StandsAt root f q → q ≡ p
  one_place p q s t =
      let most = sound.stands.rows_are.once root.version (omega arith) f in
      let part = count-filter_le (λ r. visible root.version r && is_fact f (fact_of (epochs root) r))
      (stands_in root.shards (shard_of root f)) root.rows in
      two_places (λ r. visible root.version r && is_fact f (fact_of (epochs root) r))
      (shard root (shard_of root f)) q p t.row s.row t.at s.at
      (row_seen q t) (row_seen p s) (omega (arith, most, part))

  pub there_is : (o : Option ℕ) → MatchOption o (has fact_cmp (root_facts root) f ≡ false) (StandsAt root f)
      → is_some o ≡ has fact_cmp (root_facts root) f
  there_is None h = sym h
  there_is (Some place) s = sym (stands_there place s)

  pub here_is : (i end shards : ℕ) (o : Option ℕ) → end ≡ first_end f → shards ≡ root.shards → end % shards ≡ i
      → MatchOption o (has fact_cmp (root_facts root) f ≡ false) (StandsAt root f)
      → MatchOption o (NoneHere root i f) (OneHere root i f)
  here_is i end shards None e n h none =
      record { none = λ place is s. true≢false (sym (stands_there place s) ∙ none) }
  here_is i end shards (Some place) e n h s =
      record { here = sym (ap₂ (λ x m. x % m) e n) ∙ h; stands = s; only = λ other t. one_place place other s t }

pub not_here : (root : Root) (f : Fact) (i end shards : ℕ) → end ≡ first_end f → shards ≡ root.shards
    → (end % shards ≡ i → ⊥) → NoneHere root i f
not_here root f i end shards e n other = record { none = λ place is s. other (ap₂ (λ x m. x % m) e n ∙ is) }

-- ---- places, one fact after the other

module _ (root : Root) (i : ℕ) (facts : List Fact) (places : List ℕ)
    (are : (p : ℕ) → Contains places p ↔ IsPlaceIn root i facts p) (f : Fact) where
  earlier : (p : ℕ) → IsPlaceIn root i facts p → IsPlaceIn root i (facts ++ f ∷ []) p
  earlier p s = record {
    fact = s.fact;
    among = Contains-append_left facts (f ∷ []) s.fact s.among;
    here =
        s.here;
    stands = s.stands;
  }

  pub places_more : (place : ℕ) → OneHere root i f place → (p : ℕ)
      → Contains (places ++ place ∷ []) p ↔ IsPlaceIn root i (facts ++ f ∷ []) p
  places_more place one p = (to, from)
    where
      to : Contains (places ++ place ∷ []) p → IsPlaceIn root i (facts ++ f ∷ []) p
      to c = by (Contains-push_cases places place p c)
        where
          by : Contains places p ⊎ (place ≡ p) → IsPlaceIn root i (facts ++ f ∷ []) p
          by (inl before) = earlier p ((are p).0 before)
          by (inr same) = record {
            fact = f;
            among = Contains-push facts f;
            here = one.here;
            stands =
                subst (StandsAt root f) same one.stands;
          }

      from : IsPlaceIn root i (facts ++ f ∷ []) p → Contains (places ++ place ∷ []) p
      from s = by (Contains-push_cases facts f s.fact s.among)
        where
          by : Contains facts s.fact ⊎ (f ≡ s.fact) → Contains (places ++ place ∷ []) p
          by (inl before) = Contains-append_left places (place ∷ []) p
              ((are p).1 (record { fact = s.fact; among = before; here = s.here; stands = s.stands }))
          by (inr same) = subst (Contains (places ++ place ∷ []))
              (sym (one.only p (subst (λ g. StandsAt root g p) (sym same) s.stands))) (Contains-push places place)

  pub places_same : NoneHere root i f → (p : ℕ) → Contains places p ↔ IsPlaceIn root i (facts ++ f ∷ []) p
  places_same none p = (λ c. earlier p ((are p).0 c), from)
    where
      from : IsPlaceIn root i (facts ++ f ∷ []) p → Contains places p
      from s = by (Contains-push_cases facts f s.fact s.among)
        where
          by : Contains facts s.fact ⊎ (f ≡ s.fact) → Contains places p
          by (inl before) = (are p).1 (record { fact = s.fact; among = before; here = s.here; stands = s.stands })
          by (inr same) =
              absurd (none.none p (subst (λ g. shard_of root g ≡ i) (sym same) s.here)
              (subst (λ g. StandsAt root g p) (sym same) s.stands))

pub no_places : (root : Root) (i p : ℕ) → Contains [] p ↔ IsPlaceIn root i [] p
no_places root i p = (λ c. absurd (Contains-nil p c), λ s. absurd (Contains-nil s.fact s.among))

-- ---- the facts of the next version

module _ {A : Type 0} {cmp : A → A → Ordering} (l : IsLinear cmp) where
  with_items-ascends : (ys xs : List A) → Ascends cmp xs → Ascends cmp (with_items cmp ys xs)
  with_items-ascends [] xs up = up
  with_items-ascends (y ∷ ys) xs up = with_items-ascends ys (with_item cmp y xs) (with_item-ascends l y xs up)

facts_with_up : (add : Bool) (i : Item) (xs : List Fact) → Ascends fact_cmp xs → Ascends fact_cmp (facts_with add i xs)
facts_with_up true (item.Fact f) xs up = with_item-ascends facts_linear f xs up
facts_with_up false (item.Fact f) xs up = InOrder-filter (λ x y. is_gt (fact_cmp x y) ≡ false)
    (λ y. not (is_eq (fact_cmp f y))) xs up
facts_with_up true (item.Axiom a) xs up = up
facts_with_up true (item.Class c) xs up = up
facts_with_up true (item.Property p) xs up = up
facts_with_up false (item.Axiom a) xs up = up
facts_with_up false (item.Class c) xs up = up
facts_with_up false (item.Property p) xs up = up

edited_facts_up : (edits : List Edit) (xs : List Fact) → Ascends fact_cmp xs → Ascends fact_cmp (edited_facts edits xs)
edited_facts_up [] xs up = up
edited_facts_up (e ∷ edits) xs up = edited_facts_up edits (facts_with e.add e.item xs)
    (facts_with_up e.add e.item xs up)

each_picked : {A B : Type 0} (P : B → Type 0) (g : A → B) (q : A → Bool) (xs : List A) → AllByRecursion P (map g xs)
    → AllByRecursion P (map g (filter q xs))
each_picked P g q [] all = tt
each_picked P g q (x ∷ xs) all = by (q x) (each_picked P g q xs all.1)
  where
    by : (b : Bool) → AllByRecursion P (map g (filter q xs))
        → AllByRecursion P (map g (cond b (x ∷ filter q xs) (filter q xs)))
    by true ih = (all.0, ih)
    by false ih = ih

sorted_picked : {A B : Type 0} (cmp : B → B → Ordering) (g : A → B) (q : A → Bool) (xs : List A)
    → IsStrictlySortedBy cmp (map g xs)
    → IsStrictlySortedBy cmp (map g (filter q xs))
unfolding IsStrictlySortedBy
sorted_picked cmp g q [] up = tt
sorted_picked {A} {B} cmp g q (x ∷ xs) up = by (q x) (sorted_picked cmp g q xs up.1)
  where
    by : (b : Bool) → IsStrictlySortedBy cmp (map g (filter q xs))
        → IsStrictlySortedBy cmp (map g (cond b (x ∷ filter q xs) (filter q xs)))
    by true ih = (each_picked (λ y. cmp (g x) y ≡ Less) g q xs up.0, ih)
    by false ih = ih

module _ (edits : List Edit) (ds : List (Fact × Bool)) (up : IsStrictlySortedBy fact_cmp (map (λ d. d.0) ds))
    (exact : (f : Fact) (there : Bool) → Contains ds (f, there) ↔ Decide edits f there) (root : Root) where
  before : List Fact
  before = root_facts root

  after : List Fact
  after = edited_facts edits (root_facts root)

  -- what comes and what goes was decided so
  picked : (come : Bool) (f : Fact) → Contains (turned come (root_facts root) ds) f
      → (to : Bool) × Contains ds (f, to) × (turns come to (has fact_cmp (root_facts root) f) ≡ true)
  picked come f c =
      let d = Contains-map (λ d. d.0) (filter (λ d. turns come d.1 (has fact_cmp (root_facts root) d.0)) ds) f c in
      let passes = All-Contains (λ d. turns come d.1 (has fact_cmp (root_facts root) d.0) ≡ true)
      (filter (λ d. turns come d.1 (has fact_cmp (root_facts root) d.0)) ds) d.0
      (filter_passes (λ d. turns come d.1 (has fact_cmp (root_facts root) d.0)) ds) d.1 in (
        d.0.1,
        subst (λ g. Contains ds (g, d.0.1)) d.2
            (Contains-filter (λ d. turns come d.1 (has fact_cmp (root_facts root) d.0)) ds d.0 d.1),
        subst (λ g. turns come d.0.1 (has fact_cmp (root_facts root) g) ≡ true) d.2 passes,
      )

  pick : (come : Bool) (f : Fact) (to : Bool) → Contains ds (f, to)
      → turns come to (has fact_cmp (root_facts root) f) ≡ true
      → Contains (turned come (root_facts root) ds) f
  pick come f to c passes =
      Contains-map_of (λ d. d.0) (filter (λ d. turns come d.1 (has fact_cmp (root_facts root) d.0)) ds) (f, to)
      (Contains-filter_of (λ d. turns come d.1 (has fact_cmp (root_facts root) d.0)) ds (f, to) c passes)

  decides : (f : Fact) (to : Bool) → Contains ds (f, to) → has fact_cmp (edited_facts edits (root_facts root)) f ≡ to
  decides f to c = edits_decide edits (root_facts root) f ∙ ((exact f to).0 c).last (has fact_cmp (root_facts root) f)

  -- a fact that is there afterwards as it wasn't before is decided
  changed : (f : Fact) (to : Bool) → has fact_cmp (edited_facts edits (root_facts root)) f ≡ to
      → has fact_cmp (root_facts root) f ≡ not to → Contains ds (f, to)
  changed f to is was = by (list_any (λ e. names_fact f e.item) edits) refl
    where
      flips : (b : Bool) → b ≡ not b → ⊥
      flips true e = true≢false e
      flips false e = true≢false (sym e)

      by : (b : Bool) → list_any (λ e. names_fact f e.item) edits ≡ b → Contains ds (f, to)
      by true e =
          let d = named_decided edits f e in
          let same = sym (d.1.last (has fact_cmp (root_facts root) f)) ∙ sym (edits_decide edits (root_facts root) f)
          ∙ is in
          (exact f to).1 (subst (Decide edits f) same d.1)
      by false e =
          absurd (flips to (sym is ∙ edits_decide edits (root_facts root) f
          ∙ unnamed_stays edits f (has fact_cmp (root_facts root) f) e ∙ was))

  -- those that come are the new facts, in the same order
  pub new_are : turned true (root_facts root) ds ≡ new_facts (root_facts root) (edited_facts edits (root_facts root))
  new_are = sorted_unique facts_linear (turned true (root_facts root) ds)
      (new_facts (root_facts root) (edited_facts edits (root_facts root)))
      (sorted_picked fact_cmp (λ d. d.0) (λ d. turns true d.1 (has fact_cmp (root_facts root) d.0)) ds up)
      (IsStrictlySortedBy-filter fact_cmp (λ f. not (has fact_cmp (root_facts root) f))
      (edited_facts edits (root_facts root))
      (strictly_sorted facts_linear (edited_facts edits (root_facts root))
      (edited_facts_up edits (root_facts root) facts_up)
      (edited_facts_once edits (root_facts root) (visible_once (epochs root) root.rows root.version))))
      to from
    where
      facts_up : Ascends fact_cmp (root_facts root)
      facts_up = with_items-ascends facts_linear
          (filter_map (fact_of (epochs root)) (filter (visible root.version) root.rows)) [] tt

      to : (f : Fact) → Contains (turned true (root_facts root) ds) f
          → Contains (new_facts (root_facts root) (edited_facts edits (root_facts root))) f
      to f c =
          let p = picked true f c in
          let parts = and_parts p.0 (not (has fact_cmp (root_facts root) f)) p.2 in
          Contains-filter_of (λ g. not (has fact_cmp (root_facts root) g)) (edited_facts edits (root_facts root)) f
          (there_has facts_linear (edited_facts edits (root_facts root)) f (decides f p.0 p.1 ∙ parts.0)) parts.1

      from : (f : Fact) → Contains (new_facts (root_facts root) (edited_facts edits (root_facts root))) f
          → Contains (turned true (root_facts root) ds) f
      from f c =
          let passes = All-Contains (λ g. not (has fact_cmp (root_facts root) g) ≡ true)
          (new_facts (root_facts root) (edited_facts edits (root_facts root))) f
          (filter_passes (λ g. not (has fact_cmp (root_facts root) g)) (edited_facts edits (root_facts root))) c in
          let was = not-true (has fact_cmp (root_facts root) f) passes in
          let is = has_there facts_linear (edited_facts edits (root_facts root)) f
          (Contains-filter (λ g. not (has fact_cmp (root_facts root) g)) (edited_facts edits (root_facts root)) f c) in
          pick true f true (changed f true is was) passes

  -- and those that go are those that are gone
  pub gone_are : AreGone root (edited_facts edits (root_facts root)) (turned false (root_facts root) ds)
  gone_are f = (
    λ c. (let p = picked false f c in
        let parts = and_parts (not p.0) (has fact_cmp (root_facts root) f) p.2 in
        (parts.1, decides f p.0 p.1 ∙ not-true p.0 parts.0)),
    λ h. pick false f false (changed f false h.1 h.0) (and_from true (has fact_cmp (root_facts root) f) refl h.0),
  )
