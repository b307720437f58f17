-- Migrate, sweep and reclaim keep what a root stands for, and change nothing that a live version reads.
use Rattle.std.proofs.Common.{◌≡◌, ℕ, ◌≤◌, ◌<◌, ◌⊎◌, min, Bool, true, false, not, ◌&&◌, ◌||◌, ◌==◌, nat_le, nat_lt, List, [], ◌∷◌, ◌++◌, map, filter, find, All, Contains, Option, Some, None, refl, sym, ap, ap₂, subst, ◌∙◌, inl, inr, true≢false, arith, length-append}
use Rattle.std.specs.Ordering.{is_gt}
use Rattle.std.proofs.lemmas.Bool.{and_parts, eq-eqb}
use Rattle.std.proofs.lemmas.Bool.Decides.{nat_tests}
use Rattle.std.proofs.lemmas.List.Elements.{All-filter, All-contains_itself, All-push, Contains-push, All-from_recursion, recursion_from_All}
use Rattle.dl_terms.specs.declared.axiom.Fact.{Fact}
use Rattle.dl_terms.specs.declared.axiom.Fact.TheVariants.{Is, Link}
use Rattle.dl_terms.proofs.MemberLemmas.{Contains-cons, Contains-nil, All-Contains}
use Rattle.dl_normal.specs.Weight.{total_weight}
use Rattle.dl_hier.specs.Predicates.{max_predicates}
use Rattle.dl_row.specs.Lists.{ordered}
use Rattle.dl_row.specs.Rows.{Epoch, names_of, name_at, number_of, epoch_of, fact_by, fact_named, fact_in, fact_of, is_fact, visible, rows_for, covering, row_cmp, open_end}
use Rattle.dl_row.specs.Laws.{row_total}
use Rattle.dl_row.specs.declared.row.Kind.{Kind}
use Rattle.dl_row.specs.declared.row.Kind.TheVariants.{Class, Role}
use Rattle.dl_row.specs.declared.row.Row.{Row}
use Rattle.dl_row.proofs.CountLemmas.{count-ordered}
use Rattle.dl_row.proofs.OrderedLemmas.{ordered-ascends, length-ordered}
use Rattle.dl_epoch.specs.Known.{max_weight}
use Rattle.dl_migrate.specs.Lists.{change_first, drop_first}
use Rattle.dl_migrate.specs.Moving.{numbered_in, renumbered}
use Rattle.dl_migrate.specs.Reclaiming.{is_epoch, covers_one}
use Rattle.dl_migrate.specs.Sweeping.{is_over}
use Rattle.dl_migrate.specs.Tallies.{carries}
use Rattle.dl_migrate.proofs.ListLemmas.{count-change_first}
use Rattle.dl_migrate.proofs.MoveLemmas.{row_form}
use Rattle.dl_migrate.proofs.SweepLemmas.{over_unseen}
use Rattle.dl_edits.specs.Names.{predicates}
use Rattle.dl_core.specs.History.{Load, Entry}
use Rattle.dl_core.specs.Root.{Root, epochs, rows_in, stands_in, IsLive, IsRowAt, EndsAgree, AreEpochs, AreRows, StandsFor, IsNumbered}
use Rattle.dl_edits.specs.Signatures.{IsPart, knows}
use Rattle.dl_core.specs.Next.{is_behind_in, migrated, least, pinned_versions, horizon, is_over_in, swept, is_dead_in, reclaimed}
use Rattle.dl_event.specs.declared.pin.Pin.{Pin}
use Rattle.dl_edits.proofs.CountLemmas.{and_false, count-agree}
use Rattle.dl_core.proofs.CommitLemmas.{le_true}
use Rattle.dl_edits.proofs.OrderedLemmas.{All-ordered}
use Rattle.dl_core.proofs.ChangedListLemmas.{count-drop_first, count-drop_first_le, each-front, All-change_first, All-drop_first, InOrder-drop_first, InOrder-filter_push, length-change_first, length-drop_first, length-filter_le, find-append_rest, find-filter_found, find-filter_none, last_where-filter}
use Rattle.dl_core.proofs.EpochLemmas.{find-append_found, find_is, covering-push, covering-push_later, last_is_found, name_of_number, row_epoch, same_fact, current_numbered, some_some}
use Rattle.dl_edits.proofs.CountLemmas.{there_counts}
use Rattle.dl_edits.proofs.EditLemmas.{knows_more}

-- ---- what is read at the live versions stays, and so does what the root stands for

module _ (l : Load) (history : List Entry) (root : Root) where
  still_live : (older : List Epoch) (rows : List Row) (v : ℕ)
      → IsLive (record { version = root.version; older = older; current = root.current; pins = root.pins; shards = root.shards; rows = rows }) v → IsLive root v
  still_live older rows v (IsLive.current e) = IsLive.current e
  still_live older rows v (IsLive.pinned p c e) = IsLive.pinned p c e

  pub maintained : (older : List Epoch) (rows : List Row)
      → ((v : ℕ) → IsLive root v → (f : Fact) → rows_for (older ++ root.current ∷ []) rows v f ≡ rows_for (epochs root) root.rows v f)
      → ((v : ℕ) → IsLive root v → covering (older ++ root.current ∷ []) v ≡ covering (epochs root) v)
      → AreEpochs older root.current root.version → AreRows (older ++ root.current ∷ []) root.version rows → StandsFor l history root
      → StandsFor l history (record { version = root.version; older = older; current = root.current; pins = root.pins; shards = root.shards; rows = rows })
  maintained older rows facts covers epochs_are rows_are s = record {
    version = s.version;
    shards = s.shards;
    pins = s.pins;
    reads = λ v live.
        let live' = still_live older rows v live in
        let r = s.reads v live' in record {
          epoch = r.epoch;
          covers = covers v live' ∙ r.covers;
          axioms_are = r.axioms_are;
          signature_is = r.signature_is;
          facts_are = λ f. facts v live' f ∙ r.facts_are f;
        };
    epochs_are = epochs_are;
    rows_are = rows_are;
  }

-- ---- sweep

-- the horizon is at or below each live version
least_version : (v : ℕ) (versions : List ℕ) → least v versions ≤ v
least_version v [] = omega arith
least_version v (w ∷ versions) = let ih = least_version v versions in omega (arith, ih)

least_pin : (v : ℕ) (pins : List Pin) (p : Pin) → Contains pins p → least v (map (λ q. q.version) pins) ≤ p.version
least_pin v [] p c = absurd (Contains-nil p c)
least_pin v (q ∷ pins) p c = by (Contains-cons q p pins c) (least_pin v pins p)
  where
    by : (q ≡ p) ⊎ Contains pins p → (Contains pins p → least v (map (λ q. q.version) pins) ≤ p.version)
        → min q.version (least v (map (λ q. q.version) pins)) ≤ p.version
    by (inl e) ih = let h = ap (λ z. z.version) e in omega (arith, h)
    by (inr later) ih = let h = ih later in omega (arith, h)

pub horizon-live : (root : Root) (v : ℕ) → IsLive root v → horizon root ≤ v
horizon-live root v (IsLive.current e) = let h = least_version root.version (pinned_versions root) in omega (arith, h, e)
horizon-live root v (IsLive.pinned p c e) = let h = least_pin root.version root.pins p c in omega (arith, h, e)

pub swept_keep : (l : Load) (history : List Entry) (root : Root) (i n : ℕ) → StandsFor l history root → StandsFor l history (swept root i n)
swept_keep l history root i n s =
    maintained l history root root.older (drop_first n (is_over_in root i) root.rows)
    (λ v live f. count-drop_first (λ r. visible v r && is_fact f (fact_of (epochs root) r)) (is_over_in root i) n root.rows
    (λ r over. ap (λ b. b && is_fact f (fact_of (epochs root) r))
    (over_unseen (horizon root) v r (horizon-live root v live) (and_parts (stands_in root.shards i r) (is_over (horizon root) r) over).1)))
    (λ v live. refl) s.epochs_are
    (record {
      each = All-drop_first (IsRowAt (epochs root) root.version) n (is_over_in root i) root.rows s.rows_are.each;
      ascending = InOrder-drop_first (λ q r. is_gt (row_cmp q r) ≡ false) n (is_over_in root i) root.rows s.rows_are.ascending;
      once = λ v below f.
          let less = count-drop_first_le (λ r. visible v r && is_fact f (fact_of (epochs root) r)) (is_over_in root i) n root.rows in
          let one = s.rows_are.once v below f in
          omega (arith, less, one);
      kept = let less = length-drop_first n (is_over_in root i) root.rows in let k = s.rows_are.kept in omega (arith, less, k);
    }) s

-- ---- migrate

-- what a row keeps when its number changes
record IsSameSpan (q r : Row) : Type 0 where
  pub kind : q.kind ≡ r.kind
  pub s : q.s ≡ r.s
  pub o : q.o ≡ r.o
  pub first : q.first ≡ r.first
  pub last : q.last ≡ r.last

same_span : (e : Epoch) (r : Row) (f : Option Fact) → IsSameSpan (numbered_in e r f) r
same_span e r None = record { kind = refl; s = refl; o = refl; first = refl; last = refl }
same_span e r (Some (Is c x)) = record { kind = refl; s = refl; o = refl; first = refl; last = refl }
same_span e r (Some (Link p x y)) = record { kind = refl; s = refl; o = refl; first = refl; last = refl }

-- the row in another epoch, which knows its fact, stands for it
numbered_stands : (es : List Epoch) (e : Epoch) (r : Row) (k : Kind) (name : ℕ) → r.kind ≡ k → epoch_of es e.id ≡ Some e → IsNumbered e
    → knows e.signature (fact_by k r.s r.o name) ≡ true
    → fact_of es (numbered_in e r (Some (fact_by k r.s r.o name))) ≡ Some (fact_by r.kind r.s r.o name)
numbered_stands es e r Class name is found numbered known =
    let q = numbered_in e r (Some (Is name r.s)) in
    ap (fact_in q) found ∙ ap (λ k. fact_named q (name_at (names_of k e) (number_of e.classes name))) is
    ∙ ap (fact_named q) (name_of_number e.classes name (numbered.classes name ∙ known))
numbered_stands es e r Role name is found numbered known =
    let q = numbered_in e r (Some (Link name r.s r.o)) in
    ap (fact_in q) found ∙ ap (λ k. fact_named q (name_at (names_of k e) (number_of e.roles name))) is
    ∙ ap (fact_named q) (name_of_number e.roles name (numbered.roles name ∙ known))

pub renumbered_fact : (es : List Epoch) (e : Epoch) (r : Row) (f : Fact) → fact_of es r ≡ Some f → epoch_of es e.id ≡ Some e → IsNumbered e
    → knows e.signature f ≡ true → fact_of es (renumbered es e r) ≡ Some f
renumbered_fact es e r f stands found numbered known =
    let form = row_form es r f stands in
    ap (λ o. fact_of es (numbered_in e r o)) (stands ∙ ap Some (sym form.1))
    ∙ numbered_stands es e r r.kind form.0 refl found numbered (subst (λ g. knows e.signature g ≡ true) (sym form.1) known) ∙ ap Some form.1

-- a fact that a row stands for is known to the current signature
pub row_known : (older : List Epoch) (current : Epoch) (version : ℕ) (r : Row) (f : Fact) → AreEpochs older current version
    → fact_of (older ++ current ∷ []) r ≡ Some f → knows current.signature f ≡ true
row_known older current version r f are stands =
    let e = row_epoch (older ++ current ∷ []) r f stands in
    let found = find_is (λ d. d.id == r.epoch) (older ++ current ∷ []) e.0 e.1 in
    knows_more e.0.signature current.signature (All-Contains (λ d. IsPart d.signature current.signature) (older ++ current ∷ []) e.0 are.parts found.1) f
    (e.2 (All-Contains IsNumbered (older ++ current ∷ []) e.0 are.numbered found.1))

pub renumbered_row : (older : List Epoch) (current : Epoch) (version : ℕ) → AreEpochs older current version → (r : Row)
    → IsRowAt (older ++ current ∷ []) version r
    → (fact_of (older ++ current ∷ []) (renumbered (older ++ current ∷ []) current r) ≡ fact_of (older ++ current ∷ []) r)
    × IsRowAt (older ++ current ∷ []) version (renumbered (older ++ current ∷ []) current r)
renumbered_row older current version are r row =
    let es = older ++ current ∷ [] in
    let span = same_span current r (fact_of es r) in
    let stands = renumbered_fact es current r row.fact row.stands (last_is_found older current are.ids) (current_numbered older current version are)
    (row_known older current version r row.fact are row.stands) in (
      stands ∙ sym row.stands,
      record {
        fact = row.fact;
        stands = stands;
        begins = subst (λ n. n ≤ version) (sym span.first) row.begins;
        not_empty = let b = row.not_empty in omega (arith, b, span.first, span.last);
        ends = subst (λ n. (n ≡ open_end) ⊎ (n ≤ version)) (sym span.last) row.ends;
        ends_agree = subst₃ span row.ends_agree;
      },
    )
  where
    subst₃ : {q : Row} → IsSameSpan q r → EndsAgree r.kind r.s r.o → EndsAgree q.kind q.s q.o
    subst₃ {q} span h =
        subst (λ k. EndsAgree k q.s q.o) (sym span.kind) (subst (λ n. EndsAgree r.kind n q.o) (sym span.s) (subst (λ n. EndsAgree r.kind r.s n) (sym span.o) h))

pub migrated_keep : (l : Load) (history : List Entry) (root : Root) (i n : ℕ) → StandsFor l history root → StandsFor l history (migrated root i n)
migrated_keep l history root i n s =
    maintained l history root root.older (ordered row_cmp moved) (λ v live f. same v f) (λ v live. refl) s.epochs_are
    (record {
      each = All-ordered (IsRowAt (epochs root) root.version) row_cmp moved
          (All-change_first (IsRowAt (epochs root) root.version) n (is_behind_in root i) (renumbered (epochs root) root.current) root.rows s.rows_are.each
          (λ r row. (renumbered_row root.older root.current root.version s.epochs_are r row).1));
      ascending = ordered-ascends row_total moved;
      once = λ v below f. let e = same v f in let one = s.rows_are.once v below f in omega (arith, e, one);
      kept =
          let a = length-ordered row_cmp moved in
          let b = length-change_first n (is_behind_in root i) (renumbered (epochs root) root.current) root.rows in
          let k = s.rows_are.kept in
          omega (arith, a, b, k);
    }) s
  where
    moved : List Row
    moved = change_first n (is_behind_in root i) (renumbered (epochs root) root.current) root.rows

    test : ℕ → Fact → Row → Bool
    test v f r = visible v r && is_fact f (fact_of (epochs root) r)

    each : (v : ℕ) (f : Fact) (r : Row) → IsRowAt (epochs root) root.version r → test v f (renumbered (epochs root) root.current r) ≡ test v f r
    each v f r row =
        let span = same_span root.current r (fact_of (epochs root) r) in
        ap₂ (λ a b. a && b) (ap₂ (λ a b. nat_le a v && nat_lt v b) span.first span.last)
        (ap (is_fact f) (renumbered_row root.older root.current root.version s.epochs_are r row).0)

    same : (v : ℕ) (f : Fact) → rows_for (epochs root) (ordered row_cmp moved) v f ≡ rows_for (epochs root) root.rows v f
    same v f =
        count-ordered (test v f) row_cmp moved
        ∙ count-change_first (is_behind_in root i) (test v f) (renumbered (epochs root) root.current) n root.rows
        (λ k d h. each v f _ (s.rows_are.each k d h))

-- ---- reclaim

covers_one-true : (es : List Epoch) (e : Epoch) (pins : List Pin) (p : Pin) → Contains pins p → covering es p.version ≡ Some e
    → covers_one es (map (λ q. q.version) pins) e ≡ true
covers_one-true es e [] p c h = absurd (Contains-nil p c)
covers_one-true es e (q ∷ pins) p c h =
    by (Contains-cons q p pins c) (is_epoch e.id (covering es q.version)) refl (covers_one-true es e pins p)
  where
    by : (q ≡ p) ⊎ Contains pins p → (b : Bool) → is_epoch e.id (covering es q.version) ≡ b
        → (Contains pins p → covering es p.version ≡ Some e → covers_one es (map (λ q. q.version) pins) e ≡ true)
        → (b || covers_one es (map (λ q. q.version) pins) e) ≡ true
    by same true d ih = refl
    by (inl same) false d ih =
        absurd (true≢false (sym (eq-eqb e.id e.id refl) ∙ sym (ap (is_epoch e.id) (ap (λ z. covering es z.version) same ∙ h)) ∙ d))
    by (inr later) false d ih = ih later h

pub kept_by_pin : (root : Root) (e : Epoch) (p : Pin) → Contains root.pins p → covering (epochs root) p.version ≡ Some e → not (is_dead_in root e) ≡ true
kept_by_pin root e p c h =
    ap (λ b. not ((rows_in root e == 0) && not b)) (covers_one-true (epochs root) e root.pins p c h) ∙ ap not (and_false (rows_in root e == 0))

pub kept_by_row : (root : Root) (e : Epoch) (r : Row) → Contains root.rows r → (e.id == r.epoch) ≡ true → not (is_dead_in root e) ≡ true
kept_by_row root e r c h =
    ap (λ b. not (b && not (covers_one (epochs root) (pinned_versions root) e)))
    (some (rows_in root e) (there_counts (carries e.id) root.rows r c (turned e.id r.epoch h)))
  where
    some : (n : ℕ) → 1 ≤ n → (n == 0) ≡ false
    some n h = grind (arith, nat_tests)

    turned : (a b : ℕ) → (a == b) ≡ true → (b == a) ≡ true
    turned a b h = grind (arith, nat_tests)

-- the epoch of each kept row is still found
pub still_found : (root : Root) (r : Row) → Contains root.rows r → (e : Epoch) → epoch_of (epochs root) r.epoch ≡ Some e
    → epoch_of (epochs (reclaimed root)) r.epoch ≡ Some e
still_found root r c e found = by (find test root.older) refl
  where
    test : Epoch → Bool
    test d = d.id == r.epoch

    keep : Epoch → Bool
    keep d = not (is_dead_in root d)

    by : (o : Option Epoch) → find test root.older ≡ o → epoch_of (epochs (reclaimed root)) r.epoch ≡ Some e
    by (Some d) h =
        let same = some_some (sym (find-append_found test root.older (root.current ∷ []) d h) ∙ found) in
        find-append_found test (filter keep root.older) (root.current ∷ []) e
        (find-filter_found test keep root.older e (h ∙ ap Some same) (kept_by_row root e r c (find_is test root.older e (h ∙ ap Some same)).0))
    by None h =
        find-append_rest test (filter keep root.older) (root.current ∷ []) (find-filter_none test keep root.older h)
        ∙ sym (find-append_rest test root.older (root.current ∷ []) h) ∙ found

-- each live version is covered by the entry that covered it
pub covers_still : (root : Root) (l : Load) (history : List Entry) → StandsFor l history root → (v : ℕ) → IsLive root v
    → covering (epochs (reclaimed root)) v ≡ covering (epochs root) v
covers_still root l history s v live = by (nat_le root.current.first v) refl live
  where
    keep : Epoch → Bool
    keep d = not (is_dead_in root d)

    by : (b : Bool) → nat_le root.current.first v ≡ b → IsLive root v → covering (filter keep root.older ++ root.current ∷ []) v ≡ covering (epochs root) v
    by true h _ = covering-push (filter keep root.older) root.current v h ∙ sym (covering-push root.older root.current v h)
    by false h (IsLive.current e) =
        absurd (true≢false (sym (le_true root.current.first v (omega (arith, s.epochs_are.last_first, e))) ∙ h))
    by false h (IsLive.pinned p c e) =
        let r = s.reads v (IsLive.pinned p c e) in
        let older = sym (covering-push_later root.older root.current v h) ∙ r.covers in
        covering-push_later (filter keep root.older) root.current v h
        ∙ last_where-filter (λ d. nat_le d.first v) keep root.older r.epoch older
        (kept_by_pin root r.epoch p c (ap (covering (epochs root)) e ∙ r.covers))
        ∙ sym r.covers

All-front : (P : Epoch → Type 0) (xs : List Epoch) (y : Epoch) → All P (xs ++ y ∷ []) → All P xs
All-front P xs y all = All-from_recursion P xs (each-front P xs y (recursion_from_All P (xs ++ y ∷ []) all))

All-filter_push : (P : Epoch → Type 0) (q : Epoch → Bool) (xs : List Epoch) (y : Epoch) → All P (xs ++ y ∷ []) → All P (filter q xs ++ y ∷ [])
All-filter_push P q xs y all =
    All-push P (filter q xs) y (All-filter q P xs (All-front P xs y all)) (All-Contains P (xs ++ y ∷ []) y all (Contains-push xs y))

pub reclaimed_epochs : (root : Root) → AreEpochs root.older root.current root.version → AreEpochs (reclaimed root).older root.current root.version
reclaimed_epochs root are = record {
  numbered = All-filter_push IsNumbered keep root.older root.current are.numbered;
  parts = All-filter_push (λ e. IsPart e.signature root.current.signature) keep root.older root.current are.parts;
  ids = InOrder-filter_push (λ d e. d.id < e.id) keep root.older root.current are.ids;
  firsts = InOrder-filter_push (λ d e. d.first < e.first) keep root.older root.current are.firsts;
  last_id = are.last_id;
  last_first = are.last_first;
  weights = All-filter_push (λ e. total_weight e.axioms ≤ max_weight) keep root.older root.current are.weights;
  predicates = All-filter_push (λ e. predicates e.axioms e.signature ≤ max_predicates) keep root.older root.current are.predicates;
  kept =
      let a = length-append (filter keep root.older) (root.current ∷ []) in
      let b = length-append root.older (root.current ∷ []) in
      let f = length-filter_le keep root.older in
      let k = are.kept in
      omega (arith, a, b, f, k);
}
  where
    keep : Epoch → Bool
    keep d = not (is_dead_in root d)

pub reclaimed_keep : (l : Load) (history : List Entry) (root : Root) → StandsFor l history root → StandsFor l history (reclaimed root)
reclaimed_keep l history root s =
    maintained l history root (reclaimed root).older root.rows (λ v live f. rows_same v f) (covers_still root l history s)
    (reclaimed_epochs root s.epochs_are)
    (record {
      each = λ k d h. row_still _ (s.rows_are.each k d h) (All-contains_itself root.rows k d h);
      ascending = s.rows_are.ascending;
      once = λ v below f. let e = rows_same v f in let one = s.rows_are.once v below f in omega (arith, e, one);
      kept = s.rows_are.kept;
    }) s
  where
    es' : List Epoch
    es' = epochs (reclaimed root)

    fact_same : (r : Row) → IsRowAt (epochs root) root.version r → Contains root.rows r → fact_of es' r ≡ fact_of (epochs root) r
    fact_same r row c = same_fact (epochs root) es' r row.fact (still_found root r c) row.stands

    row_still : (r : Row) → IsRowAt (epochs root) root.version r → Contains root.rows r → IsRowAt es' root.version r
    row_still r row c = record {
      fact = row.fact;
      stands = fact_same r row c ∙ row.stands;
      begins = row.begins;
      not_empty = row.not_empty;
      ends = row.ends;
      ends_agree = row.ends_agree;
    }

    test_same : (v : ℕ) (f : Fact) (r : Row) → IsRowAt (epochs root) root.version r → Contains root.rows r
        → (visible v r && is_fact f (fact_of es' r)) ≡ (visible v r && is_fact f (fact_of (epochs root) r))
    test_same v f r row c = ap (λ o. visible v r && is_fact f o) (fact_same r row c)

    rows_same : (v : ℕ) (f : Fact) → rows_for es' root.rows v f ≡ rows_for (epochs root) root.rows v f
    rows_same v f =
        count-agree (λ r. visible v r && is_fact f (fact_of es' r)) (λ r. visible v r && is_fact f (fact_of (epochs root) r)) root.rows
        (λ k d h. test_same v f _ (s.rows_are.each k d h) (All-contains_itself root.rows k d h))
