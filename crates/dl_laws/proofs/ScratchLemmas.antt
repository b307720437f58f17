-- Where every row carries the current epoch, the visible rows are those of a load from scratch.
use Rattle.std.proofs.Common.{◌≡◌, ℕ, ◌+◌, Bool, true, false, not, ◌&&◌, cond, ◌==◌, nat_lt, min, List, [], ◌∷◌, ◌++◌, map, filter, filter_map, All, Option, Some, None, refl, sym, ap, ap₂, subst, ◌∙◌, true≢false, arith, append_assoc}
use Rattle.std.specs.List.{cons_option}
use Rattle.std.specs.declared.cmp.Ordering.{Ordering}
use Rattle.std.specs.Ordering.{is_eq, nat_cmp}
use Rattle.std.specs.Cmp.Lexicographic.{slice_cmp}
use Rattle.std.proofs.lemmas.Bool.{eq-eqb}
use Rattle.std.proofs.lemmas.List.Elements.{All-head, All-tail, All-cons, All-from_recursion}
use Rattle.dl_terms.specs.Order.{fact_cmp}
use Rattle.dl_terms.specs.declared.axiom.Fact.{Fact}
use Rattle.dl_terms.specs.declared.axiom.Fact.TheVariants.{Is, Link}
use Rattle.dl_terms.proofs.OrderLemmas.{IsLinear, facts_linear, numbers_linear, lists_linear}
use Rattle.dl_row.specs.Lists.{count}
use Rattle.dl_row.specs.Rows.{Epoch, names_of, name_at, number_of, epoch_of, fact_by, fact_named, fact_in, fact_of, visible, row_cmp, kind_number, open_end}
use Rattle.dl_row.specs.declared.row.Kind.{Kind}
use Rattle.dl_row.specs.declared.row.Kind.TheVariants.{Class, Role}
use Rattle.dl_row.specs.declared.row.Row.{Row}
use Rattle.dl_row.proofs.CountLemmas.{count-append, count-ordered}
use Rattle.dl_row.proofs.OrderedLemmas.{ordered_determined}
use Rattle.dl_migrate.specs.Lists.{change_first}
use Rattle.dl_migrate.specs.Moving.{numbered_in, renumbered}
use Rattle.dl_migrate.specs.Tallies.{carries}
use Rattle.dl_migrate.proofs.ListLemmas.{count-change_first}
use Rattle.dl_edits.specs.Sets.{has, IsOnce}
use Rattle.dl_edits.specs.Edits.{edited_axioms, edited_facts, edited_signature}
use Rattle.dl_core.specs.History.{Load, Entry, version_of, axioms_at, facts_at, signature_at, after_commits, commits_to}
use Rattle.dl_core.specs.Root.{Root, epochs, IsLive, IsNumbered, EndsAgree, IsRowAt, ReadsAs, StandsFor, IsLoad, pin_in}
use Rattle.dl_core.specs.Next.{Numbering, IsNumbering, epoch_from, row_for, loaded, committed, committed_epoch, commit_refused, refused_or, pinned, unpinned, opens, ended, ended_at, is_among, new_facts, root_facts, migrated, swept, behind, is_behind_in, is_over_in, next}
use Rattle.dl_core.specs.Legal.{root_from, IsLegalFrom, IsLegal, root_of}
use Rattle.dl_core.specs.Steps.{longer}
use Rattle.dl_laws.specs.Scratch.{reload, bare, bare_rows, scratch, NoneOpens}
use Rattle.dl_event.specs.declared.event.Edit.{Edit}
use Rattle.dl_event.specs.declared.event.Event.{Event}
use Rattle.dl_event.specs.declared.event.Event.TheVariants as event
use Rattle.dl_event.specs.declared.reply.Reply.{Reply}
use Rattle.dl_event.specs.declared.reply.Reply.TheVariants as reply
use Rattle.dl_event.specs.declared.reply.Refusal.{Refusal}
use Rattle.dl_event.specs.declared.reply.Refusal.TheVariants.{NoShard}
use Rattle.dl_edits.proofs.CountLemmas.{and_true, count-map, count-same, count-none, count-filter, count_once}
use Rattle.dl_core.proofs.ChangedListLemmas.{count-drop_first_le}
use Rattle.dl_core.proofs.CommitLemmas.{le_true, new_now, is_equal}
use Rattle.dl_edits.proofs.EditLemmas.{edited_facts_once}
use Rattle.dl_core.proofs.EpochLemmas.{some_none, some_some, covering-push, last_is_found, number_is, current_numbered}
use Rattle.dl_core.proofs.FactLemmas.{count_facts}
use Rattle.dl_core.proofs.RunLemmas.{legal_stands}

-- the current epoch is numbered by a numbering
abbrev IsNumberedBy : Numbering → Root → Type 0
IsNumberedBy numbering root = (k : Kind) → names_of k root.current ≡ numbering k root.current.axioms root.current.signature

module _ {A : Type 0} {cmp : A → A → Ordering} (l : IsLinear cmp) where
  -- lists with the same counts of each item have the same count of each test
  pub count_determined : (xs ys : List A) → ((z : A) → count (λ w. is_eq (cmp z w)) xs ≡ count (λ w. is_eq (cmp z w)) ys) → (p : A → Bool) → count p xs ≡ count p ys
  count_determined xs ys same p =
      sym (count-ordered p cmp xs) ∙ ap (count p) (ordered_determined l xs ys same) ∙ count-ordered p cmp ys

-- ---- the rows that carry the current epoch

-- a row of an epoch, without epoch and versions, is that of its fact
pub bare_row : (e : Epoch) (r : Row) (f : Fact) (k : Kind) → r.kind ≡ k → IsNumbered e → EndsAgree r.kind r.s r.o → fact_in r (Some e) ≡ Some f
    → bare r ≡ bare (row_for e 1 f)
bare_row e r f k is numbered ends h = by k is (name_at (names_of r.kind e) r.number) refl h
  where
    by : (k : Kind) → r.kind ≡ k → (o : Option ℕ) → name_at (names_of r.kind e) r.number ≡ o → fact_named r o ≡ Some f → bare r ≡ bare (row_for e 1 f)
    by k is None n h = absurd (some_none h)
    by Class is (Some c) n h =
        let number = number_is e.classes r.number c numbered.classes_once (ap (λ k. name_at (names_of k e) r.number) (sym is) ∙ n) in
        let o = subst (λ k. EndsAgree k r.s r.o) is ends in
        let f_is = sym (some_some h) ∙ ap (λ k. fact_by k r.s r.o c) is in
        (λ i. kind_number (is i) ∷ number i ∷ r.s ∷ o i ∷ []) ∙ ap (λ g. bare (row_for e 1 g)) (sym f_is)
    by Role is (Some p) n h =
        let number = number_is e.roles r.number p numbered.roles_once (ap (λ k. name_at (names_of k e) r.number) (sym is) ∙ n) in
        let f_is = sym (some_some h) ∙ ap (λ k. fact_by k r.s r.o p) is in
        (λ i. kind_number (is i) ∷ number i ∷ r.s ∷ r.o ∷ []) ∙ ap (λ g. bare (row_for e 1 g)) (sym f_is)

-- where nothing counts, nothing passes
none_passes : {A : Type 0} (p : A → Bool) (xs : List A) → count p xs ≡ 0 → All (λ x. p x ≡ false) xs
none_passes p [] e = All-from_recursion (λ x. p x ≡ false) [] tt
none_passes {A} p (x ∷ xs) e = by (p x) refl e (none_passes p xs)
  where
    by : (b : Bool) → p x ≡ b → cond b 1 0 + count p xs ≡ 0 → (count p xs ≡ 0 → All (λ x. p x ≡ false) xs) → All (λ x. p x ≡ false) (x ∷ xs)
    by true h e ih = absurd (omega (arith, e))
    by false h e ih = All-cons (λ x. p x ≡ false) x xs h (ih (omega (arith, e)))

-- the visible rows, bare, are those of their facts
bare_facts : (es : List Epoch) (e : Epoch) (v : ℕ) (rows : List Row)
    → All (λ r. (f : Fact) × (fact_of es r ≡ Some f) × (bare r ≡ bare (row_for e 1 f))) rows
    → map bare (filter (visible v) rows) ≡ map (λ f. bare (row_for e 1 f)) (filter_map (fact_of es) (filter (visible v) rows))
bare_facts es e v [] all = refl
bare_facts es e v (r ∷ rows) all =
    by (visible v r) (All-head (λ r. (f : Fact) × (fact_of es r ≡ Some f) × (bare r ≡ bare (row_for e 1 f))) r rows all)
    (bare_facts es e v rows (All-tail (λ r. (f : Fact) × (fact_of es r ≡ Some f) × (bare r ≡ bare (row_for e 1 f))) r rows all))
  where
    by : (b : Bool) → (f : Fact) × (fact_of es r ≡ Some f) × (bare r ≡ bare (row_for e 1 f))
        → map bare (filter (visible v) rows) ≡ map (λ f. bare (row_for e 1 f)) (filter_map (fact_of es) (filter (visible v) rows))
        → map bare (cond b (r ∷ filter (visible v) rows) (filter (visible v) rows))
        ≡ map (λ f. bare (row_for e 1 f)) (filter_map (fact_of es) (cond b (r ∷ filter (visible v) rows) (filter (visible v) rows)))
    by true h ih =
        ap₂ (λ z zs. z ∷ zs) h.2 ih
        ∙ sym (ap (λ o. map (λ f. bare (row_for e 1 f)) (cons_option o (filter_map (fact_of es) (filter (visible v) rows)))) h.1)
    by false h ih = ih

-- ---- facts at a version are each there once

after_once : (cs : List (List Edit)) (facts : List Fact) → IsOnce fact_cmp facts → IsOnce fact_cmp (after_commits edited_facts cs facts)
after_once [] facts once = once
after_once (edits ∷ cs) facts once = after_once cs (edited_facts edits facts) (edited_facts_once edits facts once)

-- ---- the theorem

pub rows_of_scratch : (numbering : Numbering) (l : Load) (history : List Entry) (root : Root) → IsNumbering numbering → IsLoad l → StandsFor l history root
    → IsNumberedBy numbering root → behind root ≡ 0 → bare_rows root ≡ scratch numbering l history
rows_of_scratch numbering l history root numbers is s by_numbering none_behind =
    ordered_determined (lists_linear numbers_linear) (map bare (filter (visible root.version) root.rows)) (map bare (filter (visible 1) (loaded numbering (reload l history)).rows))
    (λ z. by (λ w. is_eq (slice_cmp nat_cmp z w)))
  where
    es : List Epoch
    es = epochs root

    cur : Epoch
    cur = root.current

    facts : List Fact
    facts = facts_at l history (version_of history)

    now : ReadsAs es root.rows root.version (axioms_at l history root.version) (signature_at l history root.version) (facts_at l history root.version)
    now = s.reads root.version (IsLive.current refl)

    is_current : now.epoch ≡ cur
    is_current = some_some (sym now.covers ∙ covering-push root.older root.current root.version (le_true root.current.first root.version s.epochs_are.last_first))

    numbered : IsNumbered cur
    numbered = current_numbered root.older root.current root.version s.epochs_are

    carried : All (λ r. not (carries cur.id r) ≡ false) root.rows
    carried = none_passes (λ r. not (carries cur.id r)) root.rows none_behind

    not_not : (b : Bool) → not b ≡ false → b ≡ true
    not_not true e = refl
    not_not false e = absurd (true≢false e)

    one : (r : Row) → IsRowAt es root.version r → not (carries cur.id r) ≡ false → (f : Fact) × (fact_of es r ≡ Some f) × (bare r ≡ bare (row_for cur 1 f))
    one r row c =
        let id = is_equal r.epoch cur.id (not_not (carries cur.id r) c) in
        let found = ap (epoch_of es) id ∙ last_is_found root.older root.current s.epochs_are.ids in
        (row.fact, row.stands, bare_row cur r row.fact r.kind refl numbered row.ends_agree (sym (ap (fact_in r) found) ∙ row.stands))

    each : All (λ r. (f : Fact) × (fact_of es r ≡ Some f) × (bare r ≡ bare (row_for cur 1 f))) root.rows
    each k d h = one _ (s.rows_are.each k d h) (carried k d h)

    once : IsOnce fact_cmp facts
    once = after_once (commits_to history (version_of history)) l.facts is.facts

    -- the facts of the visible rows, as often as those of the version
    same_facts : (f : Fact) → count (λ g. is_eq (fact_cmp f g)) (filter_map (fact_of es) (filter (visible root.version) root.rows)) ≡ count (λ g. is_eq (fact_cmp f g)) facts
    same_facts f =
        count_facts es root.rows root.version f ∙ now.facts_are f ∙ ap (λ v. cond (has fact_cmp (facts_at l history v) f) 1 0) s.version
        ∙ sym (count_once fact_cmp facts once f)

    new : Epoch
    new = epoch_from numbering 1 1 (axioms_at l history (version_of history)) (signature_at l history (version_of history))

    names_same : (k : Kind) → names_of k cur ≡ numbering k (axioms_at l history (version_of history)) (signature_at l history (version_of history))
    names_same k =
        by_numbering k
        ∙ ap₂ (numbering k) (ap (λ d. d.axioms) (sym is_current) ∙ now.axioms_are ∙ ap (axioms_at l history) s.version)
        (ap (λ d. d.signature) (sym is_current) ∙ now.signature_is ∙ ap (signature_at l history) s.version)

    bare_same : (f : Fact) → bare (row_for cur 1 f) ≡ bare (row_for new 1 f)
    bare_same (Is c x) = ap (λ names. 0 ∷ number_of names c ∷ x ∷ x ∷ []) (names_same Class)
    bare_same (Link p x y) = ap (λ names. 1 ∷ number_of names p ∷ x ∷ y ∷ []) (names_same Role)

    loaded_test : (p : List ℕ → Bool) (f : Fact) → (p (bare (row_for new 1 f)) && visible 1 (row_for new 1 f)) ≡ p (bare (row_for cur 1 f))
    loaded_test p f = ap₂ (λ a b. p a && b) (sym (bare_same f)) (new_now new 1 f (omega arith)) ∙ and_true (p (bare (row_for cur 1 f)))

    by : (p : List ℕ → Bool)
        → count p (map bare (filter (visible root.version) root.rows)) ≡ count p (map bare (filter (visible 1) (loaded numbering (reload l history)).rows))
    by p =
        ap (count p) (bare_facts es cur root.version root.rows each)
        ∙ count-map p (λ f. bare (row_for cur 1 f)) (filter_map (fact_of es) (filter (visible root.version) root.rows))
        ∙ count_determined facts_linear (filter_map (fact_of es) (filter (visible root.version) root.rows)) facts same_facts (λ f. p (bare (row_for cur 1 f)))
        ∙ sym (
        count-map p bare (filter (visible 1) (loaded numbering (reload l history)).rows)
        ∙ count-filter (λ r. p (bare r)) (visible 1) (loaded numbering (reload l history)).rows
        ∙ count-ordered (λ r. p (bare r) && visible 1 r) row_cmp (map (row_for new 1) facts)
        ∙ count-map (λ r. p (bare r) && visible 1 r) (row_for new 1) facts
        ∙ count-same (λ f. p (bare (row_for new 1 f)) && visible 1 (row_for new 1 f)) (λ f. p (bare (row_for cur 1 f))) facts (loaded_test p)
        )

-- ---- the current epoch is numbered by the numbering, in every run

module _ (numbering : Numbering) (root : Root) (by_numbering : IsNumberedBy numbering root) where
  pub next_numbered : (stream : ℕ) (e : Event) → IsNumberedBy numbering (next numbering root stream e).0
  next_numbered stream (event.Commit edits) = by (commit_refused root edits)
    where
      epoch : (b : Bool) (k : Kind)
          → (names_of k (cond b (epoch_from numbering (root.current.id + 1) (root.version + 1) (edited_axioms edits root.current.axioms) (edited_signature edits root.current.signature)) root.current))
          ≡ numbering k (cond b (epoch_from numbering (root.current.id + 1) (root.version + 1) (edited_axioms edits root.current.axioms) (edited_signature edits root.current.signature)) root.current).axioms
          (cond b (epoch_from numbering (root.current.id + 1) (root.version + 1) (edited_axioms edits root.current.axioms) (edited_signature edits root.current.signature)) root.current).signature
      epoch true Class = refl
      epoch true Role = refl
      epoch false k = by_numbering k

      by : (o : Option Refusal) → IsNumberedBy numbering (refused_or root o (committed numbering root edits, reply.Committed (committed numbering root edits).version (committed numbering root edits).current.id)).0
      by None = epoch (opens root edits)
      by (Some why) = by_numbering
  next_numbered stream event.Pin = by (pin_in root.pins stream)
    where
      by : (o : Option ℕ) → IsNumberedBy numbering (pinned root stream o).0
      by None = by_numbering
      by (Some v) = by_numbering
  next_numbered stream event.Unpin = by (pin_in root.pins stream)
    where
      by : (o : Option ℕ) → IsNumberedBy numbering (unpinned root stream o).0
      by None = by_numbering
      by (Some v) = by_numbering
  next_numbered stream (event.Migrate i n) = by (nat_lt i root.shards)
    where
      by : (b : Bool) → IsNumberedBy numbering (cond {A = Root × Reply} b (migrated root i n, reply.Migrated (min n (count (is_behind_in root i) root.rows)) (behind (migrated root i n))) (root, reply.Refused (NoShard i))).0
      by true = by_numbering
      by false = by_numbering
  next_numbered stream (event.Sweep i n) = by (nat_lt i root.shards)
    where
      by : (b : Bool) → IsNumberedBy numbering (cond {A = Root × Reply} b (swept root i n, reply.Swept (min n (count (is_over_in root i) root.rows)) (count (is_over_in root i) (swept root i n).rows)) (root, reply.Refused (NoShard i))).0
      by true = by_numbering
      by false = by_numbering
  next_numbered stream event.Reclaim = by_numbering
  next_numbered stream (event.Look n) = by_numbering

run_numbered : (numbering : Numbering) (root : Root) → IsNumberedBy numbering root → (more : List Entry) → IsNumberedBy numbering (root_from numbering root more)
run_numbered numbering root is [] = is
run_numbered numbering root is (e ∷ more) = run_numbered numbering (next numbering root e.stream e.event).0 (next_numbered numbering root is e.stream e.event) more

loaded_numbered : (numbering : Numbering) (l : Load) → IsNumberedBy numbering (loaded numbering l)
loaded_numbered numbering l Class = refl
loaded_numbered numbering l Role = refl

pub legal_scratch : (numbering : Numbering) (l : Load) (history : List Entry) → IsNumbering numbering → IsLoad l → IsLegal numbering l history
    → behind (root_of numbering l history) ≡ 0 → bare_rows (root_of numbering l history) ≡ scratch numbering l history
legal_scratch numbering l history numbers is legal none_behind =
    rows_of_scratch numbering l history (root_of numbering l history) numbers is (legal_stands numbering l history numbers is legal)
    (run_numbered numbering (loaded numbering l) (loaded_numbered numbering l) history) none_behind

-- ---- while no epoch opens, no row falls behind

module _ (numbering : Numbering) (root : Root) (none_behind : behind root ≡ 0) where
  keeps_epoch : (es : List Epoch) (after : List Fact) (v : ℕ) (r : Row) → (ended es after v r).epoch ≡ r.epoch
  keeps_epoch es after v r = by (r.last == open_end && not (is_among after (fact_of es r)))
    where
      by : (b : Bool) → (cond b (ended_at v r) r).epoch ≡ r.epoch
      by true = refl
      by false = refl

  new_carries : (e : Epoch) (v : ℕ) (f : Fact) → not (carries e.id (row_for e v f)) ≡ false
  new_carries e v (Is c x) = ap not (eq-eqb e.id e.id refl)
  new_carries e v (Link p x y) = ap not (eq-eqb e.id e.id refl)

  commit_behind : (edits : List Edit) → (committed numbering root edits).current.id ≡ root.current.id → behind (committed numbering root edits) ≡ 0
  commit_behind edits same =
      let e = committed_epoch numbering root edits in
      let test : Row → Bool = λ r. not (carries e.id r) in
      let after = edited_facts edits (root_facts root) in
      let rows = map (ended (epochs root) after (root.version + 1)) root.rows in
      let new = map (row_for e (root.version + 1)) (new_facts (root_facts root) after) in
      let a = count-ordered test row_cmp (rows ++ new) in
      let b = count-append test rows new in
      let c = count-map test (ended (epochs root) after (root.version + 1)) root.rows
      ∙ count-same (λ r. test (ended (epochs root) after (root.version + 1) r)) (λ r. not (carries root.current.id r)) root.rows
      (λ r. ap₂ (λ m n. not (m == n)) (keeps_epoch (epochs root) after (root.version + 1) r) same) in
      let d = count-map test (row_for e (root.version + 1)) (new_facts (root_facts root) after)
      ∙ count-same (λ f. test (row_for e (root.version + 1) f)) (λ f. false) (new_facts (root_facts root) after) (new_carries e (root.version + 1))
      ∙ count-none (new_facts (root_facts root) after) in
      omega (arith, a, b, c, d, none_behind)

  carries_new : (r : Row) (o : Option Fact) → not (carries root.current.id r) ≡ false → not (carries root.current.id (numbered_in root.current r o)) ≡ not (carries root.current.id r)
  carries_new r None h = refl
  carries_new r (Some (Is c x)) h = ap not (eq-eqb root.current.id root.current.id refl) ∙ sym h
  carries_new r (Some (Link p x y)) h = ap not (eq-eqb root.current.id root.current.id refl) ∙ sym h

  moved_carries : (r : Row) → not (carries root.current.id r) ≡ false → not (carries root.current.id (renumbered (epochs root) root.current r)) ≡ not (carries root.current.id r)
  moved_carries r h = carries_new r (fact_of (epochs root) r) h

  migrate_behind : (i n : ℕ) → behind (migrated root i n) ≡ 0
  migrate_behind i n =
      let test : Row → Bool = λ r. not (carries root.current.id r) in
      let carried = none_passes test root.rows none_behind in
      count-ordered test row_cmp (change_first n (is_behind_in root i) (renumbered (epochs root) root.current) root.rows)
      ∙ count-change_first (is_behind_in root i) test (renumbered (epochs root) root.current) n root.rows
      (λ k d h. moved_carries _ (carried k d h))
      ∙ none_behind

  sweep_behind : (i n : ℕ) → behind (swept root i n) ≡ 0
  sweep_behind i n =
      let less = count-drop_first_le (λ r. not (carries root.current.id r)) (is_over_in root i) n root.rows in
      omega (arith, less, none_behind)

  pub next_behind : (stream : ℕ) (e : Event) → (next numbering root stream e).0.current.id ≡ root.current.id → behind (next numbering root stream e).0 ≡ 0
  next_behind stream (event.Commit edits) h = by (commit_refused root edits) h
    where
      by : (o : Option Refusal)
          → (refused_or root o (committed numbering root edits, reply.Committed (committed numbering root edits).version (committed numbering root edits).current.id)).0.current.id ≡ root.current.id
          → behind (refused_or root o (committed numbering root edits, reply.Committed (committed numbering root edits).version (committed numbering root edits).current.id)).0 ≡ 0
      by None h = commit_behind edits h
      by (Some why) h = none_behind
  next_behind stream event.Pin h = by (pin_in root.pins stream)
    where
      by : (o : Option ℕ) → behind (pinned root stream o).0 ≡ 0
      by None = none_behind
      by (Some v) = none_behind
  next_behind stream event.Unpin h = by (pin_in root.pins stream)
    where
      by : (o : Option ℕ) → behind (unpinned root stream o).0 ≡ 0
      by None = none_behind
      by (Some v) = none_behind
  next_behind stream (event.Migrate i n) h = by (nat_lt i root.shards)
    where
      by : (b : Bool) → behind (cond {A = Root × Reply} b (migrated root i n, reply.Migrated (min n (count (is_behind_in root i) root.rows)) (behind (migrated root i n))) (root, reply.Refused (NoShard i))).0 ≡ 0
      by true = migrate_behind i n
      by false = none_behind
  next_behind stream (event.Sweep i n) h = by (nat_lt i root.shards)
    where
      by : (b : Bool) → behind (cond {A = Root × Reply} b (swept root i n, reply.Swept (min n (count (is_over_in root i) root.rows)) (count (is_over_in root i) (swept root i n).rows)) (root, reply.Refused (NoShard i))).0 ≡ 0
      by true = sweep_behind i n
      by false = none_behind
  next_behind stream event.Reclaim h = none_behind
  next_behind stream (event.Look n) h = none_behind

pub run_behind : (numbering : Numbering) (root : Root) → behind root ≡ 0 → (more : List Entry) → NoneOpens numbering root more → behind (root_from numbering root more) ≡ 0
run_behind numbering root none_behind [] closed = none_behind
run_behind numbering root none_behind (e ∷ more) closed =
    run_behind numbering (next numbering root e.stream e.event).0 (next_behind numbering root none_behind e.stream e.event closed.0) more closed.1

-- ---- after a Migrate that has none left

root_from-append : (numbering : Numbering) (root : Root) (xs ys : List Entry)
    → root_from numbering root (xs ++ ys) ≡ root_from numbering (root_from numbering root xs) ys
root_from-append numbering root [] ys = refl
root_from-append numbering root (x ∷ xs) ys = root_from-append numbering (next numbering root x.stream x.event).0 xs ys

-- the reply of an entry among others
reply_among : (numbering : Numbering) (root : Root) (xs : List Entry) (e : Entry) (ys : List Entry) → IsLegalFrom numbering root (xs ++ e ∷ ys)
    → (next numbering (root_from numbering root xs) e.stream e.event).1 ≡ e.reply
reply_among numbering root [] e ys legal = legal.1
reply_among numbering root (x ∷ xs) e ys legal = reply_among numbering (next numbering root x.stream x.event).0 xs e ys legal.2

none_left : (numbering : Numbering) (root : Root) (stream i n moved : ℕ)
    → (next numbering root stream (event.Migrate i n)).1 ≡ reply.Migrated moved 0 → behind (next numbering root stream (event.Migrate i n)).0 ≡ 0
none_left numbering root stream i n moved e = by (nat_lt i root.shards) e
  where
    left_in : Reply → ℕ
    left_in (reply.Migrated m l) = l
    left_in r = 1

    by : (b : Bool)
        → (cond {A = Root × Reply} b (migrated root i n, reply.Migrated (min n (count (is_behind_in root i) root.rows)) (behind (migrated root i n))) (root, reply.Refused (NoShard i))).1
        ≡ reply.Migrated moved 0
        → behind (cond {A = Root × Reply} b (migrated root i n, reply.Migrated (min n (count (is_behind_in root i) root.rows)) (behind (migrated root i n))) (root, reply.Refused (NoShard i))).0 ≡ 0
    by true e = ap left_in e
    by false e = let h = ap left_in e in absurd (omega (arith, h))

pub left_scratch : (numbering : Numbering) (l : Load) (history more : List Entry) (stream i n moved : ℕ) → IsNumbering numbering → IsLoad l
    → IsLegal numbering l (longer history stream (event.Migrate i n) (reply.Migrated moved 0) ++ more)
    → NoneOpens numbering (root_of numbering l (longer history stream (event.Migrate i n) (reply.Migrated moved 0))) more
    → bare_rows (root_of numbering l (longer history stream (event.Migrate i n) (reply.Migrated moved 0) ++ more))
    ≡ scratch numbering l (longer history stream (event.Migrate i n) (reply.Migrated moved 0) ++ more)
left_scratch numbering l history more stream i n moved numbers is legal closed =
    legal_scratch numbering l (first ++ more) numbers is legal
    (ap behind (root_from-append numbering (loaded numbering l) first more)
    ∙ run_behind numbering (root_of numbering l first)
    (ap behind (root_from-append numbering (loaded numbering l) history (e ∷ []))
    ∙ none_left numbering (root_of numbering l history) stream i n moved
    (reply_among numbering (loaded numbering l) history e more (subst (IsLegalFrom numbering (loaded numbering l)) (append_assoc history (e ∷ []) more) legal))) more closed)
  where
    e : Entry
    e = record { stream = stream; event = event.Migrate i n; reply = reply.Migrated moved 0 }

    first : List Entry
    first = longer history stream (event.Migrate i n) (reply.Migrated moved 0)
