-- The root after a commit that is accepted: its entries, its shards and its book.
use Rattle.std.proofs.Common.{◌≡◌, ℕ, suc, ◌+◌, ◌<◌, ◌≤◌, Bool, true, false, not, ◌&&◌, cond, ◌==◌, List, [], ◌∷◌, ◌++◌, map, filter, length, length-append, get_or, refl, sym, ap, ap₂, subst, ◌∙◌, arith}
use Rattle.std.specs.List.{All, AllByRecursion, AllPairs, Contains}
use Rattle.std.specs.Ordering.{nat_cmp, is_eq}
use Rattle.std.specs.Cmp.Lexicographic.{slice_cmp}
use Rattle.std.proofs.lemmas.Bool.{and_parts, not-false, eq-eqb, eqb-true, ne_eqb}
use Rattle.std.proofs.lemmas.List.{length-map, map-append, get_or-map}
use Rattle.std.proofs.lemmas.List.Elements.{All-push, All-filter, All-weaker, All-contains_itself, All-from_recursion}
use Rattle.dl_terms.specs.Order.{axiom_cmp, fact_cmp}
use Rattle.dl_terms.specs.declared.axiom.Signature.{Signature}
use Rattle.dl_terms.specs.declared.axiom.Fact.{Fact}
use Rattle.dl_terms.specs.declared.axiom.Fact.TheVariants.{Is, Link}
use Rattle.dl_terms.proofs.OrderLemmas.{numbers_linear, facts_linear, lists_linear}
use Rattle.dl_terms.proofs.MemberLemmas.{All-Contains}
use Rattle.dl_hier.proofs.MemberLemmas.{Contains-map_of}
use Rattle.dl_row.specs.Lists.{count, ordered, InOrder}
use Rattle.dl_row.specs.Rows.{Epoch, fact_of, open_end, row_cmp}
use Rattle.dl_row.specs.Shards.{max_rows}
use Rattle.dl_row.specs.declared.row.Row.{Row}
use Rattle.dl_row.proofs.CountLemmas.{count-append, count-ordered, same_is}
use Rattle.dl_row.proofs.OrderedLemmas.{length-ordered, InOrder_at}
use Rattle.dl_epoch.specs.Frozen.{Frozen, IsFrozen, from_version}
use Rattle.dl_epoch.specs.Covering.{Kept, epoch_in, AreEntries}
use Rattle.dl_edits.specs.Sets.{has}
use Rattle.dl_edits.specs.Edits.{edited_axioms, edited_signature, edited_facts}
use Rattle.dl_core.specs.Root.{Root, IsLive, IsRowAt, StandsFor, epochs, shard, stands_in, rows_in}
use Rattle.dl_edits.specs.Signatures.{AreKnown, knows}
use Rattle.dl_migrate.specs.Tallies.{carries}
use Rattle.dl_core.specs.Next.{Numbering, GoesByRule, IsReady, epoch_from, row_for, root_facts, ended, ended_at, is_among, opens, same_signature, committed, committed_epoch, committed_older}
use Rattle.dl_core.specs.Loading.{IsFactIn, AreParts}
use Rattle.dl_core.specs.Held.{IsBookOf, IsHeld, IsSound, CountsRows}
use Rattle.dl_core.specs.Committing.{IsAccepted, IsCommit, AreShardsAfter, AreEntriesAfter, added}
use Rattle.dl_core.specs.History.{facts_at}
use Rattle.dl_core.specs.declared.book.Book.{Book}
use Rattle.dl_event.specs.declared.event.Edit.{Edit}
use Rattle.dl_event.specs.declared.event.Event.TheVariants as event
use Rattle.dl_event.specs.declared.reply.Reply.{Reply}
use Rattle.dl_event.specs.declared.reply.Reply.TheVariants as reply
use Rattle.dl_core.specs.declared.ontology.Ontology.{Ontology}
use Rattle.dl_core.proofs.CommitKeepLemmas.{not_refused, committed_keeps}
use Rattle.dl_edits.proofs.CountLemmas.{count-map, count-same, count-none, count-agree}
use Rattle.dl_edits.proofs.EditLemmas.{edited_known}
use Rattle.dl_core.proofs.EpochLemmas.{row_epoch, find_is}
use Rattle.dl_core.proofs.FactLemmas.{visible_say, visible_known}
use Rattle.dl_core.proofs.HeldLemmas.{shards_are}
use Rattle.dl_edits.proofs.OrderedLemmas.{each-last}
use Rattle.dl_core.proofs.RuleLemmas.{rule_is_numbering, rule_exists}
use Rattle.dl_edits.proofs.SetLemmas.{has_there, there_has}
use Rattle.dl_core.proofs.ShardLemmas.{shard-committed, filter-map}

-- ---- rows of each epoch

all_below : {A : Type 0} (R : A → A → Type 0) (xs : List A) (y : A) → InOrder R (xs ++ y ∷ [])
    → AllByRecursion (λ x. R x y) xs
all_below R [] y order = tt
all_below R (x ∷ xs) y order = (each-last (R x) xs y order.0, all_below R xs y order.1)

constant : {A : Type 0} (b : Bool) (xs : List A) → count (λ x. b) xs ≡ cond b (length xs) 0
constant true [] = refl
constant {A} true (x ∷ xs) = let ih = constant {A = A} true xs in omega (arith, ih)
constant false xs = count-none xs

length-part : {A : Type 0} (p : A → Bool) (xs : List A) → length (filter p xs) ≤ length xs
length-part p [] = omega arith
length-part {A} p (x ∷ xs) = by (p x) (length-part p xs)
  where
    by : (b : Bool) → length (filter p xs) ≤ length xs
        → length (cond b (x ∷ filter p xs) (filter p xs)) ≤ suc (length xs)
    by true ih = omega (arith, ih)
    by false ih = omega (arith, ih)

module _ (numbering : Numbering) (root : Root) (edits : List Edit) where
  -- each row stays one of its epoch, and the new ones are of the current one
  rows_after : (id : ℕ) → count (carries id) (committed numbering root edits).rows
      ≡ count (carries id) root.rows + cond ((committed_epoch numbering root edits).id == id)
      (length (added root edits)) 0
  rows_after id =
      count-ordered (carries id) row_cmp (map end root.rows ++ map row (added root edits))
      ∙ count-append (carries id) (map end root.rows) (map row (added root edits))
      ∙ ap₂ (λ a b. a + b) (count-map (carries id) end root.rows
      ∙ count-same (λ r. carries id (end r)) (carries id) root.rows same)
      (count-map (carries id) row (added root edits)
      ∙ count-same (λ f. carries id (row f)) (λ f. (committed_epoch numbering root edits).id == id)
      (added root edits) of_row
      ∙ constant ((committed_epoch numbering root edits).id == id) (added root edits))
    where
      end : Row → Row
      end = ended (epochs root) (edited_facts edits (root_facts root)) (root.version + 1)

      row : Fact → Row
      row = row_for (committed_epoch numbering root edits) (root.version + 1)

      same : (r : Row) → carries id (end r) ≡ carries id r
      same r = by (r.last ==
          open_end && not (is_among (edited_facts edits (root_facts root)) (fact_of (epochs root) r)))
        where
          by : (b : Bool) → carries id (cond b (ended_at (root.version + 1) r) r) ≡ carries id r
          by true = refl
          by false = refl

      of_row : (f : Fact) → carries id (row f) ≡ ((committed_epoch numbering root edits).id == id)
      of_row (Is c x) = refl
      of_row (Link p x y) = refl

  signature_after : (committed_epoch numbering root edits).signature ≡ edited_signature edits root.current.signature
  signature_after = by (opens root edits) refl
    where
      by : (b : Bool) → opens root edits ≡ b
          → (cond b (epoch_from numbering (root.current.id + 1) (root.version + 1)
          (edited_axioms edits root.current.axioms)
          (edited_signature edits root.current.signature)) root.current).signature ≡ edited_signature edits
          root.current.signature
      by true h = refl
      by false h =
          let old = root.current.signature in
          let new = edited_signature edits old in
          let same = and_parts (is_eq
          (slice_cmp axiom_cmp root.current.axioms (edited_axioms edits root.current.axioms)))
          (same_signature old new) (not-false _ h) in
          let names = and_parts (is_eq (slice_cmp nat_cmp old.classes new.classes))
          (is_eq (slice_cmp nat_cmp old.roles new.roles)) same.1 in
          ap₂ (λ c r. record { classes = c; roles = r })
          (same_is (lists_linear numbers_linear) old.classes new.classes names.0)
          (same_is (lists_linear numbers_linear) old.roles new.roles names.1)

-- ---- the new root

module _ (root : Root) (o : Ontology) (new gone : List Fact) (ready : IsReady root) (sound : IsSound root)
    (commit : IsCommit root o new gone) where
  -- there is room for the new rows
  pub few_new : length root.rows + length new ≤ max_rows
  few_new = subst (λ n. length root.rows + n ≤ max_rows) (sym (ap length commit.new_are))
      (not_refused root commit.to.edits commit.to.accepted).rows

  pub after_stands : (numbering : Numbering) → GoesByRule numbering → IsSound (committed numbering root commit.to.edits)
  after_stands numbering rule = record {
    load = sound.load;
    history = sound.history ++ record {
      stream = 0;
      event = event.Commit commit.to.edits;
      reply = reply.Committed (root.version + 1) (committed_epoch numbering root commit.to.edits).id;
    } ∷ [];
    stands = committed_keeps numbering sound.load sound.history root commit.to.edits (record {
      stream = 0;
      event = event.Commit commit.to.edits;
      reply = reply.Committed (root.version + 1) (committed_epoch numbering root commit.to.edits).id;
    }) (rule_is_numbering numbering rule) ready commit.to.accepted refl (λ pin. refl) sound.stands;
  }

  -- the signature has the predicates of the new facts
  fact_known : (s : Signature) (f : Fact) → knows s f ≡ true → IsFactIn s f
  fact_known s (Is c x) h = there_has numbers_linear s.classes c h
  fact_known s (Link p x y) h = there_has numbers_linear s.roles p h

  after_known : AreKnown (edited_signature commit.to.edits root.current.signature)
      (edited_facts commit.to.edits (root_facts root))
  after_known =
      let now = sound.stands.reads root.version (IsLive.current refl) in
      let facts = facts_at sound.load sound.history root.version in
      edited_known commit.to.edits root.current.signature (root_facts root)
      (visible_known (epochs root) root.rows root.version (root_facts root) root.current.signature
      (visible_say (epochs root) root.rows root.version facts now.facts_are) sound.stands.epochs_are.numbered
      sound.stands.epochs_are.parts)

  module _ (current : Kept)
      (is_current : (numbering : Numbering) → GoesByRule numbering → (a : IsAccepted root o)
      → epoch_in current ≡ committed_epoch numbering root a.edits) where
    pub new_known : All (IsFactIn current.epoch.signature) new
    new_known =
        subst (All (IsFactIn current.epoch.signature)) (sym commit.new_are)
        (All-filter (λ f. not (has fact_cmp (root_facts root) f)) (IsFactIn current.epoch.signature)
        (edited_facts commit.to.edits (root_facts root))
        (All-weaker (Contains (edited_facts commit.to.edits (root_facts root))) (IsFactIn current.epoch.signature)
        (λ f c. subst (λ s. IsFactIn s f) (sym is_signature)
        (fact_known (edited_signature commit.to.edits root.current.signature) f
        (after_known f (has_there facts_linear (edited_facts commit.to.edits (root_facts root)) f c))))
        (edited_facts commit.to.edits (root_facts root))
        (All-contains_itself (edited_facts commit.to.edits (root_facts root)))))
      where
        is_signature : current.epoch.signature ≡ edited_signature commit.to.edits root.current.signature
        is_signature = ap (λ e. e.signature) (is_current rule_exists.0 rule_exists.1 commit.to)
            ∙ signature_after rule_exists.0 root commit.to.edits

    module _ (version : ℕ) (version_is : version ≡ root.version + 1) (parts : List (List Row))
        (parts_are : (first : ℕ)
        → AreParts root.shards (map (row_for (from_version first current.epoch) version) new) parts) where
      pub parts_fit : (i : ℕ) → i < root.shards → length (shard root i) + length (get_or parts i []) ≤ max_rows
      parts_fit i h =
          let a = length-part (stands_in root.shards i) root.rows in
          let b = length-part (stands_in root.shards i) (map (row_for (from_version 0 current.epoch) version) new) in
          let c = length-map new (row_for (from_version 0 current.epoch) version) in
          let d = ap length ((parts_are 0).each i h) in
          let e = few_new in
          omega (arith, a, b, c, d, e)

      module _ (entries : List Kept) (entries_are : AreEntriesAfter root o.opens current entries) where
        all_entries : (numbering : Numbering) → GoesByRule numbering
            → map epoch_in entries ≡ epochs (committed numbering root commit.to.edits)
        all_entries numbering rule =
            ap (map epoch_in) entries_are.are ∙ map-append epoch_in entries_are.older (current ∷ [])
            ∙ ap₂ (λ es e. es ++ e ∷ [])
            (entries_are.epochs ∙ ap (λ b. cond b (epochs root) root.older) commit.to.edited.opens)
            (is_current numbering rule commit.to)

        pub in_order : AreEntries entries
        in_order = record {
          ids = pairs (λ e. e.id) (λ k. k.epoch.id) (λ k. refl) stands.epochs_are.ids;
          firsts = pairs (λ e. e.first) (λ k. k.first) (λ k. refl) stands.epochs_are.firsts;
        }
          where
            after : Root
            after = committed rule_exists.0 root commit.to.edits

            stands : StandsFor (after_stands rule_exists.0 rule_exists.1).load
                (after_stands rule_exists.0 rule_exists.1).history (committed rule_exists.0 root commit.to.edits)
            stands = (after_stands rule_exists.0 rule_exists.1).stands

            pairs : (f : Epoch → ℕ) (g : Kept → ℕ) → ((k : Kept) → f (epoch_in k) ≡ g k)
                → InOrder (λ d e. f d < f e) (epochs (committed rule_exists.0 root commit.to.edits))
                → AllPairs (λ d e. g d < g e) entries
            pairs f g same order i j d lt inside =
                let at = InOrder_at (λ d e. f d < f e) (map epoch_in entries) i j (epoch_in d)
                (subst (InOrder (λ d e. f d < f e)) (sym (all_entries rule_exists.0 rule_exists.1)) order) lt
                (let n = length-map entries epoch_in in omega (arith, n, inside)) in
                let a = ap f (get_or-map epoch_in entries i d (epoch_in d) (omega (arith, lt, inside)))
                ∙ same (get_or entries i d) in
                let b = ap f (get_or-map epoch_in entries j d (epoch_in d) inside) ∙ same (get_or entries j d) in
                omega (arith, at, a, b)

        module _ (frozen : IsFrozen current.epoch)
            (rows_are : current.rows ≡ cond o.opens 0 (rows_in root root.current) + length new)
            (old : Book) (tells : IsBookOf root old) (book : Book) (shards : List (List Row))
            (book_version : book.version ≡ version) (book_epochs : book.epochs ≡ entries)
            (book_pins : book.pins ≡ root.pins)
            (book_rows : book.rows ≡ length root.rows + length new)
            (shards_after : AreShardsAfter root gone parts version root.shards shards) where
          module _ (numbering : Numbering) (rule : GoesByRule numbering) where
            stands : StandsFor (after_stands numbering rule).load (after_stands numbering rule).history
                (committed numbering root commit.to.edits)
            stands = (after_stands numbering rule).stands

            news : length new ≡ length (added root commit.to.edits)
            news = ap length commit.new_are

            -- older ids are less than the current one
            older_ids : AllByRecursion (λ d. d.id < (committed_epoch numbering root commit.to.edits).id)
                (committed_older root commit.to.edits)
            older_ids = all_below (λ d e. d.id < e.id) (committed_older root commit.to.edits)
                (committed_epoch numbering root commit.to.edits) stands.epochs_are.ids

            older_counts : All (CountsRows (committed numbering root commit.to.edits)) entries_are.older
            older_counts =
                All-weaker (λ k. Contains entries_are.older k × CountsRows root k)
                (CountsRows (committed numbering root commit.to.edits)) (λ k h. one k h.0 h.1) entries_are.older
                (λ i d h. (All-contains_itself entries_are.older i d h, entries_are.counts i d h))
              where
                one : (k : Kept) → Contains entries_are.older k → CountsRows root k
                    → CountsRows (committed numbering root commit.to.edits) k
                one k c is =
                    let there = subst (λ es. Contains es (epoch_in k))
                    (entries_are.epochs ∙ ap (λ b. cond b (epochs root) root.older) commit.to.edited.opens)
                    (Contains-map_of epoch_in entries_are.older k c) in
                    let less = All-Contains (λ d. d.id < (committed_epoch numbering root commit.to.edits).id)
                    (committed_older root commit.to.edits) (epoch_in k)
                    (All-from_recursion (λ d. d.id < (committed_epoch numbering root commit.to.edits).id)
                    (committed_older root commit.to.edits) older_ids) there in
                    let other = ne_eqb (committed_epoch numbering root commit.to.edits).id k.epoch.id
                    (λ e. omega (arith, less, e)) in
                    let n = ap {B = ℕ} (λ b. cond b (length (added root commit.to.edits)) 0) other in
                    let all = rows_after numbering root commit.to.edits k.epoch.id in
                    omega (arith, is, n, all)

            -- no row carries the id of an epoch that opens
            none_yet : opens root commit.to.edits ≡ true
                → count (carries (committed_epoch numbering root commit.to.edits).id) root.rows ≡ 0
            none_yet h =
                count-agree (carries (committed_epoch numbering root commit.to.edits).id) (λ r. false) root.rows
                (All-weaker (IsRowAt (epochs root) root.version)
                (λ r. carries (committed_epoch numbering root commit.to.edits).id r ≡ false) (λ r row. one r row)
                root.rows sound.stands.rows_are.each)
                ∙ count-none root.rows
              where
                one : (r : Row) → IsRowAt (epochs root) root.version r
                    → carries (committed_epoch numbering root commit.to.edits).id r ≡ false
                one r row =
                    let e = row_epoch (epochs root) r row.fact row.stands in
                    let found = find_is (λ d. d.id == r.epoch) (epochs root) e.0 e.1 in
                    let there = subst (λ b. Contains (cond b (epochs root) root.older) e.0) (sym h) found.1 in
                    let less = All-Contains (λ d. d.id < (committed_epoch numbering root commit.to.edits).id)
                    (committed_older root commit.to.edits) e.0
                    (All-from_recursion (λ d. d.id < (committed_epoch numbering root commit.to.edits).id)
                    (committed_older root commit.to.edits) older_ids) there in
                    let same = eqb-true e.0.id r.epoch found.0 in
                    ne_eqb r.epoch (committed_epoch numbering root commit.to.edits).id
                    (λ x. omega (arith, less, same, x))

            current_counts : CountsRows (committed numbering root commit.to.edits) current
            current_counts =
                let id = ap (λ e. e.id) (is_current numbering rule commit.to) in
                let all = rows_after numbering root commit.to.edits (committed_epoch numbering root commit.to.edits).id
                in
                let same = ap {B = ℕ} (λ b. cond b (length (added root commit.to.edits)) 0)
                (eq-eqb (committed_epoch numbering root commit.to.edits).id
                (committed_epoch numbering root commit.to.edits).id refl) in
                let before = earlier (opens root commit.to.edits) refl in
                let opened = ap {B = ℕ} (λ b. cond b 0 (rows_in root root.current)) commit.to.edited.opens in
                let n = news in
                let rows = rows_are in
                (let total : current.rows ≡ count (carries (committed_epoch numbering root commit.to.edits).id)
                (committed numbering root commit.to.edits).rows = omega (arith, all, same, before, opened, n, rows) in
                total ∙ ap (λ i. count (carries i) (committed numbering root commit.to.edits).rows) (sym id))
              where
                earlier : (b : Bool) → opens root commit.to.edits ≡ b
                    → count (carries (committed_epoch numbering root commit.to.edits).id) root.rows ≡ cond
                    (opens root commit.to.edits) 0 (rows_in root root.current)
                earlier true h = none_yet h ∙ ap {B = ℕ} (λ b. cond b 0 (rows_in root root.current)) (sym h)
                earlier false h =
                    ap (λ b. count (carries
                    (cond b (epoch_from numbering (root.current.id + 1) (root.version + 1)
                    (edited_axioms commit.to.edits root.current.axioms)
                    (edited_signature commit.to.edits root.current.signature)) root.current).id) root.rows) h
                    ∙ ap {B = ℕ} (λ b. cond b 0 (rows_in root root.current)) (sym h)

            pub after_held : IsHeld (committed numbering root commit.to.edits) book shards
            after_held = record {
              tells = record {
                version = book_version ∙ version_is;
                epochs = ap (map epoch_in) book_epochs ∙ all_entries numbering rule;
                pins = book_pins;
                rows = book_rows ∙ sym total;
                counts = subst (All (CountsRows (committed numbering root commit.to.edits)))
                    (sym (book_epochs ∙ entries_are.are))
                    (All-push (CountsRows (committed numbering root commit.to.edits)) entries_are.older current
                    older_counts current_counts);
                frozen = subst (All (λ k. IsFrozen k.epoch)) (sym (book_epochs ∙ entries_are.are))
                    (All-push (λ k. IsFrozen k.epoch) entries_are.older current entries_are.frozen frozen);
              };
              shards_are = shards_are (committed numbering root commit.to.edits) shards sound.stands.shards.1
                  stands.rows_are.ascending shards_after.as_many each;
              sound = after_stands numbering rule;
            }
              where
                total : length (committed numbering root commit.to.edits).rows ≡ length root.rows + length new
                total =
                    let a = length-ordered row_cmp
                    (map (ended (epochs root) (edited_facts commit.to.edits (root_facts root)) (root.version + 1))
                    root.rows
                    ++ map (row_for (committed_epoch numbering root commit.to.edits) (root.version + 1))
                    (added root commit.to.edits)) in
                    let b = length-append
                    (map (ended (epochs root) (edited_facts commit.to.edits (root_facts root)) (root.version + 1))
                    root.rows)
                    (map (row_for (committed_epoch numbering root commit.to.edits) (root.version + 1))
                    (added root commit.to.edits)) in
                    let c = length-map root.rows
                    (ended (epochs root) (edited_facts commit.to.edits (root_facts root)) (root.version + 1)) in
                    let d = length-map (added root commit.to.edits)
                    (row_for (committed_epoch numbering root commit.to.edits) (root.version + 1)) in
                    let n = news in
                    omega (arith, a, b, c, d, n)

                each : (i : ℕ) → i < root.shards
                    → get_or shards i [] ≡ shard (committed numbering root commit.to.edits) i
                each i h =
                    shards_after.each (edited_facts commit.to.edits (root_facts root)) commit.gone_are i h
                    ∙ ap (λ v. ordered row_cmp
                    (map (ended (epochs root) (edited_facts commit.to.edits (root_facts root)) v)
                    (shard root i) ++ get_or parts i [])) version_is
                    ∙ ap (λ rs. ordered row_cmp
                    (map (ended (epochs root) (edited_facts commit.to.edits (root_facts root)) (root.version + 1))
                    (shard root i) ++ rs)) part
                    ∙ sym (shard-committed numbering root commit.to.edits i)
                  where
                    part : get_or parts i [] ≡ map
                        (row_for (committed_epoch numbering root commit.to.edits) (root.version + 1))
                        (filter (λ f. stands_in root.shards i
                        (row_for (committed_epoch numbering root commit.to.edits) (root.version + 1) f))
                        (added root commit.to.edits))
                    part =
                        (parts_are current.first).each i h
                        ∙ ap₂ (λ e v. filter (stands_in root.shards i) (map (row_for e v) new))
                        (is_current numbering rule commit.to) version_is
                        ∙ ap (λ fs. filter (stands_in root.shards i)
                        (map (row_for (committed_epoch numbering root commit.to.edits) (root.version + 1)) fs))
                        commit.new_are
                        ∙ filter-map (stands_in root.shards i)
                        (λ f. stands_in root.shards i
                        (row_for (committed_epoch numbering root commit.to.edits) (root.version + 1) f))
                        (row_for (committed_epoch numbering root commit.to.edits) (root.version + 1)) (λ f. refl)
                        (added root commit.to.edits)

-- parts of rows, as a caller sees them
pub parts_moved : (new : List Fact) (version n m : ℕ) (d e : Frozen) (ps qs : List (List Row)) → d ≡ e → n ≡ m → qs ≡ ps
    → ((first : ℕ) → AreParts n (map (row_for (from_version first d) version) new) ps)
    → (first : ℕ) → AreParts m (map (row_for (from_version first e) version) new) qs
parts_moved new version n m d e ps qs same count is are first =
    subst (λ k. AreParts k (map (row_for (from_version first e) version) new) qs) count
    (subst (λ x. AreParts n (map (row_for (from_version first x) version) new) qs) same
    (subst (AreParts n (map (row_for (from_version first d) version) new)) (sym is) (are first)))

-- ---- the reply

pub answered : (after next : Root) (v e : ℕ) → after ≡ next → v ≡ after.version → e ≡ after.current.id
    → ◌≡◌ {A = Root × Reply} (after, reply.Committed v e) (next, reply.Committed next.version next.current.id)
answered after next v e is version id =
    ap₂ {C = Root × Reply} (λ v e. (after, reply.Committed v e)) version id
    ∙ ap {B = Root × Reply} (λ r. (r, reply.Committed r.version r.current.id)) is
