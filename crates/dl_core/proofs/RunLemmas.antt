-- Every root of a legal history stands for it.
use Rattle.std.proofs.Common.{◌≡◌, ℕ, ◌+◌, ◌-◌, ◌≤◌, Bool, true, false, ◌&&◌, cond, nat_lt, min, List, [], ◌∷◌, ◌++◌, map, filter, take, length, Contains, Option, Some, None, refl, sym, ap, ap₂, subst, ◌∙◌, arith, append_assoc, append-nil}
use Rattle.std.specs.Ordering.{is_eq}
use Rattle.std.proofs.lemmas.List.{length-map, take-append-le}
use Rattle.std.proofs.lemmas.List.Elements.{All-nil, All-push, All-map, filter_map-append, All-contains_itself}
use Rattle.dl_terms.specs.Order.{fact_cmp}
use Rattle.dl_terms.specs.declared.axiom.Fact.{Fact}
use Rattle.dl_terms.proofs.OrderLemmas.{facts_linear}
use Rattle.dl_terms.proofs.MemberLemmas.{Contains-nil}
use Rattle.dl_normal.specs.Weight.{total_weight}
use Rattle.dl_edits.specs.Names.{predicates}
use Rattle.dl_row.specs.Lists.{count, ordered}
use Rattle.dl_core.specs.History.{Load, Entry, accepted, commits, version_of, commits_to, axioms_at, facts_at, signature_at}
use Rattle.dl_row.specs.Rows.{Epoch, fact_of, is_fact, visible, rows_for, row_cmp}
use Rattle.dl_core.specs.Root.{Root, pin_in, IsLive, IsNumbered, IsRowAt, RowsSay, ReadsAs, StandsFor, IsLoad}
use Rattle.dl_edits.specs.Signatures.{IsPart}
use Rattle.dl_epoch.specs.Known.{max_weight}
use Rattle.dl_hier.specs.Predicates.{max_predicates}
use Rattle.dl_core.specs.Next.{Numbering, IsNumbering, IsReady, epoch_from, row_for, loaded, committed, commit_refused, refused_or, pinned, unpinned, migrated, swept, behind, is_behind_in, is_over_in, is_dead_in, reclaimed, looked, next}
use Rattle.dl_core.specs.Legal.{asked, root_from, IsLegalFrom, IsLegal, root_of}
use Rattle.dl_event.specs.declared.event.Edit.{Edit}
use Rattle.dl_event.specs.declared.event.Event.{Event}
use Rattle.dl_event.specs.declared.event.Event.TheVariants as event
use Rattle.dl_event.specs.declared.reply.Reply.{Reply}
use Rattle.dl_event.specs.declared.reply.Reply.TheVariants as reply
use Rattle.dl_event.specs.declared.reply.Refusal.{Refusal}
use Rattle.dl_event.specs.declared.reply.Refusal.TheVariants.{NoShard}
use Rattle.dl_row.proofs.CountLemmas.{count-ordered}
use Rattle.dl_edits.proofs.CountLemmas.{count-map, count-agree, count_once}
use Rattle.dl_edits.proofs.EditLemmas.{part_itself}
use Rattle.dl_core.proofs.CommitLemmas.{new_now}
use Rattle.dl_row.specs.Laws.{row_total}
use Rattle.dl_edits.proofs.OrderedLemmas.{All-ordered}
use Rattle.dl_row.proofs.OrderedLemmas.{ordered-ascends, length-ordered}
use Rattle.dl_core.proofs.EpochLemmas.{row_for_stands}
use Rattle.dl_edits.proofs.SetLemmas.{has_there}
use Rattle.dl_core.proofs.MaintainLemmas.{migrated_keep, swept_keep, reclaimed_keep}
use Rattle.dl_core.proofs.PinLemmas.{silent_keeps, pinned_keeps, unpinned_keeps}
use Rattle.dl_core.proofs.CommitKeepLemmas.{committed_keeps, new_row}

-- ---- the load

pub loaded_stands : (numbering : Numbering) (l : Load) → IsNumbering numbering → IsLoad l → StandsFor l [] (loaded numbering l)
loaded_stands numbering l numbers is = record {
  version = refl;
  shards = (refl, is.shards.0, is.shards.1);
  pins = record {
    are = λ stream. refl;
    once = λ stream. omega arith;
    versions = All-nil (λ p. (1 ≤ p.version) × (p.version ≤ 1));
  };
  reads = reads;
  epochs_are = record {
    numbered = All-push IsNumbered [] e (All-nil IsNumbered) numbered;
    parts = All-push (λ d. IsPart d.signature l.signature) [] e (All-nil (λ d. IsPart d.signature l.signature)) (part_itself l.signature);
    ids = (tt, tt);
    firsts = (tt, tt);
    last_id = omega arith;
    last_first = omega arith;
    weights = All-push (λ d. total_weight d.axioms ≤ max_weight) [] e (All-nil (λ d. total_weight d.axioms ≤ max_weight)) is.weights;
    predicates = All-push (λ d. predicates d.axioms d.signature ≤ max_predicates) [] e (All-nil (λ d. predicates d.axioms d.signature ≤ max_predicates)) is.few;
    kept = omega arith;
  };
  rows_are = record {
    each = All-ordered (IsRowAt (e ∷ []) 1) row_cmp (map (row_for e 1) l.facts)
        (All-map (IsRowAt (e ∷ []) 1) (row_for e 1) l.facts (λ k d h. row_one _ (All-contains_itself l.facts k d h)));
    ascending = ordered-ascends row_total (map (row_for e 1) l.facts);
    once = λ v below f. once v f;
    kept =
        let a = length-ordered row_cmp (map (row_for e 1) l.facts) in
        let b = length-map l.facts (row_for e 1) in
        let k = is.kept in
        omega (arith, a, b, k);
  };
}
  where
    e : Epoch
    e = epoch_from numbering 1 1 l.axioms l.signature

    numbered : IsNumbered e
    numbered = numbers 1 1 l.axioms l.signature is.signature

    stand : (g : Fact) → Contains l.facts g → fact_of (e ∷ []) (row_for e 1 g) ≡ Some g
    stand g c = row_for_stands (e ∷ []) e 1 g refl numbered (is.known g (has_there facts_linear l.facts g c))

    row_one : (g : Fact) → Contains l.facts g → IsRowAt (e ∷ []) 1 (row_for e 1 g)
    row_one g c = new_row (e ∷ []) e 1 g (stand g c) (omega arith)

    each : (v : ℕ) (f g : Fact) → Contains l.facts g → (visible v (row_for e 1 g) && is_fact f (fact_of (e ∷ []) (row_for e 1 g))) ≡ (visible v (row_for e 1 g) && is_eq (fact_cmp f g))
    each v f g c = ap (λ o. visible v (row_for e 1 g) && is_fact f o) (stand g c)

    now : (f g : Fact) → Contains l.facts g → (visible 1 (row_for e 1 g) && is_fact f (fact_of (e ∷ []) (row_for e 1 g))) ≡ is_eq (fact_cmp f g)
    now f g c = each 1 f g c ∙ ap (λ b. b && is_eq (fact_cmp f g)) (new_now e 1 g (omega arith))

    says : RowsSay (e ∷ []) (ordered row_cmp (map (row_for e 1) l.facts)) 1 l.facts
    says f =
        count-ordered (λ r. visible 1 r && is_fact f (fact_of (e ∷ []) r)) row_cmp (map (row_for e 1) l.facts)
        ∙ count-map (λ r. visible 1 r && is_fact f (fact_of (e ∷ []) r)) (row_for e 1) l.facts
        ∙ count-agree (λ g. visible 1 (row_for e 1 g) && is_fact f (fact_of (e ∷ []) (row_for e 1 g))) (λ g. is_eq (fact_cmp f g)) l.facts
        (λ k d h. now f _ (All-contains_itself l.facts k d h))
        ∙ count_once fact_cmp l.facts is.facts f

    fewer : (v : ℕ) (f : Fact) (gs : List Fact) → count (λ g. visible v (row_for e 1 g) && is_eq (fact_cmp f g)) gs ≤ count (λ g. is_eq (fact_cmp f g)) gs
    fewer v f [] = omega arith
    fewer v f (g ∷ gs) = by (visible v (row_for e 1 g)) (is_eq (fact_cmp f g)) (fewer v f gs)
      where
        by : (b c : Bool) → count (λ g. visible v (row_for e 1 g) && is_eq (fact_cmp f g)) gs ≤ count (λ g. is_eq (fact_cmp f g)) gs
            → cond (b && c) 1 0 + count (λ g. visible v (row_for e 1 g) && is_eq (fact_cmp f g)) gs ≤ cond c 1 0 + count (λ g. is_eq (fact_cmp f g)) gs
        by true c ih = omega (arith, ih)
        by false true ih = omega (arith, ih)
        by false false ih = omega (arith, ih)

    once : (v : ℕ) (f : Fact) → rows_for (e ∷ []) (ordered row_cmp (map (row_for e 1) l.facts)) v f ≤ 1
    once v f =
        let a = count-ordered (λ r. visible v r && is_fact f (fact_of (e ∷ []) r)) row_cmp (map (row_for e 1) l.facts)
        ∙ count-map (λ r. visible v r && is_fact f (fact_of (e ∷ []) r)) (row_for e 1) l.facts
        ∙ count-agree (λ g. visible v (row_for e 1 g) && is_fact f (fact_of (e ∷ []) (row_for e 1 g))) (λ g. visible v (row_for e 1 g) && is_eq (fact_cmp f g)) l.facts
        (λ k d h. each v f _ (All-contains_itself l.facts k d h)) in
        let b = fewer v f l.facts in
        let c = is.facts.at_most f in
        omega (arith, a, b, c)

    reads : (v : ℕ) → IsLive (loaded numbering l) v
        → ReadsAs (e ∷ []) (ordered row_cmp (map (row_for e 1) l.facts)) v (axioms_at l [] v) (signature_at l [] v) (facts_at l [] v)
    reads v (IsLive.current h) =
        subst (λ v. ReadsAs (e ∷ []) (ordered row_cmp (map (row_for e 1) l.facts)) v (axioms_at l [] v) (signature_at l [] v) (facts_at l [] v)) h
        (record { epoch = e; covers = refl; axioms_are = refl; signature_is = refl; facts_are = says })
    reads v (IsLive.pinned p c h) = absurd (Contains-nil p c)

-- ---- one event

module _ (numbering : Numbering) (l : Load) (history : List Entry) (root : Root) (s : StandsFor l history root) where
  abbrev Keeps : ℕ → Event → Root × Reply → Type 0
  Keeps stream e after = StandsFor l (history ++ record { stream = stream; event = e; reply = after.1 } ∷ []) after.0

  commit_keeps : (stream : ℕ) (edits : List Edit) → IsNumbering numbering → IsReady root → (o : Option Refusal) → commit_refused root edits ≡ o
      → Keeps stream (event.Commit edits)
      (refused_or root o (committed numbering root edits, reply.Committed (committed numbering root edits).version (committed numbering root edits).current.id))
  commit_keeps stream edits numbers ready None h =
      committed_keeps numbering l history root edits
      (record {
        stream = stream;
        event = event.Commit edits;
        reply = reply.Committed (committed numbering root edits).version (committed numbering root edits).current.id;
      }) numbers ready h refl (λ pin. refl) s
  commit_keeps stream edits numbers ready (Some why) h =
      silent_keeps l history (record { stream = stream; event = event.Commit edits; reply = reply.Refused why }) refl root (λ pin. refl) s

  pin_keeps : (stream : ℕ) (o : Option ℕ) → pin_in root.pins stream ≡ o → Keeps stream event.Pin (pinned root stream o)
  pin_keeps stream None h =
      pinned_keeps l history (record { stream = stream; event = event.Pin; reply = reply.Pinned root.version }) refl root refl h s
  pin_keeps stream (Some v) h =
      silent_keeps l history (record { stream = stream; event = event.Pin; reply = (pinned root stream (Some v)).1 }) refl root (λ pin. refl) s

  unpin_keeps : (stream : ℕ) (o : Option ℕ) → Keeps stream event.Unpin (unpinned root stream o)
  unpin_keeps stream None =
      silent_keeps l history (record { stream = stream; event = event.Unpin; reply = (unpinned root stream None).1 }) refl root (λ pin. refl) s
  unpin_keeps stream (Some v) =
      unpinned_keeps l history (record { stream = stream; event = event.Unpin; reply = reply.Unpinned v }) refl root v refl s

  migrate_keeps : (stream i n moved left : ℕ) (b : Bool)
      → Keeps stream (event.Migrate i n) (cond b (migrated root i n, reply.Migrated moved left) (root, reply.Refused (NoShard i)))
  migrate_keeps stream i n moved left true =
      silent_keeps l history (record { stream = stream; event = event.Migrate i n; reply = reply.Migrated moved left }) refl (migrated root i n) (λ pin. refl)
      (migrated_keep l history root i n s)
  migrate_keeps stream i n moved left false =
      silent_keeps l history (record { stream = stream; event = event.Migrate i n; reply = reply.Refused (NoShard i) }) refl root (λ pin. refl) s

  sweep_keeps : (stream i n dropped left : ℕ) (b : Bool)
      → Keeps stream (event.Sweep i n) (cond b (swept root i n, reply.Swept dropped left) (root, reply.Refused (NoShard i)))
  sweep_keeps stream i n dropped left true =
      silent_keeps l history (record { stream = stream; event = event.Sweep i n; reply = reply.Swept dropped left }) refl (swept root i n) (λ pin. refl)
      (swept_keep l history root i n s)
  sweep_keeps stream i n dropped left false =
      silent_keeps l history (record { stream = stream; event = event.Sweep i n; reply = reply.Refused (NoShard i) }) refl root (λ pin. refl) s

  pub next_keeps : (stream : ℕ) (e : Event) → IsNumbering numbering → IsReady root → Keeps stream e (next numbering root stream e)
  next_keeps stream (event.Commit edits) numbers ready = commit_keeps stream edits numbers ready (commit_refused root edits) refl
  next_keeps stream event.Pin numbers ready = pin_keeps stream (pin_in root.pins stream) refl
  next_keeps stream event.Unpin numbers ready = unpin_keeps stream (pin_in root.pins stream)
  next_keeps stream (event.Migrate i n) numbers ready =
      migrate_keeps stream i n (min n (count (is_behind_in root i) root.rows)) (behind (migrated root i n)) (nat_lt i root.shards)
  next_keeps stream (event.Sweep i n) numbers ready =
      sweep_keeps stream i n (min n (count (is_over_in root i) root.rows)) (count (is_over_in root i) (swept root i n).rows) (nat_lt i root.shards)
  next_keeps stream event.Reclaim numbers ready =
      silent_keeps l history
      (record { stream = stream; event = event.Reclaim; reply = reply.Reclaimed (map (λ e. e.id) (filter (is_dead_in root) root.older)) })
      refl (reclaimed root) (λ pin. refl) (reclaimed_keep l history root s)
  next_keeps stream (event.Look n) numbers ready =
      silent_keeps l history (record { stream = stream; event = event.Look n; reply = looked root n }) refl root (λ pin. refl) s

-- ---- every event of a legal history

pub run_keeps : (numbering : Numbering) (l : Load) → IsNumbering numbering → (history : List Entry) (root : Root) → StandsFor l history root
    → (more : List Entry) → IsLegalFrom numbering root more → StandsFor l (history ++ more) (root_from numbering root more)
run_keeps numbering l numbers history root s [] legal = subst (λ h. StandsFor l h root) (sym (append-nil history)) s
run_keeps numbering l numbers history root s (e ∷ more) legal =
    subst (λ h. StandsFor l h (root_from numbering (next numbering root e.stream e.event).0 more)) (append_assoc history (e ∷ []) more)
    (run_keeps numbering l numbers (history ++ e ∷ []) (next numbering root e.stream e.event).0
    (subst (λ r. StandsFor l (history ++ record { stream = e.stream; event = e.event; reply = r } ∷ []) (next numbering root e.stream e.event).0) legal.1
    (next_keeps numbering l history root s e.stream e.event numbers legal.0.0)) more legal.2)

pub legal_stands : (numbering : Numbering) (l : Load) (history : List Entry) → IsNumbering numbering → IsLoad l → IsLegal numbering l history
    → StandsFor l history (root_of numbering l history)
legal_stands numbering l history numbers is legal =
    run_keeps numbering l numbers [] (loaded numbering l) (loaded_stands numbering l numbers is) history legal

-- ---- what a version has doesn't change

pub commits_to-more : (history more : List Entry) (v : ℕ) → v ≤ version_of history → commits_to (history ++ more) v ≡ commits_to history v
commits_to-more history more v below =
    ap (take (v - 1)) (filter_map-append (λ e. accepted e.event e.reply) history more)
    ∙ take-append-le (v - 1) (commits history) (commits more) (omega (arith, below))

-- ---- replies are determined

pub replies_determined : (numbering : Numbering) (root : Root) (xs ys : List Entry) → IsLegalFrom numbering root xs → IsLegalFrom numbering root ys
    → map asked xs ≡ map asked ys → xs ≡ ys
replies_determined numbering root [] [] a b same = refl
replies_determined numbering root [] (y ∷ ys) a b same = absurd (let n = ap length same in omega (arith, n))
replies_determined numbering root (x ∷ xs) [] a b same = absurd (let n = ap length same in omega (arith, n))
replies_determined numbering root (x ∷ xs) (y ∷ ys) a b same =
    let head = ap (first_or (x.stream, x.event)) same in
    let tail = ap rest same in
    let here = entry_same x y (ap (λ p. p.0) head) (ap (λ p. p.1) head) (sym a.1 ∙ ap (λ p. (next numbering root p.0 p.1).1) head ∙ b.1) in
    ap₂ (λ z zs. z ∷ zs) here
    (replies_determined numbering (next numbering root x.stream x.event).0 xs ys a.2
    (subst (λ p. IsLegalFrom numbering (next numbering root p.0 p.1).0 ys) (sym head) b.2) tail)
  where
    first_or : ℕ × Event → List (ℕ × Event) → ℕ × Event
    first_or d [] = d
    first_or d (p ∷ ps) = p

    rest : List (ℕ × Event) → List (ℕ × Event)
    rest [] = []
    rest (p ∷ ps) = ps

    entry_same : (x y : Entry) → x.stream ≡ y.stream → x.event ≡ y.event → x.reply ≡ y.reply → x ≡ y
    entry_same x y a b c = λ i. record { stream = a i; event = b i; reply = c i }
