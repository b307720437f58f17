-- A commit keeps what a root stands for: the new root stands for the history with the commit.
use Rattle.std.proofs.Common.{◌≡◌, ℕ, ◌+◌, ◌≤◌, ◌<◌, ◌⊎◌, Bool, true, false, not, ◌&&◌, cond, ◌==◌, nat_le, nat_lt, List, [], ◌∷◌, ◌++◌, map, length, length-append, All, Contains, Option, Some, None, refl, sym, ap, ap₂, subst, ◌∙◌, inl, inr, true≢false, arith}
use Rattle.std.specs.Ordering.{is_eq, nat_cmp}
use Rattle.std.specs.Cmp.Lexicographic.{slice_cmp}
use Rattle.std.proofs.lemmas.Bool.Decides.{nat_tests}
use Rattle.std.proofs.lemmas.List.{length-map}
use Rattle.std.proofs.lemmas.List.Elements.{All-append, All-push, All-map, All-weaker, All-filter, All-contains_itself}
use Rattle.dl_terms.specs.Order.{axiom_cmp, fact_cmp}
use Rattle.dl_terms.specs.declared.axiom.Axiom.{Axiom}
use Rattle.dl_terms.specs.declared.axiom.Fact.{Fact}
use Rattle.dl_terms.specs.declared.axiom.Fact.TheVariants.{Is, Link}
use Rattle.dl_terms.specs.declared.axiom.Signature.{Signature}
use Rattle.dl_terms.proofs.OrderLemmas.{axioms_linear, facts_linear, numbers_linear, lists_linear}
use Rattle.dl_terms.proofs.MemberLemmas.{both_true, All-Contains}
use Rattle.dl_edits.specs.Sets.{has, IsOnce}
use Rattle.dl_normal.specs.Weight.{total_weight}
use Rattle.dl_edits.specs.Names.{predicates}
use Rattle.dl_edits.specs.Edits.{edited_axioms, edited_facts, edited_signature}
use Rattle.dl_core.specs.History.{Load, Entry, accepted, axioms_at, facts_at, signature_at, after_commits, commits_to, pinned_by, pin_of}
use Rattle.dl_row.specs.Rows.{Epoch, epoch_of, fact_of, rows_for, covering, row_cmp, open_end}
use Rattle.dl_core.specs.Root.{Root, epochs, max_epochs, IsLive, IsNumbered, IsRowAt, AreEpochs, RowsSay, ReadsAs, StandsFor}
use Rattle.dl_edits.specs.Signatures.{IsPart, knows, AreKnown}
use Rattle.dl_epoch.specs.Known.{max_weight}
use Rattle.dl_hier.specs.Predicates.{max_predicates}
use Rattle.dl_row.specs.Shards.{max_rows}
use Rattle.dl_core.specs.Next.{Numbering, IsNumbering, IsReady, epoch_from, row_for, same_signature, opens, root_facts, ended, ended_at, is_among, new_facts, committed_epoch, committed_older, committed_rows, committed, commit_refused}
use Rattle.dl_row.specs.declared.row.Row.{Row}
use Rattle.dl_event.specs.declared.event.Edit.{Edit}
use Rattle.dl_edits.proofs.CountLemmas.{one_or_none}
use Rattle.dl_row.proofs.CountLemmas.{same_is}
use Rattle.dl_edits.proofs.SetLemmas.{has_there}
use Rattle.dl_core.proofs.FactLemmas.{visible_are, visible_once, visible_say, visible_known}
use Rattle.dl_edits.proofs.EditLemmas.{edited_facts_same, edited_facts_once, edited_signature_grows, edited_signature_once, edited_known, part_itself, part_trans}
use Rattle.dl_core.proofs.CommitLemmas.{le_true, le_false, committed_say, committed_keep}
use Rattle.dl_row.specs.Laws.{row_total}
use Rattle.dl_edits.proofs.OrderedLemmas.{below_last, All-ordered, InOrder-push}
use Rattle.dl_row.proofs.OrderedLemmas.{ordered-ascends, length-ordered}
use Rattle.dl_core.proofs.EpochLemmas.{some_none, some_some, find-append_found, covering-push, covering-push_later, last_is_found, row_for_stands, same_fact, current_numbered}
use Rattle.dl_core.proofs.HistoryLemmas.{version-commit, commits_to-earlier, new_version, pin-push}

-- ---- the epochs after a commit

record Grown (root : Root) (axioms : List Axiom) (signature : Signature) (older : List Epoch) (current : Epoch) : Type 0 where
  pub are : AreEpochs older current (root.version + 1)
  pub axioms_are : current.axioms ≡ axioms
  pub signature_is : current.signature ≡ signature
  pub found : (id : ℕ) (e : Epoch) → epoch_of (epochs root) id ≡ Some e → epoch_of (older ++ current ∷ []) id ≡ Some e
  pub before : (v : ℕ) → v ≤ root.version → covering (older ++ current ∷ []) v ≡ covering (epochs root) v

-- why a commit isn't refused
pub record IsWithin (root : Root) (edits : List Edit) : Type 0 where
  pub weights : total_weight (edited_axioms edits root.current.axioms) ≤ max_weight
  pub predicates : predicates (edited_axioms edits root.current.axioms) (edited_signature edits root.current.signature) ≤ max_predicates
  pub epochs : opens root edits ≡ true → length (epochs root) < max_epochs
  pub rows : length root.rows + length (new_facts (root_facts root) (edited_facts edits (root_facts root))) ≤ max_rows

pub not_this : {A : Type 0} (b : Bool) (x : A) (o : Option A) → cond b (Some x) o ≡ None → (b ≡ false) × (o ≡ None)
not_this true x o e = absurd (some_none (sym e))
not_this false x o e = (refl, e)

pub not_over : (a b : ℕ) → nat_lt a b ≡ false → b ≤ a
not_over a b h = grind (arith, nat_tests)

pub not_refused : (root : Root) (edits : List Edit) → commit_refused root edits ≡ None → IsWithin root edits
not_refused root edits e =
    let axioms = edited_axioms edits root.current.axioms in
    let signature = edited_signature edits root.current.signature in
    let new = length (new_facts (root_facts root) (edited_facts edits (root_facts root))) in
    let a = not_this (nat_lt max_weight (total_weight axioms)) _ _ e in
    let b = not_this (nat_lt max_predicates (predicates axioms signature)) _ _ a.1 in
    let c = not_this (opens root edits && nat_le max_epochs (length (epochs root))) _ _ b.1 in
    let d = not_this (nat_lt max_rows (length root.rows + new)) _ _ c.1 in record {
      weights = not_over max_weight (total_weight axioms) a.0;
      predicates = not_over max_predicates (predicates axioms signature) b.0;
      epochs = λ o. few (opens root edits) (length (epochs root)) o c.0;
      rows = not_over max_rows (length root.rows + new) d.0;
    }
  where
    few : (b : Bool) (n : ℕ) → b ≡ true → (b && nat_le max_epochs n) ≡ false → n < max_epochs
    few true n o h = grind (arith, nat_tests)
    few false n o h = absurd (true≢false (sym o))

not_false : (b : Bool) → not b ≡ false → b ≡ true
not_false true e = refl
not_false false e = absurd (true≢false e)

-- where the same axioms and the same signature are left, the epoch stays
stays : (root : Root) (edits : List Edit) → opens root edits ≡ false → AreEpochs root.older root.current root.version
    → Grown root (edited_axioms edits root.current.axioms) (edited_signature edits root.current.signature) root.older root.current
stays root edits h are =
    let old = root.current.signature in
    let new = edited_signature edits old in
    let same = both_true (is_eq (slice_cmp axiom_cmp root.current.axioms (edited_axioms edits root.current.axioms))) (same_signature old new) (not_false _ h) in
    let names = both_true (is_eq (slice_cmp nat_cmp old.classes new.classes)) (is_eq (slice_cmp nat_cmp old.roles new.roles)) same.1 in record {
      are = record {
        numbered = are.numbered;
        parts = are.parts;
        ids = are.ids;
        firsts = are.firsts;
        last_id = let n = are.last_id in omega (arith, n);
        last_first = let n = are.last_first in omega (arith, n);
        weights = are.weights;
        predicates = are.predicates;
        kept = are.kept;
      };
      axioms_are = same_is (lists_linear axioms_linear) root.current.axioms (edited_axioms edits root.current.axioms) same.0;
      signature_is =
          ap₂ (λ c r. record { classes = c; roles = r }) (same_is (lists_linear numbers_linear) old.classes new.classes names.0)
          (same_is (lists_linear numbers_linear) old.roles new.roles names.1);
      found = λ id e f. f;
      before = λ v b. refl;
    }

-- else a new one opens
new_opens : (numbering : Numbering) (root : Root) (edits : List Edit) → IsNumbering numbering → IsWithin root edits → opens root edits ≡ true
    → AreEpochs root.older root.current root.version
    → Grown root (edited_axioms edits root.current.axioms) (edited_signature edits root.current.signature) (epochs root)
    (epoch_from numbering (root.current.id + 1) (root.version + 1) (edited_axioms edits root.current.axioms) (edited_signature edits root.current.signature))
new_opens numbering root edits numbers within h are = record {
  are = record {
    numbered =
        All-push IsNumbered (epochs root) new are.numbered
        (numbers (root.current.id + 1) (root.version + 1) axioms signature
        (edited_signature_once edits root.current.signature (current_numbered root.older root.current root.version are).signature));
    parts =
        All-push (λ e. IsPart e.signature signature) (epochs root) new
        (All-weaker (λ e. IsPart e.signature root.current.signature) (λ e. IsPart e.signature signature)
        (λ e p. part_trans e.signature root.current.signature signature p (edited_signature_grows edits root.current.signature)) (epochs root) are.parts)
        (part_itself signature);
    ids =
        InOrder-push (λ d e. d.id < e.id) (epochs root) new are.ids
        (below_last (λ d. d.id) root.older root.current (root.current.id + 1) are.ids (omega arith));
    firsts =
        InOrder-push (λ d e. d.first < e.first) (epochs root) new are.firsts
        (below_last (λ d. d.first) root.older root.current (root.version + 1) are.firsts (omega (arith, are.last_first)));
    last_id = omega (arith, are.last_id);
    last_first = omega arith;
    weights = All-push (λ e. total_weight e.axioms ≤ max_weight) (epochs root) new are.weights within.weights;
    predicates = All-push (λ e. predicates e.axioms e.signature ≤ max_predicates) (epochs root) new are.predicates within.predicates;
    kept =
        let n = length-append (epochs root) (new ∷ []) in
        let k = within.epochs h in
        omega (arith, n, k);
  };
  axioms_are = refl;
  signature_is = refl;
  found = λ id e f. find-append_found (λ d. d.id == id) (epochs root) (new ∷ []) e f;
  before = λ v below. covering-push_later (epochs root) new v (le_false (root.version + 1) v (omega (arith, below)));
}
  where
    axioms : List Axiom
    axioms = edited_axioms edits root.current.axioms

    signature : Signature
    signature = edited_signature edits root.current.signature

    new : Epoch
    new = epoch_from numbering (root.current.id + 1) (root.version + 1) axioms signature

grown : (numbering : Numbering) (root : Root) (edits : List Edit) → IsNumbering numbering → IsWithin root edits
    → AreEpochs root.older root.current root.version
    → Grown root (edited_axioms edits root.current.axioms) (edited_signature edits root.current.signature) (committed_older root edits)
    (committed_epoch numbering root edits)
grown numbering root edits numbers within are = by (opens root edits) refl
  where
    by : (b : Bool) → opens root edits ≡ b
        → Grown root (edited_axioms edits root.current.axioms) (edited_signature edits root.current.signature) (cond b (epochs root) root.older)
        (cond b (epoch_from numbering (root.current.id + 1) (root.version + 1) (edited_axioms edits root.current.axioms)
        (edited_signature edits root.current.signature)) root.current)
    by true h = new_opens numbering root edits numbers within h are
    by false h = stays root edits h are

-- ---- the rows after a commit

-- a row that ends is still a row
ended_row : (es es' : List Epoch) (after : List Fact) (version : ℕ) (r : Row) → fact_of es' r ≡ fact_of es r → IsRowAt es version r
    → IsRowAt es' (version + 1) (ended es after (version + 1) r)
ended_row es es' after version r same row = by (r.last == open_end && not (is_among after (fact_of es r)))
  where
    begins : r.first ≤ version + 1
    begins = omega (arith, row.begins)

    ends : (r.last ≡ open_end) ⊎ (r.last ≤ version) → (r.last ≡ open_end) ⊎ (r.last ≤ version + 1)
    ends (inl e) = inl e
    ends (inr h) = inr (omega (arith, h))

    by : (b : Bool) → IsRowAt es' (version + 1) (cond b (ended_at (version + 1) r) r)
    by true = record {
      fact = row.fact;
      stands = same ∙ row.stands;
      begins = begins;
      not_empty = omega (arith, row.begins);
      ends = inr (omega arith);
      ends_agree = row.ends_agree;
    }
    by false = record {
      fact = row.fact;
      stands = same ∙ row.stands;
      begins = begins;
      not_empty = row.not_empty;
      ends = ends row.ends;
      ends_agree = row.ends_agree;
    }

pub new_row : (es : List Epoch) (e : Epoch) (version : ℕ) (g : Fact) → fact_of es (row_for e version g) ≡ Some g → version < open_end
    → IsRowAt es version (row_for e version g)
new_row es e version (Is c x) stands small = record {
  fact = Is c x;
  stands = stands;
  begins = omega arith;
  not_empty = small;
  ends = inl refl;
  ends_agree = refl;
}
new_row es e version (Link p x y) stands small = record {
  fact = Link p x y;
  stands = stands;
  begins = omega arith;
  not_empty = small;
  ends = inl refl;
  ends_agree = tt;
}

-- ---- the root after a commit

pub committed_keeps : (numbering : Numbering) (l : Load) (history : List Entry) (root : Root) (edits : List Edit) (e : Entry) → IsNumbering numbering
    → IsReady root → commit_refused root edits ≡ None → accepted e.event e.reply ≡ Some edits → ((pin : Option ℕ) → pinned_by e.reply pin ≡ pin)
    → StandsFor l history root → StandsFor l (history ++ e ∷ []) (committed numbering root edits)
committed_keeps numbering l history root edits e numbers ready not_r is no_pin s = record {
  version = ap (λ n. n + 1) s.version ∙ sym (version-commit history e edits is);
  shards = s.shards;
  pins = record {
    are = λ stream. s.pins.are stream ∙ sym (pin-push history e stream ∙ still (e.stream == stream) (pin_of history stream));
    once = s.pins.once;
    versions = All-weaker (λ p. (1 ≤ p.version) × (p.version ≤ root.version)) (λ p. (1 ≤ p.version) × (p.version ≤ root.version + 1))
        (λ p h. (h.0, omega (arith, h.1))) root.pins s.pins.versions;
  };
  reads = reads;
  epochs_are = g.are;
  rows_are = record {
    each = All-ordered (IsRowAt es' (root.version + 1)) row_cmp (map (ended es after (root.version + 1)) root.rows ++ map (row_for current (root.version + 1)) (new_facts before after))
        (All-append (IsRowAt es' (root.version + 1)) (map (ended es after (root.version + 1)) root.rows) (map (row_for current (root.version + 1)) (new_facts before after))
        (All-map (IsRowAt es' (root.version + 1)) (ended es after (root.version + 1)) root.rows
        (λ k d h. ended_row es es' after root.version _ (same k d h) (s.rows_are.each k d h)))
        (All-map (IsRowAt es' (root.version + 1)) (row_for current (root.version + 1)) (new_facts before after)
        (λ k d h. new_row es' current (root.version + 1) _
        (All-filter (λ f. not (has fact_cmp before f)) (λ f. fact_of es' (row_for current (root.version + 1) f) ≡ Some f) after stand k d h) small)));
    ascending = ordered-ascends row_total (map (ended es after (root.version + 1)) root.rows ++ map (row_for current (root.version + 1)) (new_facts before after));
    once = once;
    kept =
        let a = length-ordered row_cmp (map (ended es after (root.version + 1)) root.rows ++ map (row_for current (root.version + 1)) (new_facts before after)) in
        let b = length-append (map (ended es after (root.version + 1)) root.rows) (map (row_for current (root.version + 1)) (new_facts before after)) in
        let c = length-map root.rows (ended es after (root.version + 1)) in
        let d = length-map (new_facts before after) (row_for current (root.version + 1)) in
        let w = within.rows in
        omega (arith, a, b, c, d, w);
  };
}
  where
    within : IsWithin root edits
    within = not_refused root edits not_r

    es : List Epoch
    es = epochs root

    current : Epoch
    current = committed_epoch numbering root edits

    es' : List Epoch
    es' = committed_older root edits ++ current ∷ []

    g : Grown root (edited_axioms edits root.current.axioms) (edited_signature edits root.current.signature) (committed_older root edits) current
    g = grown numbering root edits numbers within s.epochs_are

    before : List Fact
    before = root_facts root

    after : List Fact
    after = edited_facts edits before

    small : root.version + 1 < open_end
    small = omega (arith, ready)

    now : ReadsAs es root.rows root.version (axioms_at l history root.version) (signature_at l history root.version) (facts_at l history root.version)
    now = s.reads root.version (IsLive.current refl)

    -- the current epoch covers the current version
    is_current : now.epoch ≡ root.current
    is_current = some_some (sym now.covers ∙ covering-push root.older root.current root.version (le_true root.current.first root.version s.epochs_are.last_first))

    after_once : IsOnce fact_cmp after
    after_once = edited_facts_once edits before (visible_once es root.rows root.version)

    after_known : AreKnown (edited_signature edits root.current.signature) after
    after_known =
        edited_known edits root.current.signature before
        (λ f h. visible_known es root.rows root.version (facts_at l history root.version) root.current.signature now.facts_are s.epochs_are.numbered s.epochs_are.parts f
        (sym (visible_are es root.rows root.version (facts_at l history root.version) now.facts_are f) ∙ h))

    stand_one : (f : Fact) → Contains after f → fact_of es' (row_for current (root.version + 1) f) ≡ Some f
    stand_one f c =
        row_for_stands es' current (root.version + 1) f (last_is_found (committed_older root edits) current g.are.ids)
        (current_numbered (committed_older root edits) current (root.version + 1) g.are)
        (ap (λ z. knows z f) g.signature_is ∙ after_known f (has_there facts_linear after f c))

    stand : All (λ f. fact_of es' (row_for current (root.version + 1) f) ≡ Some f) after
    stand k d h = stand_one _ (All-contains_itself after k d h)

    same_one : (r : Row) → IsRowAt es root.version r → fact_of es' r ≡ fact_of es r
    same_one r row = same_fact es es' r row.fact (g.found r.epoch) row.stands

    same : All (λ r. fact_of es' r ≡ fact_of es r) root.rows
    same k d h = same_one _ (s.rows_are.each k d h)

    say : RowsSay es' (committed_rows es root.rows current (root.version + 1) before after) (root.version + 1) after
    say = committed_say es es' root.rows current root.version before after s.rows_are.each same after_once stand small
        (visible_say es root.rows root.version (facts_at l history root.version) now.facts_are)

    keep : (v : ℕ) → v ≤ root.version → (f : Fact) → rows_for es' (committed_rows es root.rows current (root.version + 1) before after) v f ≡ rows_for es root.rows v f
    keep = committed_keep es es' root.rows current root.version before after same small

    still : (b : Bool) (pin : Option ℕ) → cond b (pinned_by e.reply pin) pin ≡ pin
    still true pin = no_pin pin
    still false pin = refl

    once : (v : ℕ) → v ≤ root.version + 1 → (f : Fact) → rows_for es' (committed_rows es root.rows current (root.version + 1) before after) v f ≤ 1
    once v below f = by (nat_le v root.version) refl
      where
        le_one : (n : ℕ) → n ≡ cond (has fact_cmp after f) 1 0 → n ≤ 1
        le_one n e = let o = one_or_none (has fact_cmp after f) in omega (arith, e, o)

        is_le : (a b : ℕ) → nat_le a b ≡ true → a ≤ b
        is_le a b h = grind (arith, nat_tests)

        is_last : (a b : ℕ) → nat_le a b ≡ false → a ≤ b + 1 → b + 1 ≡ a
        is_last a b h i = grind (arith, nat_tests)

        by : (b : Bool) → nat_le v root.version ≡ b → rows_for es' (committed_rows es root.rows current (root.version + 1) before after) v f ≤ 1
        by true h =
            let k = keep v (is_le v root.version h) f in
            let o = s.rows_are.once v (is_le v root.version h) f in
            omega (arith, k, o)
        by false h =
            subst (λ w. rows_for es' (committed_rows es root.rows current (root.version + 1) before after) w f ≤ 1) (is_last v root.version h below)
            (le_one (rows_for es' (committed_rows es root.rows current (root.version + 1) before after) (root.version + 1) f) (say f))

    -- what the new version has
    new_at : {A : Type 0} (by : List Edit → A → A) (x y : A) → y ≡ after_commits by (commits_to history root.version) x
        → by edits y ≡ after_commits by (commits_to (history ++ e ∷ []) (root.version + 1)) x
    new_at by x y h =
        ap (by edits) (h ∙ ap (λ v. after_commits by (commits_to history v) x) s.version)
        ∙ sym (ap (λ v. after_commits by (commits_to (history ++ e ∷ []) (v + 1)) x) s.version ∙ new_version by history e edits x is)

    reads_new : ReadsAs es' (committed_rows es root.rows current (root.version + 1) before after) (root.version + 1) (axioms_at l (history ++ e ∷ []) (root.version + 1))
        (signature_at l (history ++ e ∷ []) (root.version + 1)) (facts_at l (history ++ e ∷ []) (root.version + 1))
    reads_new = record {
      epoch = current;
      covers = covering-push (committed_older root edits) current (root.version + 1) (le_true current.first (root.version + 1) g.are.last_first);
      axioms_are = g.axioms_are ∙ new_at edited_axioms l.axioms root.current.axioms (ap (λ d. d.axioms) (sym is_current) ∙ now.axioms_are);
      signature_is = g.signature_is ∙ new_at edited_signature l.signature root.current.signature (ap (λ d. d.signature) (sym is_current) ∙ now.signature_is);
      facts_are = λ f. say f ∙ ap (λ b. cond b 1 0)
          (edited_facts_same edits before (facts_at l history root.version) (visible_are es root.rows root.version (facts_at l history root.version) now.facts_are) f
          ∙ ap (λ z. has fact_cmp z f) (new_at edited_facts l.facts (facts_at l history root.version) refl));
    }

    reads_old : (v : ℕ) → v ≤ root.version → ReadsAs es root.rows v (axioms_at l history v) (signature_at l history v) (facts_at l history v)
        → ReadsAs es' (committed_rows es root.rows current (root.version + 1) before after) v (axioms_at l (history ++ e ∷ []) v)
        (signature_at l (history ++ e ∷ []) v) (facts_at l (history ++ e ∷ []) v)
    reads_old v below r =
        let cs = sym (commits_to-earlier history e edits v is (omega (arith, below, s.version))) in record {
          epoch = r.epoch;
          covers = g.before v below ∙ r.covers;
          axioms_are = r.axioms_are ∙ ap (λ z. after_commits edited_axioms z l.axioms) cs;
          signature_is = r.signature_is ∙ ap (λ z. after_commits edited_signature z l.signature) cs;
          facts_are = λ f. keep v below f ∙ r.facts_are f ∙ ap (λ z. cond (has fact_cmp (after_commits edited_facts z l.facts) f) 1 0) cs;
        }

    reads : (v : ℕ) → IsLive (committed numbering root edits) v
        → ReadsAs es' (committed_rows es root.rows current (root.version + 1) before after) v (axioms_at l (history ++ e ∷ []) v)
        (signature_at l (history ++ e ∷ []) v) (facts_at l (history ++ e ∷ []) v)
    reads v (IsLive.current h) =
        subst (λ v. ReadsAs es' (committed_rows es root.rows current (root.version + 1) before after) v (axioms_at l (history ++ e ∷ []) v)
        (signature_at l (history ++ e ∷ []) v) (facts_at l (history ++ e ∷ []) v)) h reads_new
    reads v (IsLive.pinned p c h) =
        let range = All-Contains (λ p. (1 ≤ p.version) × (p.version ≤ root.version)) root.pins p s.pins.versions c in
        reads_old v (subst (λ n. n ≤ root.version) h range.1) (s.reads v (IsLive.pinned p c h))
