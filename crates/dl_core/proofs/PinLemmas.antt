-- Pins: what a stream's pin is after a Pin, an Unpin, and any other event.
use Rattle.std.proofs.Common.{◌≡◌, ℕ, ◌+◌, ◌≤◌, ◌⊎◌, Bool, true, false, not, cond, ◌==◌, List, [], ◌∷◌, ◌++◌, filter, length, take, ◌-◌, Contains, Option, Some, None, refl, sym, ap, ap₂, subst, ◌∙◌, inl, inr, arith}
use Rattle.std.proofs.lemmas.Bool.Decides.{nat_tests}
use Rattle.std.proofs.lemmas.List.Elements.{All-filter, All-push, Contains-append_cases}
use Rattle.dl_terms.proofs.MemberLemmas.{Contains-first, Contains-later, Contains-cons, Contains-one}
use Rattle.dl_row.specs.Lists.{count, first_some}
use Rattle.dl_core.specs.History.{Load, Entry, accepted, commits, version_of, after_commits, axioms_at, facts_at, signature_at, pinned_by, pin_of}
use Rattle.dl_edits.specs.Edits.{edited_axioms, edited_facts, edited_signature}
use Rattle.dl_core.specs.Root.{Root, epochs, pin_in, IsLive, ReadsAs, StandsFor}
use Rattle.dl_event.specs.declared.pin.Pin.{Pin}
use Rattle.dl_event.specs.declared.reply.Reply.TheVariants as reply
use Rattle.dl_row.proofs.CountLemmas.{count-append}
use Rattle.dl_edits.proofs.CountLemmas.{count-filter_le}
use Rattle.dl_core.proofs.EpochLemmas.{some_none}
use Rattle.dl_core.proofs.HistoryLemmas.{commits-silent, pin-push}

-- ---- lists of pins

pub pin_in-push : (pins : List Pin) (p : Pin) (stream : ℕ) → pin_in (pins ++ p ∷ []) stream ≡ first_some (pin_in pins stream) (cond (p.stream == stream) (Some p.version) None)
pin_in-push [] p stream = refl
pin_in-push (q ∷ pins) p stream = by (q.stream == stream) (pin_in-push pins p stream)
  where
    by : (b : Bool) → pin_in (pins ++ p ∷ []) stream ≡ first_some (pin_in pins stream) (cond (p.stream == stream) (Some p.version) None)
        → cond b (Some q.version) (pin_in (pins ++ p ∷ []) stream) ≡ first_some (cond b (Some q.version) (pin_in pins stream)) (cond (p.stream == stream) (Some p.version) None)
    by true ih = refl
    by false ih = ih

pub pin_in-none : (pins : List Pin) (stream : ℕ) → pin_in pins stream ≡ None → count (λ p. p.stream == stream) pins ≡ 0
pin_in-none [] stream e = refl
pin_in-none (q ∷ pins) stream e = by (q.stream == stream) e (pin_in-none pins stream)
  where
    by : (b : Bool) → cond b (Some q.version) (pin_in pins stream) ≡ None → (pin_in pins stream ≡ None → count (λ p. p.stream == stream) pins ≡ 0)
        → cond b 1 0 + count (λ p. p.stream == stream) pins ≡ 0
    by true e ih = absurd (some_none (sym e))
    by false e ih = let h = ih e in omega (arith, h)

same_number : (a b : ℕ) → (a == b) ≡ true → a ≡ b
same_number a b h = grind (arith, nat_tests)

other_number : (a b : ℕ) → (a == b) ≡ false → a ≡ b → ⊥
other_number a b h e = grind (arith, nat_tests)

pub pin_in-removed : (pins : List Pin) (stream other : ℕ)
    → pin_in (filter (λ p. not (p.stream == stream)) pins) other ≡ cond (stream == other) None (pin_in pins other)
pin_in-removed [] stream other = sym (by (stream == other))
  where
    by : (b : Bool) → cond {A = Option ℕ} b None None ≡ None
    by true = refl
    by false = refl
pin_in-removed (q ∷ pins) stream other =
    by (q.stream == stream) (stream == other) (q.stream == other) refl refl refl (pin_in-removed pins stream other)
  where
    by : (a b c : Bool) → (q.stream == stream) ≡ a → (stream == other) ≡ b → (q.stream == other) ≡ c
        → pin_in (filter (λ p. not (p.stream == stream)) pins) other ≡ cond (stream == other) None (pin_in pins other)
        → pin_in (cond (not a) (q ∷ filter (λ p. not (p.stream == stream)) pins) (filter (λ p. not (p.stream == stream)) pins)) other
        ≡ cond b None (cond c (Some q.version) (pin_in pins other))
    by true true c d e f ih = ih ∙ ap (λ b. cond b None (pin_in pins other)) e
    by true false true d e f ih =
        absurd (other_number stream other e (sym (same_number q.stream stream d) ∙ same_number q.stream other f))
    by true false false d e f ih = ih ∙ ap (λ b. cond b None (pin_in pins other)) e
    by false true true d e f ih =
        absurd (other_number q.stream stream d (same_number q.stream other f ∙ sym (same_number stream other e)))
    by false true false d e f ih = ap (λ b. cond b (Some q.version) (pin_in (filter (λ p. not (p.stream == stream)) pins) other)) f ∙ ih ∙ ap (λ b. cond b None (pin_in pins other)) e
    by false false c d e f ih = ap₂ (λ b o. cond b (Some q.version) o) f (ih ∙ ap (λ b. cond b None (pin_in pins other)) e)

pub Contains-filter : {A : Type 0} (q : A → Bool) (xs : List A) (x : A) → Contains (filter q xs) x → Contains xs x
Contains-filter q [] x c = c
Contains-filter {A} q (y ∷ xs) x c = by (q y) c (Contains-filter q xs x)
  where
    by : (b : Bool) → Contains (cond b (y ∷ filter q xs) (filter q xs)) x → (Contains (filter q xs) x → Contains xs x) → Contains (y ∷ xs) x
    by true c ih = here (Contains-cons y x (filter q xs) c) ih
      where
        here : (y ≡ x) ⊎ Contains (filter q xs) x → (Contains (filter q xs) x → Contains xs x) → Contains (y ∷ xs) x
        here (inl e) ih = subst (Contains (y ∷ xs)) e (Contains-first y xs)
        here (inr later) ih = Contains-later y x xs (ih later)
    by false c ih = Contains-later y x xs (ih c)

-- ---- events that are no commit

module _ (l : Load) (history : List Entry) (e : Entry) (silent : accepted e.event e.reply ≡ None) where
  same_commits : commits (history ++ e ∷ []) ≡ commits history
  same_commits = commits-silent history e silent

  same_version : version_of (history ++ e ∷ []) ≡ version_of history
  same_version = ap (λ cs. 1 + length cs) same_commits

  -- nothing that is read at a version changes
  pub reads_still : (root : Root) (v : ℕ)
      → ReadsAs (epochs root) root.rows v (axioms_at l history v) (signature_at l history v) (facts_at l history v)
      → ReadsAs (epochs root) root.rows v (axioms_at l (history ++ e ∷ []) v) (signature_at l (history ++ e ∷ []) v) (facts_at l (history ++ e ∷ []) v)
  reads_still root v r =
      subst (λ cs. ReadsAs (epochs root) root.rows v (after_commits edited_axioms (take (v - 1) cs) l.axioms)
      (after_commits edited_signature (take (v - 1) cs) l.signature) (after_commits edited_facts (take (v - 1) cs) l.facts))
      (sym same_commits) r

  -- an event that pins nothing and unpins nothing
  pub silent_keeps : (root : Root) → ((pin : Option ℕ) → pinned_by e.reply pin ≡ pin) → StandsFor l history root → StandsFor l (history ++ e ∷ []) root
  silent_keeps root no_pin s = record {
    version = s.version ∙ sym same_version;
    shards = s.shards;
    pins = record {
      are = λ stream. s.pins.are stream ∙ sym (pin-push history e stream ∙ by (e.stream == stream) (pin_of history stream));
      once = s.pins.once;
      versions = s.pins.versions;
    };
    reads = λ v live. reads_still root v (s.reads v live);
    epochs_are = s.epochs_are;
    rows_are = s.rows_are;
  }
    where
      by : (b : Bool) (pin : Option ℕ) → cond b (pinned_by e.reply pin) pin ≡ pin
      by true pin = no_pin pin
      by false pin = refl

  -- an accepted Pin
  pub pinned_keeps : (root : Root) → e.reply ≡ reply.Pinned root.version → pin_in root.pins e.stream ≡ None → StandsFor l history root
      → StandsFor l (history ++ e ∷ []) (record {
        version = root.version;
        older = root.older;
        current = root.current;
        pins = root.pins ++ record { stream = e.stream; version = root.version } ∷ [];
        shards = root.shards;
        rows = root.rows;
      })
  pinned_keeps root is none s = record {
    version = s.version ∙ sym same_version;
    shards = s.shards;
    pins = record {
      are = λ stream.
          pin_in-push root.pins new stream
          ∙ by (e.stream == stream) stream refl
          ∙ sym (pin-push history e stream ∙ ap (λ r. cond (e.stream == stream) (pinned_by r (pin_of history stream)) (pin_of history stream)) is);
      once = λ stream.
          let a = count-append (λ p. p.stream == stream) root.pins (new ∷ []) in
          let b = one (e.stream == stream) stream refl in
          omega (arith, a, b);
      versions =
          All-push (λ p. (1 ≤ p.version) × (p.version ≤ root.version)) root.pins new s.pins.versions
          (omega (arith, s.version), omega arith);
    };
    reads = λ v live. reads_still root v (s.reads v (live_before v live));
    epochs_are = s.epochs_are;
    rows_are = s.rows_are;
  }
    where
      new : Pin
      new = record { stream = e.stream; version = root.version }

      by : (b : Bool) (stream : ℕ) → (e.stream == stream) ≡ b
          → first_some (pin_in root.pins stream) (cond b (Some root.version) None) ≡ cond b (Some root.version) (pin_of history stream)
      by true stream h =
          ap (λ o. first_some o (Some root.version)) (ap (pin_in root.pins) (sym (same_number e.stream stream h)) ∙ none)
      by false stream h = no_more (pin_in root.pins stream) ∙ s.pins.are stream
        where
          no_more : (o : Option ℕ) → first_some o None ≡ o
          no_more None = refl
          no_more (Some v) = refl

      one : (b : Bool) (stream : ℕ) → (e.stream == stream) ≡ b → count (λ p. p.stream == stream) root.pins + (cond b 1 0 + 0) ≤ 1
      one true stream h =
          let n = pin_in-none root.pins stream (ap (pin_in root.pins) (sym (same_number e.stream stream h)) ∙ none) in omega (arith, n)
      one false stream h = let n = s.pins.once stream in omega (arith, n)

      live_before : (v : ℕ) → IsLive (record {
        version = root.version;
        older = root.older;
        current = root.current;
        pins = root.pins ++ new ∷ [];
        shards = root.shards;
        rows = root.rows;
      }) v → IsLive root v
      live_before v (IsLive.current h) = IsLive.current h
      live_before v (IsLive.pinned p c h) = cases (Contains-append_cases root.pins (new ∷ []) p c)
        where
          cases : Contains root.pins p ⊎ Contains (new ∷ []) p → IsLive root v
          cases (inl there) = IsLive.pinned p there h
          cases (inr here) = IsLive.current (ap (λ q. q.version) (Contains-one new p here) ∙ h)

  -- an accepted Unpin
  pub unpinned_keeps : (root : Root) (w : ℕ) → e.reply ≡ reply.Unpinned w → StandsFor l history root
      → StandsFor l (history ++ e ∷ []) (record {
        version = root.version;
        older = root.older;
        current = root.current;
        pins = filter (λ p. not (p.stream == e.stream)) root.pins;
        shards = root.shards;
        rows = root.rows;
      })
  unpinned_keeps root w is s = record {
    version = s.version ∙ sym same_version;
    shards = s.shards;
    pins = record {
      are = λ stream.
          pin_in-removed root.pins e.stream stream ∙ ap (cond (e.stream == stream) None) (s.pins.are stream)
          ∙ sym (pin-push history e stream ∙ ap (λ r. cond (e.stream == stream) (pinned_by r (pin_of history stream)) (pin_of history stream)) is);
      once = λ stream.
          let a = count-filter_le (λ p. p.stream == stream) (λ p. not (p.stream == e.stream)) root.pins in
          let b = s.pins.once stream in
          omega (arith, a, b);
      versions = All-filter (λ p. not (p.stream == e.stream)) (λ p. (1 ≤ p.version) × (p.version ≤ root.version)) root.pins s.pins.versions;
    };
    reads = λ v live. reads_still root v (s.reads v (live_before v live));
    epochs_are = s.epochs_are;
    rows_are = s.rows_are;
  }
    where
      live_before : (v : ℕ) → IsLive (record {
        version = root.version;
        older = root.older;
        current = root.current;
        pins = filter (λ p. not (p.stream == e.stream)) root.pins;
        shards = root.shards;
        rows = root.rows;
      }) v → IsLive root v
      live_before v (IsLive.current h) = IsLive.current h
      live_before v (IsLive.pinned p c h) = IsLive.pinned p (Contains-filter (λ q. not (q.stream == e.stream)) root.pins p c) h
