-- After a reclaim exactly the epochs in use remain, and the ids of the others are answered.
use Rattle.std.proofs.Common.{◌≡◌, ℕ, ◌≤◌, ◌<◌, ◌⊎◌, Bool, true, false, not, ◌&&◌, ◌||◌, cond, ◌==◌, nat_le, List, [], ◌∷◌, ◌++◌, map, filter, Contains, Option, Some, None, refl, sym, ap, subst, ◌∙◌, inl, inr, true≢false, arith}
use Rattle.std.proofs.lemmas.Bool.Decides.{nat_tests}
use Rattle.std.proofs.lemmas.List.Elements.{Contains-push, Contains-append_cases, Contains-append_left, All-from_recursion, filter_passes}
use Rattle.dl_terms.proofs.MemberLemmas.{Contains-first, Contains-later, Contains-cons, Contains-nil, Contains-one, All-Contains}
use Rattle.dl_hier.proofs.MemberLemmas.{Contains-map, Contains-map_of}
use Rattle.dl_row.specs.Lists.{InOrder}
use Rattle.dl_row.specs.Rows.{Epoch, covering}
use Rattle.dl_row.proofs.CountLemmas.{count_there}
use Rattle.dl_migrate.specs.Reclaiming.{is_epoch, covers_one}
use Rattle.dl_migrate.specs.Tallies.{carries}
use Rattle.dl_core.specs.History.{Load, Entry}
use Rattle.dl_core.specs.Root.{Root, epochs, rows_in, IsLive, IsInUse, StandsFor}
use Rattle.dl_core.specs.Next.{pinned_versions, is_dead_in, reclaimed}
use Rattle.dl_event.specs.declared.pin.Pin.{Pin}
use Rattle.dl_core.proofs.ChangedListLemmas.{last_where_is}
use Rattle.dl_core.proofs.CommitLemmas.{is_equal}
use Rattle.dl_core.proofs.MaintainLemmas.{covers_still, kept_by_pin, kept_by_row}
use Rattle.dl_edits.proofs.OrderedLemmas.{each-last}
use Rattle.dl_core.proofs.PinLemmas.{Contains-filter}

Contains-kept : (q : Epoch → Bool) (xs : List Epoch) (x : Epoch) → Contains xs x → q x ≡ true → Contains (filter q xs) x
Contains-kept q [] x c h = c
Contains-kept q (y ∷ xs) x c h = by (q y) refl (Contains-cons y x xs c) (Contains-kept q xs x)
  where
    by : (b : Bool) → q y ≡ b → (y ≡ x) ⊎ Contains xs x → (Contains xs x → q x ≡ true → Contains (filter q xs) x) → Contains (cond b (y ∷ filter q xs) (filter q xs)) x
    by true d (inl e) ih = subst (Contains (y ∷ filter q xs)) e (Contains-first y (filter q xs))
    by true d (inr later) ih = Contains-later y x (filter q xs) (ih later h)
    by false d (inl e) ih = absurd (true≢false (sym h ∙ ap q (sym e) ∙ d))
    by false d (inr later) ih = ih later h

-- epochs with one id are one
same_id : (es : List Epoch) (d e : Epoch) → InOrder (λ d e. d.id < e.id) es → Contains es d → Contains es e → d.id ≡ e.id → d ≡ e
same_id [] d e order c c' h = absurd (Contains-nil d c)
same_id (x ∷ es) d e order c c' h = by (Contains-cons x d es c) (Contains-cons x e es c') (same_id es d e order.1)
  where
    below : (y : Epoch) → Contains es y → x.id < y.id
    below y c = All-Contains (λ z. x.id < z.id) es y (All-from_recursion (λ z. x.id < z.id) es order.0) c

    by : (x ≡ d) ⊎ Contains es d → (x ≡ e) ⊎ Contains es e → (Contains es d → Contains es e → d.id ≡ e.id → d ≡ e) → d ≡ e
    by (inl a) (inl b) ih = sym a ∙ b
    by (inl a) (inr b) ih = let n = below e b in let m = ap (λ z. z.id) a in absurd (omega (arith, n, m, h))
    by (inr a) (inl b) ih = let n = below d a in let m = ap (λ z. z.id) b in absurd (omega (arith, n, m, h))
    by (inr a) (inr b) ih = ih a b h

-- an epoch that covers a pin by its id
some_pin : (es : List Epoch) (e : Epoch) (pins : List Pin) → covers_one es (map (λ q. q.version) pins) e ≡ true
    → (p : Pin) × Contains pins p × (d : Epoch) × (covering es p.version ≡ Some d) × (d.id ≡ e.id)
some_pin es e [] h = absurd (true≢false (sym h))
some_pin es e (q ∷ pins) h = by (covering es q.version) refl (some_pin es e pins) h
  where
    later : (p : Pin) × Contains pins p × (d : Epoch) × (covering es p.version ≡ Some d) × (d.id ≡ e.id)
        → (p : Pin) × Contains (q ∷ pins) p × (d : Epoch) × (covering es p.version ≡ Some d) × (d.id ≡ e.id)
    later r = (r.0, Contains-later q r.0 pins r.1, r.2, r.3, r.4)

    here : (d : Epoch) → covering es q.version ≡ Some d → (b : Bool) → (d.id == e.id) ≡ b → (covers_one es (map (λ q. q.version) pins) e ≡ true
        → (p : Pin) × Contains pins p × (d : Epoch) × (covering es p.version ≡ Some d) × (d.id ≡ e.id)) → (b || covers_one es (map (λ q. q.version) pins) e) ≡ true
        → (p : Pin) × Contains (q ∷ pins) p × (d : Epoch) × (covering es p.version ≡ Some d) × (d.id ≡ e.id)
    here d c true n ih h = (q, Contains-first q pins, d, c, is_equal d.id e.id n)
    here d c false n ih h = later (ih h)

    by : (o : Option Epoch) → covering es q.version ≡ o → (covers_one es (map (λ q. q.version) pins) e ≡ true
        → (p : Pin) × Contains pins p × (d : Epoch) × (covering es p.version ≡ Some d) × (d.id ≡ e.id)) → (is_epoch e.id o || covers_one es (map (λ q. q.version) pins) e) ≡ true
        → (p : Pin) × Contains (q ∷ pins) p × (d : Epoch) × (covering es p.version ≡ Some d) × (d.id ≡ e.id)
    by None c ih h = later (ih h)
    by (Some d) c ih h = here d c (d.id == e.id) refl ih h

pub remaining_in_use : (l : Load) (history : List Entry) (root : Root) → StandsFor l history root → (e : Epoch) → Contains (epochs (reclaimed root)) e
    → IsInUse (reclaimed root) e
remaining_in_use l history root s e c = by (Contains-append_cases (filter keep root.older) (root.current ∷ []) e c)
  where
    keep : Epoch → Bool
    keep d = not (is_dead_in root d)

    used : (n : ℕ) (b : Bool) → rows_in root e ≡ n → covers_one (epochs root) (pinned_versions root) e ≡ b → not ((n == 0) && not b) ≡ true → Contains root.older e → IsInUse (reclaimed root) e
    used n true r p h there =
        let q = some_pin (epochs root) e root.pins p in
        let same = same_id (epochs root) q.2 e s.epochs_are.ids (last_where_is (λ d. nat_le d.first q.0.version) (epochs root) q.2 q.3)
        (Contains-append_left root.older (root.current ∷ []) e there) q.4 in
        IsInUse.by_pin q.0 q.1 (covers_still root l history s q.0.version (IsLive.pinned q.0 q.1 refl) ∙ q.3 ∙ ap Some same)
    used n false r p h there =
        let row = count_there (carries e.id) root.rows (omega (arith, r, some n h)) in
        IsInUse.by_row row.0 row.1 (is_equal row.0.epoch e.id row.2)
      where
        some : (n : ℕ) → not ((n == 0) && true) ≡ true → 1 ≤ n
        some n h = grind (arith, nat_tests)

    passes : (xs : List Epoch) → Contains (filter keep xs) e → keep e ≡ true
    passes [] c = absurd (Contains-nil e c)
    passes (x ∷ xs) c = by (keep x) refl c (passes xs)
      where
        by : (b : Bool) → keep x ≡ b → Contains (cond b (x ∷ filter keep xs) (filter keep xs)) e → (Contains (filter keep xs) e → keep e ≡ true) → keep e ≡ true
        by true d c ih = cases (Contains-cons x e (filter keep xs) c)
          where
            cases : (x ≡ e) ⊎ Contains (filter keep xs) e → keep e ≡ true
            cases (inl same) = ap keep (sym same) ∙ d
            cases (inr later) = ih later
        by false d c ih = ih c

    by : Contains (filter keep root.older) e ⊎ Contains (root.current ∷ []) e → IsInUse (reclaimed root) e
    by (inl there) =
        used (rows_in root e) (covers_one (epochs root) (pinned_versions root) e) refl refl (passes root.older there) (Contains-filter keep root.older e there)
    by (inr here) = IsInUse.is_current (ap (λ z. z.id) (Contains-one root.current e here))

pub in_use_remains : (l : Load) (history : List Entry) (root : Root) → StandsFor l history root → (e : Epoch) → Contains (epochs root) e → IsInUse root e
    → Contains (epochs (reclaimed root)) e
in_use_remains l history root s e c used = by (Contains-append_cases root.older (root.current ∷ []) e c) used
  where
    keep : Epoch → Bool
    keep d = not (is_dead_in root d)

    itself : (a b : ℕ) → a ≡ b → (b == a) ≡ true
    itself a b h = grind (arith, nat_tests)

    there : Contains root.older e → keep e ≡ true → Contains (epochs (reclaimed root)) e
    there c h = Contains-append_left (filter keep root.older) (root.current ∷ []) e (Contains-kept keep root.older e c h)

    by : Contains root.older e ⊎ Contains (root.current ∷ []) e → IsInUse root e → Contains (epochs (reclaimed root)) e
    by (inr here) u = subst (Contains (epochs (reclaimed root))) (Contains-one root.current e here) (Contains-push (filter keep root.older) root.current)
    by (inl c') (IsInUse.is_current h) =
        subst (Contains (epochs (reclaimed root))) (same_id (epochs root) root.current e s.epochs_are.ids (Contains-push root.older root.current) c h)
        (Contains-push (filter keep root.older) root.current)
    by (inl c') (IsInUse.by_row r there' h) = there c' (kept_by_row root e r there' (itself r.epoch e.id h))
    by (inl c') (IsInUse.by_pin p there' h) = there c' (kept_by_pin root e p there' h)

-- ---- what a reclaim answers

older_less : (older : List Epoch) (current : Epoch) → InOrder (λ d e. d.id < e.id) (older ++ current ∷ []) → (e : Epoch) → Contains older e → e.id < current.id
older_less [] current order e c = absurd (Contains-nil e c)
older_less (x ∷ older) current order e c = by (Contains-cons x e older c) (older_less older current order.1 e)
  where
    by : (x ≡ e) ⊎ Contains older e → (Contains older e → e.id < current.id) → e.id < current.id
    by (inl same) ih =
        let lt = each-last (λ y. x.id < y.id) older current order.0 in
        let h = ap (λ (z : Epoch). z.id) same in
        omega (arith, lt, h)
    by (inr later) ih = ih later

module _ (l : Load) (history : List Entry) (root : Root) (s : StandsFor l history root) (e : Epoch) (c : Contains (epochs root) e) where
  pub answered_unused : Contains (map (λ (d : Epoch). d.id) (filter (is_dead_in root) root.older)) e.id → IsInUse root e → ⊥
  answered_unused m used =
      let d = Contains-map (λ (d : Epoch). d.id) (filter (is_dead_in root) root.older) e.id m in
      by d.0 (Contains-filter (is_dead_in root) root.older d.0 d.1)
      (All-Contains (λ x. is_dead_in root x ≡ true) (filter (is_dead_in root) root.older) d.0 (filter_passes (is_dead_in root) root.older) d.1) d.2 used
    where
      itself : (a b : ℕ) → a ≡ b → (b == a) ≡ true
      itself a b h = grind (arith, nat_tests)

      dead : (d : Epoch) → Contains root.older d → is_dead_in root d ≡ true → d.id ≡ e.id → is_dead_in root e ≡ true
      dead d there is same =
          ap (is_dead_in root) (sym (same_id (epochs root) d e s.epochs_are.ids (Contains-append_left root.older (root.current ∷ []) d there) c same)) ∙ is

      by : (d : Epoch) → Contains root.older d → is_dead_in root d ≡ true → d.id ≡ e.id → IsInUse root e → ⊥
      by d there is same (IsInUse.is_current h) = let lt = older_less root.older root.current s.epochs_are.ids d there in omega (arith, lt, same, h)
      by d there is same (IsInUse.by_row r there' h) =
          true≢false (sym (kept_by_row root e r there' (itself r.epoch e.id h)) ∙ ap not (dead d there is same))
      by d there is same (IsInUse.by_pin p there' h) = true≢false (sym (kept_by_pin root e p there' h) ∙ ap not (dead d there is same))

  pub unused_answered : (IsInUse root e → ⊥) → Contains (map (λ (d : Epoch). d.id) (filter (is_dead_in root) root.older)) e.id
  unused_answered unused = by (Contains-append_cases root.older (root.current ∷ []) e c)
    where
      back : IsInUse (reclaimed root) e → IsInUse root e
      back (IsInUse.is_current h) = IsInUse.is_current h
      back (IsInUse.by_row r there h) = IsInUse.by_row r there h
      back (IsInUse.by_pin p there h) = IsInUse.by_pin p there (sym (covers_still root l history s p.version (IsLive.pinned p there refl)) ∙ h)

      either : Contains root.older e → (b : Bool) → is_dead_in root e ≡ b → Contains (map (λ (d : Epoch). d.id) (filter (is_dead_in root) root.older)) e.id
      either there true h = Contains-map_of (λ (d : Epoch). d.id) (filter (is_dead_in root) root.older) e (Contains-kept (is_dead_in root) root.older e there h)
      either there false h =
          absurd (unused (back (remaining_in_use l history root s e
          (Contains-append_left (filter (λ d. not (is_dead_in root d)) root.older) (root.current ∷ []) e
          (Contains-kept (λ d. not (is_dead_in root d)) root.older e there (ap not h))))))

      by : Contains root.older e ⊎ Contains (root.current ∷ []) e → Contains (map (λ (d : Epoch). d.id) (filter (is_dead_in root) root.older)) e.id
      by (inl there) = either there (is_dead_in root e) refl
      by (inr here) = absurd (unused (IsInUse.is_current (ap (λ (z : Epoch). z.id) (Contains-one root.current e here))))
