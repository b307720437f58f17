-- The epochs that nothing needs: an entry covers what is between its first version and that of the next one.
use Rattle.std.proofs.Common.{◌≡◌, ℕ, zero, suc, ◌+◌, ◌-◌, ◌<◌, ◌≤◌, ◌⊎◌, Bool, true, false, not, ◌&&◌, ◌||◌, cond, ◌==◌, nat_le, nat_lt, List, [], ◌∷◌, ◌++◌, map, filter, take, drop, length, get_or, Some, None, refl, sym, ap, ap₂, subst, ◌∙◌, inl, inr, arith, append_assoc, append-nil}
use Rattle.std.specs.List.{AllPairs, list_any}
use Rattle.std.specs.List.Sorted.{IsStrictlyIncreasing}
use Rattle.std.proofs.lemmas.Bool.{cases_order, cases_lt, le-leb, lt-leb, lt-ltb, le-ltb, ne_eqb, eq-eqb, and_left, and_right, and_from}
use Rattle.std.proofs.lemmas.List.{get_or_default, get_or-map, get_or-take, length-map, length-take, drop_more, drop_all}
use Rattle.std.proofs.lemmas.List.Kept.{AllPairs-filter}
use Rattle.dl_row.specs.Lists.{first_some}
use Rattle.dl_row.specs.Rows.{covering}
use Rattle.dl_epoch.specs.Covering.{Kept, kept, epoch_in, AreEntries, CoversAt}
use Rattle.dl_epoch.specs.declared.entry.Entry.{Entry}
use Rattle.dl_epoch.proofs.CoveringLemmas.{covered}
use Rattle.dl_migrate.specs.Reclaiming.{is_epoch, is_dead_entry, older, dead_ids, is_dead_before}

-- ---- which entry covers a version

module _ (es : List Kept) (v : ℕ) (d : Kept) where
  search : (m : ℕ) → m ≤ length es → ((k : ℕ) → m ≤ k → k < length es → v < (get_or es k d).first)
      → ((k : ℕ) × CoversAt es v k) ⊎ ((k : ℕ) → k < length es → v < (get_or es k d).first)
  search zero h later = inr (λ k lt. later k (omega arith) lt)
  search (suc m) h later = by (cases_lt v (get_or es m d).first) (search m (omega (arith, h)))
    where
      at : (k : ℕ) (e : Kept) → k < length es → get_or es k e ≡ get_or es k d
      at k e lt = get_or_default es k e d lt

      by : (v < (get_or es m d).first) ⊎ ((get_or es m d).first ≤ v)
          → (((k : ℕ) → m ≤ k → k < length es → v < (get_or es k d).first)
          → ((k : ℕ) × CoversAt es v k) ⊎ ((k : ℕ) → k < length es → v < (get_or es k d).first))
          → ((k : ℕ) × CoversAt es v k) ⊎ ((k : ℕ) → k < length es → v < (get_or es k d).first)
      by (inl above) ih = ih (λ k le lt. from k (cases_order m k) le lt)
        where
          from : (k : ℕ) → (m ≡ k) ⊎ ((m < k) ⊎ (k < m)) → m ≤ k → k < length es → v < (get_or es k d).first
          from k (inl e) le lt = subst (λ j. v < (get_or es j d).first) e above
          from k (inr (inl more)) le lt = later k (omega (arith, more)) lt
          from k (inr (inr less)) le lt = absurd (omega (arith, less, le))
      by (inr begins) ih = inl (
        m,
        record {
          inside = omega (arith, h);
          begins = λ e. subst (λ (x : Kept). x.first ≤ v) (sym (at m e (omega (arith, h)))) begins;
          last = λ k e gt lt. subst (λ (x : Kept). v < x.first) (sym (at k e lt)) (later k (omega (arith, gt)) lt);
        },
      )

-- no entry covers a version that is before all of them
none_covers : (es : List Kept) (v : ℕ) (d : Kept) → ((k : ℕ) → k < length es → v < (get_or es k d).first) → covering (map epoch_in es) v ≡ None
none_covers [] v d later = refl
none_covers (e ∷ es) v d later =
    ap₂ (λ o b. first_some o (cond b (Some (epoch_in e)) None)) (none_covers es v d (λ k h. later (suc k) (omega (arith, h))))
    (lt-leb e.first v (later 0 (omega arith)))

module _ (es : List Kept) (are : AreEntries es) (i : ℕ) (d : Kept) (inside : i + 1 < length es) (v : ℕ) where
  -- an entry before the next one covers what is from its first version on and before the next one's
  pub covers_between : is_epoch (get_or es i d).epoch.id (covering (map epoch_in es) v)
      ≡ (nat_le (get_or es i d).first v && nat_lt v (get_or es (i + 1) d).first)
  covers_between = by (search es v d (length es) (omega arith) (λ k le lt. absurd (omega (arith, le, lt))))
    where
      at : (k : ℕ) → CoversAt es v k → (b : Bool) → ((get_or es k d).epoch.id == (get_or es i d).epoch.id) ≡ b
          → is_epoch (get_or es i d).epoch.id (covering (map epoch_in es) v) ≡ b
      at k c b e = ap (is_epoch (get_or es i d).epoch.id) (covered es v k d c) ∙ e

      cases : (k : ℕ) → CoversAt es v k → (k ≡ i) ⊎ ((k < i) ⊎ (i < k))
          → is_epoch (get_or es i d).epoch.id (covering (map epoch_in es) v) ≡ (nat_le (get_or es i d).first v && nat_lt v (get_or es (i + 1) d).first)
      cases k c (inl e) =
          at k c true (eq-eqb (get_or es k d).epoch.id (get_or es i d).epoch.id (ap (λ j. (get_or es j d).epoch.id) e))
          ∙ sym (and_from (nat_le (get_or es i d).first v) (nat_lt v (get_or es (i + 1) d).first)
          (le-leb (get_or es i d).first v (subst (λ j. (get_or es j d).first ≤ v) e (c.begins d)))
          (lt-ltb v (get_or es (i + 1) d).first (c.last (i + 1) d (omega (arith, e)) inside)))
      cases k c (inr (inl lt)) =
          at k c false (ne_eqb (get_or es k d).epoch.id (get_or es i d).epoch.id
          (λ e. (let up = are.ids k i d lt (omega (arith, inside)) in omega (arith, up, e))))
          ∙ sym (and_left (nat_le (get_or es i d).first v) (nat_lt v (get_or es (i + 1) d).first)
          (lt-leb (get_or es i d).first v (c.last i d lt (omega (arith, inside)))))
      cases k c (inr (inr gt)) =
          at k c false (ne_eqb (get_or es k d).epoch.id (get_or es i d).epoch.id
          (λ e. (let up = are.ids i k d gt c.inside in omega (arith, up, e))))
          ∙ sym (and_right (nat_le (get_or es i d).first v) (nat_lt v (get_or es (i + 1) d).first)
          (le-ltb v (get_or es (i + 1) d).first (begun (cases_order (i + 1) k))))
        where
          begun : (i + 1 ≡ k) ⊎ ((i + 1 < k) ⊎ (k < i + 1)) → (get_or es (i + 1) d).first ≤ v
          begun (inl e) = subst (λ j. (get_or es j d).first ≤ v) (sym e) (c.begins d)
          begun (inr (inl lt)) = let up = are.firsts (i + 1) k d lt c.inside in let b = c.begins d in omega (arith, up, b)
          begun (inr (inr less)) = absurd (omega (arith, less, gt))

      by : ((k : ℕ) × CoversAt es v k) ⊎ ((k : ℕ) → k < length es → v < (get_or es k d).first)
          → is_epoch (get_or es i d).epoch.id (covering (map epoch_in es) v) ≡ (nat_le (get_or es i d).first v && nat_lt v (get_or es (i + 1) d).first)
      by (inl found) = cases found.0 found.1 (cases_order found.0 i)
      by (inr none) =
          ap (is_epoch (get_or es i d).epoch.id) (none_covers es v d none)
          ∙ sym (and_left (nat_le (get_or es i d).first v) (nat_lt v (get_or es (i + 1) d).first)
          (lt-leb (get_or es i d).first v (none i (omega (arith, inside)))))

any_same : {A : Type 0} (p q : A → Bool) (xs : List A) → ((x : A) → p x ≡ q x) → list_any p xs ≡ list_any q xs
any_same p q [] e = refl
any_same p q (x ∷ xs) e = ap₂ (λ a b. a || b) (e x) (any_same p q xs e)

-- ---- the loop over entries

-- what the entries before a place give, and those from it on
pub record Reclaims (es : List Kept) (pins : List ℕ) (i : ℕ) (ids : List ℕ) : Type 0 where
  pub are : dead_ids es pins ≡ ids ++ map (λ (e : Kept). e.epoch.id) (filter (is_dead_entry es pins) (drop i (older es)))

pub Reclaims-none : (es : List Kept) (pins : List ℕ) → Reclaims es pins 0 []
Reclaims-none es pins = record { are = refl }

pub Reclaims-all : (es : List Kept) (pins : List ℕ) (i : ℕ) (ids : List ℕ) → length es - 1 ≤ i → Reclaims es pins i ids → ids ≡ dead_ids es pins
Reclaims-all es pins i ids h r =
    sym (r.are ∙ ap (λ ys. ids ++ map (λ (e : Kept). e.epoch.id) (filter (is_dead_entry es pins) ys))
    (drop_all i (older es) (let l = length-take (length es - 1) es in omega (arith, l, h))) ∙ append-nil ids)

module _ (entries : List Entry) (pins : List ℕ) (i : ℕ) (x y : Entry) (are : AreEntries (map kept entries)) (inside : i < length entries - 1)
    (read : x ≡ get_or entries i x) (after : y ≡ get_or entries (i + 1) y) where
  long : length (map kept entries) ≡ length entries
  long = length-map entries kept

  x_is : get_or (map kept entries) i (kept x) ≡ kept x
  x_is = get_or-map kept entries i x (kept x) (omega (arith, inside)) ∙ ap kept (sym read)

  y_is : get_or (map kept entries) (i + 1) (kept x) ≡ kept y
  y_is = get_or-map kept entries (i + 1) y (kept x) (omega (arith, inside)) ∙ ap kept (sym after)

  -- the entry is dead where it has no rows, and no pin is between
  dead_here : is_dead_entry (map kept entries) pins (kept x) ≡ is_dead_before x.rows x.first y.first pins
  dead_here =
      ap (λ b. (x.rows == 0) && not b)
      (any_same (λ v. is_epoch (kept x).epoch.id (covering (map epoch_in (map kept entries)) v)) (λ v. nat_le x.first v && nat_lt v y.first) pins (λ v. between v))
    where
      between : (v : ℕ) → is_epoch (kept x).epoch.id (covering (map epoch_in (map kept entries)) v) ≡ (nat_le x.first v && nat_lt v y.first)
      between v =
          ap (λ (e : Kept). is_epoch e.epoch.id (covering (map epoch_in (map kept entries)) v)) (sym x_is)
          ∙ covers_between (map kept entries) are i (kept x) (omega (arith, inside, long)) v
          ∙ ap₂ (λ (d e : Kept). nat_le d.first v && nat_lt v e.first) x_is y_is

  from_here : drop i (older (map kept entries)) ≡ kept x ∷ drop (i + 1) (older (map kept entries))
  from_here =
      drop_more (older (map kept entries)) i (kept x)
      (let l = length-take (length (map kept entries) - 1) (map kept entries) in omega (arith, l, inside, long))
      ∙ ap (λ z. z ∷ drop (i + 1) (older (map kept entries)))
      (get_or-take (length (map kept entries) - 1) (map kept entries) i (kept x) (omega (arith, inside, long)) ∙ x_is)

  step : (b : Bool) → is_dead_entry (map kept entries) pins (kept x) ≡ b
      → map (λ (e : Kept). e.epoch.id) (filter (is_dead_entry (map kept entries) pins) (drop i (older (map kept entries))))
      ≡ cond b ((kept x).epoch.id ∷ map (λ (e : Kept). e.epoch.id) (filter (is_dead_entry (map kept entries) pins) (drop (i + 1) (older (map kept entries)))))
      (map (λ (e : Kept). e.epoch.id) (filter (is_dead_entry (map kept entries) pins) (drop (i + 1) (older (map kept entries)))))
  step b e =
      ap (λ ys. map (λ (e : Kept). e.epoch.id) (filter (is_dead_entry (map kept entries) pins) ys)) from_here
      ∙ by (is_dead_entry (map kept entries) pins (kept x)) b e
    where
      by : (a b : Bool) → a ≡ b
          → map (λ (e : Kept). e.epoch.id) (cond a (kept x ∷ filter (is_dead_entry (map kept entries) pins) (drop (i + 1) (older (map kept entries))))
          (filter (is_dead_entry (map kept entries) pins) (drop (i + 1) (older (map kept entries)))))
          ≡ cond b ((kept x).epoch.id ∷ map (λ (e : Kept). e.epoch.id) (filter (is_dead_entry (map kept entries) pins) (drop (i + 1) (older (map kept entries)))))
          (map (λ (e : Kept). e.epoch.id) (filter (is_dead_entry (map kept entries) pins) (drop (i + 1) (older (map kept entries)))))
      by true b e =
          ap (λ c. cond c ((kept x).epoch.id ∷ map (λ (e : Kept). e.epoch.id) (filter (is_dead_entry (map kept entries) pins) (drop (i + 1) (older (map kept entries)))))
          (map (λ (e : Kept). e.epoch.id) (filter (is_dead_entry (map kept entries) pins) (drop (i + 1) (older (map kept entries)))))) e
      by false b e =
          ap (λ c. cond c ((kept x).epoch.id ∷ map (λ (e : Kept). e.epoch.id) (filter (is_dead_entry (map kept entries) pins) (drop (i + 1) (older (map kept entries)))))
          (map (λ (e : Kept). e.epoch.id) (filter (is_dead_entry (map kept entries) pins) (drop (i + 1) (older (map kept entries)))))) e

  pub Reclaims-skip : (ids : List ℕ) → is_dead_before x.rows x.first y.first pins ≡ false
      → Reclaims (map kept entries) pins i ids → Reclaims (map kept entries) pins (i + 1) ids
  Reclaims-skip ids e r = record { are = r.are ∙ ap (λ ys. ids ++ ys) (step false (dead_here ∙ e)) }

  pub Reclaims-more : (ids ids' : List ℕ) → is_dead_before x.rows x.first y.first pins ≡ true
      → ids' ≡ ids ++ (kept x).epoch.id ∷ [] → Reclaims (map kept entries) pins i ids → Reclaims (map kept entries) pins (i + 1) ids'
  Reclaims-more ids ids' e pushed r =
      let rest = map (λ (e : Kept). e.epoch.id) (filter (is_dead_entry (map kept entries) pins) (drop (i + 1) (older (map kept entries)))) in record {
        are = r.are ∙ ap (λ ys. ids ++ ys) (step true (dead_here ∙ e))
            ∙ sym (append_assoc ids ((kept x).epoch.id ∷ []) rest) ∙ ap (λ ys. ys ++ rest) (sym pushed);
      }

-- ---- ids ascend

AllPairs-take : {A : Type 0} (R : A → A → Type 0) (n : ℕ) (xs : List A) → AllPairs R xs → AllPairs R (take n xs)
AllPairs-take R n xs all i j d lt h =
    let l = length-take n xs in
    let a = get_or-take n xs i d (omega (arith, lt, h, l)) in
    let b = get_or-take n xs j d (omega (arith, h, l)) in
    subst (λ x. R x (get_or (take n xs) j d)) (sym a) (subst (R (get_or xs i d)) (sym b) (all i j d lt (omega (arith, h, l))))

rising : (f : Kept → ℕ) (es : List Kept) → AllPairs (λ d e. f d < f e) es → IsStrictlyIncreasing (map f es)
rising f [] all k h = absurd (omega (arith, h))
rising f (e ∷ es) all k h =
    let l = length-map (e ∷ es) f in
    let a = get_or-map f (e ∷ es) k e 0 (omega (arith, h, l)) in
    let b = get_or-map f (e ∷ es) (k + 1) e 0 (omega (arith, h, l)) in
    let up = all k (k + 1) e (omega arith) (omega (arith, h, l)) in
    omega (arith, a, b, up)

pub dead_rise : (es : List Kept) (pins : List ℕ) → AreEntries es → IsStrictlyIncreasing (dead_ids es pins)
dead_rise es pins are =
    rising (λ e. e.epoch.id) (filter (is_dead_entry es pins) (older es))
    (AllPairs-filter (λ d e. d.epoch.id < e.epoch.id) (is_dead_entry es pins) (older es) (AllPairs-take (λ d e. d.epoch.id < e.epoch.id) (length es - 1) es are.ids))
