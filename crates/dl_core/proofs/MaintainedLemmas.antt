-- The book and the shards of a root after maintenance.
use Rattle.std.proofs.Common.{◌≡◌, ℕ, zero, suc, ◌+◌, ◌-◌, ◌<◌, ◌≤◌, ◌⊎◌, inl, inr, min, Bool, true, false, not, ◌||◌, cond, ◌==◌, List, [], ◌∷◌, ◌++◌, map, filter, take, length, get_or, refl, sym, ap, ap₂, subst, ◌∙◌, arith}
use Rattle.std.specs.List.{All, AllByRecursion, AllPairs, Any, list_any}
use Rattle.std.proofs.lemmas.Bool.{cases_eq, eq-eqb, ne_eqb}
use Rattle.std.proofs.lemmas.List.{length-map, length_push, map-append, take_more, get_or-map, take-map, take-append-le, take_all, get_or_append_left}
use Rattle.std.proofs.lemmas.List.Elements.{All-head, All-tail, All-take, All-map, All-weaker, All-filter, filter-append}
use Rattle.dl_terms.specs.declared.axiom.Fact.{Fact}
use Rattle.dl_terms.specs.declared.axiom.Fact.TheVariants.{Is, Link}
use Rattle.dl_terms.specs.declared.axiom.Signature.{Signature}
use Rattle.dl_terms.proofs.OrderLemmas.{numbers_linear}
use Rattle.dl_row.specs.Lists.{InOrder}
use Rattle.dl_row.specs.Rows.{Epoch}
use Rattle.dl_row.specs.declared.row.Row.{Row}
use Rattle.dl_row.proofs.OrderedLemmas.{InOrder_at}
use Rattle.dl_epoch.specs.Frozen.{Frozen, IsFrozen, from_version}
use Rattle.dl_epoch.specs.Covering.{Kept, kept, epoch_in, AreEntries}
use Rattle.dl_epoch.specs.declared.entry.Entry.{Entry}
use Rattle.dl_migrate.specs.Moving.{IsKnownTo, CanMove}
use Rattle.dl_migrate.specs.Reclaiming.{is_dead, is_dead_entry, dead_ids, older}
use Rattle.dl_migrate.specs.Tallies.{carries}
use Rattle.dl_core.specs.Root.{Root, AreEpochs, IsRowAt, epochs, shard, stands_in}
use Rattle.dl_edits.specs.Signatures.{knows}
use Rattle.dl_core.specs.Next.{with_rows, least, pinned_versions, is_dead_in, reclaimed}
use Rattle.dl_core.specs.Held.{IsBookOf, IsHeld, IsSound, AreShardsOf, CountsRows}
use Rattle.dl_core.specs.Maintaining.{recounted, HasThose, IsRefill, AreShardsWith}
use Rattle.dl_core.specs.declared.book.Book.{Book}
use Rattle.dl_core.proofs.HeldLemmas.{shards_are}
use Rattle.dl_core.proofs.LookLemmas.{count_le}
use Rattle.dl_core.proofs.MaintainLemmas.{row_known, reclaimed_keep, reclaimed_epochs}
use Rattle.dl_edits.proofs.OrderedLemmas.{each-last}
use Rattle.dl_edits.proofs.SetLemmas.{there_has}
use Rattle.dl_core.proofs.ShardLemmas.{filter-map}

-- ---- entries in order

-- entries with the epochs of a root ascend
pub entries_rise : (older : List Epoch) (current : Epoch) (version : ℕ) → AreEpochs older current version → (entries : List Kept)
    → map epoch_in entries ≡ older ++ current ∷ [] → AreEntries entries
entries_rise older current version are entries same = record {
  ids = pairs (λ e. e.id) (λ k. k.epoch.id) (λ k. refl) are.ids;
  firsts = pairs (λ e. e.first) (λ k. k.first) (λ k. refl) are.firsts;
}
  where
    pairs : (f : Epoch → ℕ) (g : Kept → ℕ) → ((k : Kept) → f (epoch_in k) ≡ g k) → InOrder (λ d e. f d < f e) (older ++ current ∷ [])
        → AllPairs (λ d e. g d < g e) entries
    pairs f g told order i j d lt inside =
        let at = InOrder_at (λ d e. f d < f e) (map epoch_in entries) i j (epoch_in d)
        (subst (InOrder (λ d e. f d < f e)) (sym same) order) lt (let n = length-map entries epoch_in in omega (arith, n, inside)) in
        let a = ap f (get_or-map epoch_in entries i d (epoch_in d) (omega (arith, lt, inside))) ∙ told (get_or entries i d) in
        let b = ap f (get_or-map epoch_in entries j d (epoch_in d) inside) ∙ told (get_or entries j d) in
        omega (arith, at, a, b)

same_epochs : (f : Kept → Kept) → ((k : Kept) → epoch_in (f k) ≡ epoch_in k) → (ks : List Kept) → map epoch_in (map f ks) ≡ map epoch_in ks
same_epochs f same [] = refl
same_epochs f same (k ∷ ks) = ap₂ (λ e es. e ∷ es) (same k) (same_epochs f same ks)

-- ---- shards one after the other

pub with_none : (root : Root) (i : ℕ) (this : List Row) → AreShardsWith root i this 0 []
with_none root i this = record { as_many = refl; each = λ j h. absurd (omega (arith, h)) }

pub with_more : (root : Root) (i : ℕ) (this : List Row) (n : ℕ) (shards : List (List Row)) (s : List Row)
    → s ≡ cond (n == i) this (shard root n) → AreShardsWith root i this n shards → AreShardsWith root i this (n + 1) (shards ++ s ∷ [])
with_more root i this n shards s is so_far = record {
  as_many = let a = so_far.as_many in let b = length_push shards s in omega (arith, a, b);
  each = λ j h. by j (cases_eq j n) h;
}
  where
    at_end : (xs : List (List Row)) → get_or (xs ++ s ∷ []) (length xs) [] ≡ s
    at_end [] = refl
    at_end (x ∷ xs) = at_end xs

    by : (j : ℕ) → (j ≡ n) ⊎ (j ≡ n → ⊥) → j < n + 1 → get_or (shards ++ s ∷ []) j [] ≡ cond (j == i) this (shard root j)
    by j (inl e) h =
        ap (λ k. get_or (shards ++ s ∷ []) k []) (e ∙ sym so_far.as_many) ∙ at_end shards ∙ is
        ∙ ap (λ k. cond (k == i) this (shard root k)) (sym e)
    by j (inr other) h =
        let inside : j < n = omega (arith, other, h) in
        let many = so_far.as_many in
        get_or_append_left shards (s ∷ []) [] j (omega (arith, inside, many)) ∙ so_far.each j inside

-- ---- other rows in one shard

module _ (root : Root) (i : ℕ) (after this : List Row) (gone : List (ℕ × ℕ)) (come dropped : ℕ) (r : IsRefill root i after this gone come dropped) where
  -- each entry counts those that go
  pub has_those : (book : Book) → IsBookOf root book → IsSound root → All (HasThose gone) book.epochs
  has_those book tells sound = All-weaker (CountsRows root) (HasThose gone) (λ k is. one k is) book.epochs tells.counts
    where
      one : (k : Kept) → CountsRows root k → HasThose gone k
      one k is = record {
        most = let most = sound.stands.rows_are.kept in let part = count_le (carries k.epoch.id) root.rows in omega (arith, is, most, part);
        fewer = let less = r.fewer k.epoch.id in omega (arith, is, less);
      }

  pub dropped_fit : (book : Book) → IsBookOf root book → dropped ≤ book.rows
  dropped_fit book tells = let all = tells.rows in let kept = r.kept in omega (arith, all, kept)

  -- the entries that count again ascend
  pub recounted_rise : (old : Book) → IsBookOf root old → (id : ℕ) (entries : List Kept) → entries ≡ map (recounted gone id come) old.epochs → AreEntries entries
  recounted_rise old tells id entries are =
      entries_rise root.older root.current root.version r.sound.stands.epochs_are entries
      (ap (map epoch_in) are ∙ same_epochs (recounted gone id come) (λ k. refl) old.epochs ∙ tells.epochs)

  pub refilled_held : (old : Book) → IsBookOf root old → (book : Book) (shards : List (List Row)) (id : ℕ) → id ≡ root.current.id
      → book.version ≡ old.version → book.epochs ≡ map (recounted gone id come) old.epochs → book.pins ≡ old.pins → book.rows ≡ old.rows - dropped
      → AreShardsWith root i this root.shards shards → IsHeld (with_rows root after) book shards
  refilled_held old tells book shards id id_is version entries pins rows with = record {
    tells = record {
      version = version ∙ tells.version;
      epochs = ap (map epoch_in) entries ∙ same_epochs (recounted gone id come) (λ k. refl) old.epochs ∙ tells.epochs;
      pins = pins ∙ tells.pins;
      rows = let all = tells.rows in let kept = r.kept in omega (arith, rows, all, kept);
      counts = subst (All (CountsRows (with_rows root after))) (sym entries)
          (All-map (CountsRows (with_rows root after)) (recounted gone id come) old.epochs
          (All-weaker (CountsRows root) (λ k. CountsRows (with_rows root after) (recounted gone id come k)) (λ k is. one k is) old.epochs tells.counts));
      frozen = subst (All (λ k. IsFrozen k.epoch)) (sym entries) (All-map (λ k. IsFrozen k.epoch) (recounted gone id come) old.epochs tells.frozen);
    };
    shards_are = shards_are (with_rows root after) shards r.sound.stands.shards.1 r.sound.stands.rows_are.ascending with.as_many (λ j h. each j h (cases_eq j i));
    sound = r.sound;
  }
    where
      one : (k : Kept) → CountsRows root k → CountsRows (with_rows root after) (recounted gone id come k)
      one k is =
          let c = r.counts k.epoch.id in
          let less = r.fewer k.epoch.id in
          let same = ap {B = ℕ} (λ n. cond (k.epoch.id == n) come 0) id_is in
          omega (arith, is, c, less, same)

      each : (j : ℕ) → j < root.shards → (j ≡ i) ⊎ (j ≡ i → ⊥) → get_or shards j [] ≡ shard (with_rows root after) j
      each j h (inl e) =
          with.each j h ∙ ap (λ b. cond b this (shard root j)) (eq-eqb j i e)
          ∙ sym r.this_is ∙ ap (shard (with_rows root after)) (sym e)
      each j h (inr other) = with.each j h ∙ ap (λ b. cond b this (shard root j)) (ne_eqb j i other) ∙ sym (r.others j other)

-- ---- the current epoch, to which rows move

frozen_of : Epoch → Frozen
frozen_of e = record { id = e.id; axioms = e.axioms; signature = e.signature; classes = e.classes; roles = e.roles }

-- it is one of the entries
pub current_among : (root : Root) (book : Book) → IsBookOf root book → (k : Kept) → epoch_in k ≡ root.current → (to : Frozen) → to ≡ k.epoch
    → Any (λ e. e.epoch ≡ to) book.epochs
unfolding frozen_of
current_among root book tells k is to same = (
  place,
  get_or book.epochs place k,
  within,
  get_or_itself book.epochs place k within,
  ap frozen_of (sym (get_or-map epoch_in book.epochs place k (epoch_in k) within) ∙ ap (λ es. get_or es place (epoch_in k)) tells.epochs
      ∙ last_at root.older root.current (epoch_in k) ∙ sym is) ∙ sym same,
)
  where
    place : ℕ
    place = length root.older

    within : place < length book.epochs
    within =
        let a = length-map book.epochs epoch_in in
        let b = ap length tells.epochs in
        let c = length_push root.older root.current in
        omega (arith, a, b, c)

    last_at : {A : Type 0} (xs : List A) (x d : A) → get_or (xs ++ x ∷ []) (length xs) d ≡ x
    last_at [] x d = refl
    last_at (y ∷ xs) x d = last_at xs x d

    get_or_itself : {A : Type 0} (xs : List A) (k : ℕ) (d : A) → k < length xs → get_or xs k (get_or xs k d) ≡ get_or xs k d
    get_or_itself [] k d h = absurd (omega (arith, h))
    get_or_itself (x ∷ xs) zero d h = refl
    get_or_itself (x ∷ xs) (suc k) d h = get_or_itself xs k d (omega (arith, h))

-- and each row can move to it
pub all_move : (root : Root) (book : Book) (i : ℕ) (to : Frozen) (first : ℕ) → IsBookOf root book → IsSound root → from_version first to ≡ root.current
    → All (CanMove (map epoch_in book.epochs) to.signature) (shard root i)
all_move root book i to first tells sound is =
    subst (λ es. All (CanMove es to.signature) (shard root i)) (sym tells.epochs)
    (All-filter (stands_in root.shards i) (CanMove (epochs root) to.signature) root.rows
    (All-weaker (IsRowAt (epochs root) root.version) (CanMove (epochs root) to.signature) (λ r row. one r row) root.rows sound.stands.rows_are.each))
  where
    known : (s : Signature) (f : Fact) → knows s f ≡ true → IsKnownTo s f
    known s (Is c x) h = there_has numbers_linear s.classes c h
    known s (Link p x y) h = there_has numbers_linear s.roles p h

    one : (r : Row) → IsRowAt (epochs root) root.version r → CanMove (epochs root) to.signature r
    one r row = record {
      fact = row.fact;
      stands = row.stands;
      known = subst (λ e. IsKnownTo e.signature row.fact) (sym is)
          (known root.current.signature row.fact (row_known root.older root.current root.version r row.fact sound.stands.epochs_are row.stands));
    }

-- ---- the horizon

-- the least of a version and others, one after the other
pub least-step : (v w : ℕ) (versions : List ℕ) → min w (least v versions) ≡ least (min w v) versions
least-step v w [] = refl
least-step v w (x ∷ versions) = let ih = least-step v w versions in omega (arith, ih)

-- ---- the entries that stay after a reclaim

-- one entry more, which stays or doesn't
pub without_more : (q : Kept → Bool) (entries : List Entry) (i : ℕ) (e : Entry) (others : List Kept) → i < length entries → e ≡ get_or entries i e
    → others ≡ filter q (map kept (take i entries)) → (b : Bool) → q (kept e) ≡ b
    → others ++ cond b (kept e ∷ []) [] ≡ filter q (map kept (take (i + 1) entries))
without_more q entries i e others h is so_far b passes =
    sym (ap (λ es. filter q (map kept es)) (take_more entries i e h)
    ∙ ap (filter q) (map-append kept (take i entries) (get_or entries i e ∷ []))
    ∙ filter-append q (map kept (take i entries)) (kept (get_or entries i e) ∷ [])
    ∙ ap₂ (λ xs k. xs ++ cond (q k) (k ∷ []) []) (sym so_far) (ap kept (sym is))
    ∙ ap (λ t. others ++ cond t (kept e ∷ []) []) passes)

before_last : {A : Type 0} (n : ℕ) (xs ys : List A) → n ≡ length xs → take n (xs ++ ys) ≡ xs
before_last n xs ys e = take-append-le n xs ys (omega (arith, e)) ∙ take_all n xs (omega (arith, e))

-- an id among those that stand before ids that rise
none_other : (n : ℕ) (d : Epoch → Bool) (es : List Epoch) → AllByRecursion (λ e. (e.id == n) ≡ false) es
    → list_any (λ id. id == n) (map (λ e. e.id) (filter d es)) ≡ false
none_other n d [] all = refl
none_other n d (e ∷ es) all = by (d e) (none_other n d es all.1)
  where
    by : (b : Bool) → list_any (λ id. id == n) (map (λ e. e.id) (filter d es)) ≡ false
        → list_any (λ id. id == n) (map (λ e. e.id) (cond b (e ∷ filter d es) (filter d es))) ≡ false
    by true ih = ap (λ b. b || list_any (λ id. id == n) (map (λ e. e.id) (filter d es))) all.0 ∙ ih
    by false ih = ih

each-map : {A : Type 0} (P Q : A → Type 0) (xs : List A) → ((x : A) → P x → Q x) → AllByRecursion P xs → AllByRecursion Q xs
each-map P Q [] f all = tt
each-map P Q (x ∷ xs) f all = (f x all.0, each-map P Q xs f all.1)

each-front : {A : Type 0} (P : A → Type 0) (xs : List A) (y : A) → AllByRecursion P (xs ++ y ∷ []) → AllByRecursion P xs
each-front P [] y all = tt
each-front P (x ∷ xs) y all = (all.0, each-front P xs y all.1)

-- an epoch among some whose ids rise has its id among those that pass exactly where it passes
module _ (d : Epoch → Bool) where
  id_passes : (es : List Epoch) → InOrder (λ d e. d.id < e.id) es
      → AllByRecursion (λ e. list_any (λ id. id == e.id) (map (λ e. e.id) (filter d es)) ≡ d e) es
  id_passes [] order = tt
  id_passes (x ∷ es) order = (
    first (d x) refl,
    each-both (λ e. x.id < e.id) (λ e. list_any (λ id. id == e.id) (map (λ e. e.id) (filter d es)) ≡ d e)
        (λ e. list_any (λ id. id == e.id) (map (λ e. e.id) (filter d (x ∷ es))) ≡ d e) es (λ e lt is. later e lt is (d x)) order.0 (id_passes es order.1),
  )
    where
      each-both : (P Q R : Epoch → Type 0) (ys : List Epoch) → ((e : Epoch) → P e → Q e → R e) → AllByRecursion P ys → AllByRecursion Q ys → AllByRecursion R ys
      each-both P Q R [] f p q = tt
      each-both P Q R (y ∷ ys) f p q = (f y p.0 q.0, each-both P Q R ys f p.1 q.1)

      first : (b : Bool) → d x ≡ b
          → list_any (λ id. id == x.id) (map (λ e. e.id) (cond (d x) (x ∷ filter d es) (filter d es))) ≡ d x
      first true e =
          ap (λ b. list_any (λ id. id == x.id) (map (λ e. e.id) (cond b (x ∷ filter d es) (filter d es)))) e
          ∙ ap (λ b. b || list_any (λ id. id == x.id) (map (λ e. e.id) (filter d es))) (eq-eqb x.id x.id refl) ∙ sym e
      first false e =
          ap (λ b. list_any (λ id. id == x.id) (map (λ e. e.id) (cond b (x ∷ filter d es) (filter d es)))) e
          ∙ none_other x.id d es (each-map (λ e. x.id < e.id) (λ e. (e.id == x.id) ≡ false) es (λ e lt. ne_eqb e.id x.id (λ s. omega (arith, lt, s))) order.0)
          ∙ sym e

      later : (e : Epoch) → x.id < e.id → list_any (λ id. id == e.id) (map (λ e. e.id) (filter d es)) ≡ d e → (b : Bool)
          → list_any (λ id. id == e.id) (map (λ e. e.id) (cond b (x ∷ filter d es) (filter d es))) ≡ d e
      later e lt is true =
          ap (λ b. b || list_any (λ id. id == e.id) (map (λ e. e.id) (filter d es))) (ne_eqb x.id e.id (λ s. omega (arith, lt, s))) ∙ is
      later e lt is false = is

  filter-same : (p q : Epoch → Bool) (es : List Epoch) → AllByRecursion (λ e. p e ≡ q e) es → filter p es ≡ filter q es
  filter-same p q [] all = refl
  filter-same p q (e ∷ es) all = ap₂ (λ b ys. cond b (e ∷ ys) ys) all.0 (filter-same p q es all.1)

  -- without the ids of those that pass, the others are left, and the last one
  others_left : (es : List Epoch) (e : Epoch) → InOrder (λ d e. d.id < e.id) (es ++ e ∷ [])
      → filter (λ x. not (list_any (λ id. id == x.id) (map (λ e. e.id) (filter d es)))) (es ++ e ∷ []) ≡ filter (λ x. not (d x)) es ++ e ∷ []
  others_left es e order =
      filter-append other es (e ∷ [])
      ∙ ap₂ (λ xs ys. xs ++ ys)
      (filter-same other (λ x. not (d x)) es
      (each-map (λ x. list_any (λ id. id == x.id) ids ≡ d x) (λ x. other x ≡ not (d x)) es (λ x is. ap not is) (id_passes es (front es order))))
      (ap (λ b. cond (not b) (e ∷ []) []) (none_other e.id d es (below es order)))
    where
      ids : List ℕ
      ids = map (λ e. e.id) (filter d es)

      other : Epoch → Bool
      other x = not (list_any (λ id. id == x.id) (map (λ e. e.id) (filter d es)))

      front : (xs : List Epoch) → InOrder (λ d e. d.id < e.id) (xs ++ e ∷ []) → InOrder (λ d e. d.id < e.id) xs
      front [] order = tt
      front (x ∷ xs) order = (each-front (λ y. x.id < y.id) xs e order.0, front xs order.1)

      below : (xs : List Epoch) → InOrder (λ d e. d.id < e.id) (xs ++ e ∷ []) → AllByRecursion (λ x. (x.id == e.id) ≡ false) xs
      below [] order = tt
      below (x ∷ xs) order = (ne_eqb x.id e.id (λ s. (let lt = each-last (λ y. x.id < y.id) xs e order.0 in omega (arith, lt, s))), below xs order.1)

module _ (root : Root) (book : Book) (tells : IsBookOf root book) (sound : IsSound root) (pins : List ℕ) (pins_are : pins ≡ pinned_versions root) where
  older_are : map epoch_in (older book.epochs) ≡ root.older
  older_are =
      sym (take-map epoch_in (length book.epochs - 1) book.epochs) ∙ ap (take (length book.epochs - 1)) tells.epochs
      ∙ before_last (length book.epochs - 1) root.older (root.current ∷ [])
      (let a = length-map book.epochs epoch_in in
      let b = ap length tells.epochs in
      let c = length_push root.older root.current in
      omega (arith, a, b, c))

  -- an entry is dead where its epoch is
  told : (k : Kept) → CountsRows root k → is_dead_entry book.epochs pins k ≡ is_dead_in root (epoch_in k)
  told k is =
      ap (λ es. is_dead es pins k.rows (epoch_in k)) tells.epochs ∙ ap₂ (λ vs n. is_dead (epochs root) vs n (epoch_in k)) pins_are is

  dead_same : (ks : List Kept) → All (CountsRows root) ks
      → map (λ (k : Kept). k.epoch.id) (filter (is_dead_entry book.epochs pins) ks) ≡ map (λ (e : Epoch). e.id) (filter (is_dead_in root) (map epoch_in ks))
  dead_same [] all = refl
  dead_same (k ∷ ks) all =
      by (is_dead_entry book.epochs pins k) (dead_same ks (All-tail (CountsRows root) k ks all))
      ∙ ap (λ b. map (λ (e : Epoch). e.id)
      (cond b (epoch_in k ∷ filter (is_dead_in root) (map epoch_in ks)) (filter (is_dead_in root) (map epoch_in ks))))
      (told k (All-head (CountsRows root) k ks all))
    where
      by : (b : Bool)
          → map (λ (k : Kept). k.epoch.id) (filter (is_dead_entry book.epochs pins) ks) ≡ map (λ (e : Epoch). e.id) (filter (is_dead_in root) (map epoch_in ks))
          → map (λ (k : Kept). k.epoch.id) (cond b (k ∷ filter (is_dead_entry book.epochs pins) ks) (filter (is_dead_entry book.epochs pins) ks))
          ≡ map (λ (e : Epoch). e.id) (cond b (epoch_in k ∷ filter (is_dead_in root) (map epoch_in ks)) (filter (is_dead_in root) (map epoch_in ks)))
      by true ih = ap (λ ids. k.epoch.id ∷ ids) ih
      by false ih = ih

  module _ (ids : List ℕ) (ids_are : ids ≡ dead_ids book.epochs pins) where
    -- the ids of the dead entries are those of the dead epochs
    pub dead_are : ids ≡ map (λ (e : Epoch). e.id) (filter (is_dead_in root) root.older)
    dead_are =
        ids_are ∙ dead_same (older book.epochs) (All-take (CountsRows root) (length book.epochs - 1) book.epochs tells.counts)
        ∙ ap (λ es. map (λ (e : Epoch). e.id) (filter (is_dead_in root) es)) older_are

    module _ (entries : List Kept) (entries_are : entries ≡ filter (λ k. not (list_any (λ id. id == k.epoch.id) ids)) book.epochs) where
      left : map epoch_in entries ≡ epochs (reclaimed root)
      left =
          ap (map epoch_in) entries_are
          ∙ sym (filter-map (λ (e : Epoch). not (list_any (λ id. id == e.id) ids)) (λ (k : Kept). not (list_any (λ id. id == k.epoch.id) ids)) epoch_in (λ k. refl) book.epochs)
          ∙ ap₂ (λ is es. filter (λ (e : Epoch). not (list_any (λ id. id == e.id) is)) es) dead_are tells.epochs
          ∙ others_left (is_dead_in root) root.older root.current sound.stands.epochs_are.ids

      pub reclaimed_rise : AreEntries entries
      reclaimed_rise = entries_rise (reclaimed root).older root.current root.version (reclaimed_epochs root sound.stands.epochs_are) entries left

      pub reclaimed_held : (after : Book) (shards : List (List Row)) → after.version ≡ book.version → after.epochs ≡ entries → after.pins ≡ book.pins
          → after.rows ≡ book.rows → AreShardsOf root shards → IsHeld (reclaimed root) after shards
      reclaimed_held after shards version epochs_are pins rows are = record {
        tells = record {
          version = version ∙ tells.version;
          epochs = ap (map epoch_in) epochs_are ∙ left;
          pins = pins ∙ tells.pins;
          rows = rows ∙ tells.rows;
          counts = subst (All (CountsRows (reclaimed root))) (sym (epochs_are ∙ entries_are))
              (All-filter (λ k. not (list_any (λ id. id == k.epoch.id) ids)) (CountsRows (reclaimed root)) book.epochs tells.counts);
          frozen = subst (All (λ k. IsFrozen k.epoch)) (sym (epochs_are ∙ entries_are))
              (All-filter (λ k. not (list_any (λ id. id == k.epoch.id) ids)) (λ k. IsFrozen k.epoch) book.epochs tells.frozen);
        };
        shards_are = record { count = are.count; rows = are.rows; placed = are.placed; ascending = are.ascending };
        sound = record {
          load = sound.load;
          history = sound.history;
          stands = reclaimed_keep sound.load sound.history root sound.stands;
        };
      }
