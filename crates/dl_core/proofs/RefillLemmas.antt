-- Rows of one shard that move or are dropped: what becomes of the shards, and what carries each epoch then.
use Rattle.std.proofs.Common.{◌≡◌, ◌≢◌, ℕ, zero, suc, ◌+◌, ◌-◌, ◌%◌, ◌≤◌, ◌<◌, Bool, true, false, ◌&&◌, cond, ◌==◌, min, List, [], ◌∷◌, map, filter, take, length, Option, Some, None, refl, sym, ap, ap₂, subst, ◌∙◌, true≢false, arith}
use Rattle.std.specs.List.{All}
use Rattle.std.proofs.lemmas.Bool.{eqb-true, eq-eqb, not-true, lt-ltb, le-ltb}
use Rattle.std.proofs.lemmas.List.{length-map}
use Rattle.std.proofs.lemmas.List.Elements.{All-take, All-filter, All-map, All-weaker, filter_passes}
use Rattle.dl_terms.specs.declared.axiom.Fact.{Fact}
use Rattle.dl_terms.specs.declared.axiom.Fact.TheVariants.{Is, Link}
use Rattle.dl_row.specs.Lists.{count, ordered}
use Rattle.dl_row.specs.Rows.{Epoch, fact_of, row_cmp}
use Rattle.dl_row.specs.declared.row.Row.{Row}
use Rattle.dl_row.proofs.CountLemmas.{count-ordered}
use Rattle.dl_row.proofs.OrderedLemmas.{ordered-same, length-ordered}
use Rattle.dl_row.proofs.RowLemmas.{rows_linear}
use Rattle.dl_epoch.specs.Frozen.{Frozen, from_version}
use Rattle.dl_migrate.specs.Lists.{change_first, drop_first, first_that}
use Rattle.dl_migrate.specs.Moving.{is_behind, numbered_in, renumbered, migrated_rows}
use Rattle.dl_migrate.specs.Sweeping.{is_over}
use Rattle.dl_migrate.specs.Tallies.{carries, listed, IsTally}
use Rattle.dl_migrate.proofs.ListLemmas.{count_parts, count_changed, count-fixed, length_parts, length-first_that}
use Rattle.dl_migrate.proofs.MoveLemmas.{epoch_is}
use Rattle.dl_core.specs.Root.{Root, IsRowAt, epochs, shard, stands_in, rows_in}
use Rattle.dl_core.specs.Next.{with_rows, is_behind_in, migrated, behind, horizon, is_over_in, swept, in_shards}
use Rattle.dl_core.specs.Held.{IsSound}
use Rattle.dl_core.specs.Maintaining.{IsRefill}
use Rattle.dl_event.specs.declared.reply.Reply.{Reply}
use Rattle.dl_event.specs.declared.reply.Reply.TheVariants as reply
use Rattle.dl_event.specs.declared.reply.Refusal.TheVariants.{NoShard}
use Rattle.dl_core.proofs.ChangedListLemmas.{filter-drop_within, filter-change_first, filter-drop_other, length-change_first, length-filter_le}
use Rattle.dl_core.proofs.LookLemmas.{count_le, count-others}
use Rattle.dl_core.proofs.MaintainLemmas.{migrated_keep, swept_keep}
use Rattle.dl_core.proofs.ShardLemmas.{filter-ordered}

-- ---- lists

module _ {A : Type 0} (p q : A → Bool) where
  -- what passes both tests passes the second one among what passes the first
  filter-both : (xs : List A) → filter (λ x. p x && q x) xs ≡ filter q (filter p xs)
  filter-both [] = refl
  filter-both (x ∷ xs) = by (p x) (filter-both xs)
    where
      by : (b : Bool) → filter (λ x. p x && q x) xs ≡ filter q (filter p xs)
          → cond (b && q x) (x ∷ filter (λ x. p x && q x) xs) (filter (λ x. p x && q x) xs) ≡ filter q (cond b (x ∷ filter p xs) (filter p xs))
      by true ih = ap (λ ys. cond (q x) (x ∷ ys) ys) ih
      by false ih = ih

  pub count-both : (xs : List A) → count (λ x. p x && q x) xs ≡ count q (filter p xs)
  count-both [] = refl
  count-both (x ∷ xs) = by (p x) (count-both xs)
    where
      by : (b : Bool) → count (λ x. p x && q x) xs ≡ count q (filter p xs)
          → cond (b && q x) 1 0 + count (λ x. p x && q x) xs ≡ count q (cond b (x ∷ filter p xs) (filter p xs))
      by true ih = ap (λ n. cond (q x) 1 0 + n) ih
      by false ih = omega (arith, ih)

-- another part isn't touched by changes
filter-change_other : {A : Type 0} (p q : A → Bool) (f : A → A) → ((x : A) → q x ≡ true → p x ≡ false) → ((x : A) → p (f x) ≡ p x)
    → (n : ℕ) (xs : List A) → filter p (change_first n q f xs) ≡ filter p xs
filter-change_other p q f apart same n [] = refl
filter-change_other p q f apart same zero (x ∷ xs) = refl
filter-change_other {A} p q f apart same (suc n) (x ∷ xs) =
    by (q x) refl (filter-change_other p q f apart same n xs) (filter-change_other p q f apart same (suc n) xs)
  where
    by : (b : Bool) → q x ≡ b → filter p (change_first n q f xs) ≡ filter p xs → filter p (change_first (suc n) q f xs) ≡ filter p xs
        → filter p (cond b (f x ∷ change_first n q f xs) (x ∷ change_first (suc n) q f xs)) ≡ cond (p x) (x ∷ filter p xs) (filter p xs)
    by true e less more =
        ap (λ b. cond b (f x ∷ filter p (change_first n q f xs)) (filter p (change_first n q f xs))) (same x ∙ apart x e) ∙ less
        ∙ sym (ap (λ b. cond b (x ∷ filter p xs) (filter p xs)) (apart x e))
    by false e less more = ap (λ ys. cond (p x) (x ∷ ys) ys) more

turned : (a b : ℕ) → (a == b) ≡ (b == a)
turned a b = by (a == b) (b == a) refl refl
  where
    by : (c d : Bool) → (a == b) ≡ c → (b == a) ≡ d → c ≡ d
    by true true e f = refl
    by true false e f = absurd (true≢false (sym (eq-eqb b a (sym (eqb-true a b e))) ∙ f))
    by false true e f = absurd (true≢false (sym (eq-eqb a b (sym (eqb-true b a f))) ∙ e))
    by false false e f = refl

-- a row stands in one shard
one_shard : (root : Root) (i j : ℕ) (p : Row → Bool) → j ≢ i → (r : Row) → (stands_in root.shards i r && p r) ≡ true → stands_in root.shards j r ≡ false
one_shard root i j p other r h = by (stands_in root.shards i r) (stands_in root.shards j r) refl refl h
  where
    by : (a b : Bool) → (r.s % root.shards == i) ≡ a → (r.s % root.shards == j) ≡ b → (a && p r) ≡ true → b ≡ false
    by true true e f h = absurd (other (sym (eqb-true (r.s % root.shards) j f) ∙ eqb-true (r.s % root.shards) i e))
    by true false e f h = refl
    by false d e f h = absurd (true≢false (sym h))

-- ---- the shards

module _ (root : Root) (i n : ℕ) where
  stays : (j : ℕ) (r : Row) → stands_in root.shards j (renumbered (epochs root) root.current r) ≡ stands_in root.shards j r
  stays j r = by (fact_of (epochs root) r)
    where
      by : (o : Option Fact) → stands_in root.shards j (numbered_in root.current r o) ≡ stands_in root.shards j r
      by None = refl
      by (Some (Is c x)) = refl
      by (Some (Link p x y)) = refl

  -- a migration renumbers the first rows of its shard that carry another epoch, and leaves the other shards
  pub shard-migrated : shard (migrated root i n) i ≡ migrated_rows n (epochs root) root.current (shard root i)
  shard-migrated =
      filter-ordered rows_linear (stands_in root.shards i) (change_first n (is_behind_in root i) (renumbered (epochs root) root.current) root.rows)
      ∙ ap (ordered row_cmp) (filter-change_first (stands_in root.shards i) (is_behind root.current.id) (renumbered (epochs root) root.current) (stays i) n root.rows)

  pub migrated_others : IsSound root → (j : ℕ) → j ≢ i → shard (migrated root i n) j ≡ shard root j
  migrated_others sound j other =
      filter-ordered rows_linear (stands_in root.shards j) (change_first n (is_behind_in root i) (renumbered (epochs root) root.current) root.rows)
      ∙ ap (ordered row_cmp) (filter-change_other (stands_in root.shards j) (is_behind_in root i) (renumbered (epochs root) root.current)
      (one_shard root i j (is_behind root.current.id) other) (stays j) n root.rows)
      ∙ sym (filter-ordered rows_linear (stands_in root.shards j) root.rows)
      ∙ ap (filter (stands_in root.shards j)) (ordered-same rows_linear root.rows sound.stands.rows_are.ascending)

  -- a sweep drops the first rows of its shard that are over, and leaves the other shards
  pub shard-swept : shard (swept root i n) i ≡ drop_first n (is_over (horizon root)) (shard root i)
  shard-swept = filter-drop_within (stands_in root.shards i) (is_over (horizon root)) n root.rows

  pub swept_others : (j : ℕ) → j ≢ i → shard (swept root i n) j ≡ shard root j
  swept_others j other = filter-drop_other (stands_in root.shards j) (is_over_in root i) (one_shard root i j (is_over (horizon root)) other) n root.rows

-- ---- what goes, by epoch

module _ (root : Root) (i n : ℕ) (p : Row → Bool) (tally : List (ℕ × ℕ)) (told : IsTally (first_that n p (shard root i)) tally) where
  told_whole : (id : ℕ) → listed id tally ≡ count (carries id) (first_that n (λ r. stands_in root.shards i r && p r) root.rows)
  told_whole id = told.counts id ∙ ap (λ rows. count (carries id) (take n rows)) (sym (filter-both (stands_in root.shards i) p root.rows))

  gone_parts : (id : ℕ) → count (carries id) (drop_first n (λ r. stands_in root.shards i r && p r) root.rows) + listed id tally ≡ count (carries id) root.rows
  gone_parts id =
      let t = told_whole id in
      let w = count_parts (λ r. stands_in root.shards i r && p r) (carries id) n root.rows in
      omega (arith, t, w)

  gone_fewer : (id : ℕ) → listed id tally ≤ count (carries id) root.rows
  gone_fewer id = let w = gone_parts id in omega (arith, w)

  length_gone : length (first_that n p (shard root i)) ≡ length (first_that n (λ r. stands_in root.shards i r && p r) root.rows)
  length_gone = ap (λ rows. length (take n rows)) (sym (filter-both (stands_in root.shards i) p root.rows))

-- ---- the root after a sweep

pub sweep_refill : (root : Root) (i n h dropped : ℕ) (rows : List Row) (tally : List (ℕ × ℕ)) → IsSound root → h ≡ horizon root
    → rows ≡ drop_first n (is_over h) (shard root i) → dropped ≡ min n (count (is_over h) (shard root i))
    → IsTally (first_that n (is_over h) (shard root i)) tally → IsRefill root i (swept root i n).rows rows tally 0 dropped
sweep_refill root i n h dropped rows tally sound at is many told = record {
  this_is = shard-swept root i n ∙ sym (is ∙ ap (λ k. drop_first n (is_over k) (shard root i)) at);
  others = swept_others root i n;
  kept =
      let whole = length_parts (is_over_in root i) n root.rows in
      let same = length_gone root i n (is_over (horizon root)) tally told' in
      let long = length-first_that (is_over (horizon root)) n (shard root i) in
      let as_many = many ∙ ap (λ k. min n (count (is_over k) (shard root i))) at in
      omega (arith, whole, same, long, as_many);
  fewer = gone_fewer root i n (is_over (horizon root)) tally told';
  counts = λ id.
      let parts = gone_parts root i n (is_over (horizon root)) tally told' id in
      let none = nothing (id == root.current.id) in
      omega (arith, parts, none);
  few = omega arith;
  sound = record {
    load = sound.load;
    history = sound.history;
    stands = swept_keep sound.load sound.history root i n sound.stands;
  };
}
  where
    told' : IsTally (first_that n (is_over (horizon root)) (shard root i)) tally
    told' = subst (λ k. IsTally (first_that n (is_over k) (shard root i)) tally) at told

    nothing : (b : Bool) → ◌≡◌ {A = ℕ} (cond b 0 0) 0
    nothing true = refl
    nothing false = refl

-- ---- the root after a migration

module _ (root : Root) (i n moved : ℕ) (tally : List (ℕ × ℕ)) (sound : IsSound root)
    (told : IsTally (first_that n (is_behind root.current.id) (shard root i)) tally)
    (many : moved ≡ min n (count (is_behind root.current.id) (shard root i))) where
  as_many : length (first_that n (is_behind_in root i) root.rows) ≡ moved
  as_many =
      sym (length_gone root i n (is_behind root.current.id) tally told)
      ∙ length-first_that (is_behind root.current.id) n (shard root i) ∙ sym many

  -- all that go carry the current epoch then
  come_counts : (id : ℕ) → count (carries id) (map (renumbered (epochs root) root.current) (first_that n (is_behind_in root i) root.rows))
      ≡ cond (id == root.current.id) moved 0
  come_counts id =
      let f : Row → Row = renumbered (epochs root) root.current in
      let ys : List Row = first_that n (is_behind_in root i) root.rows in
      let each : All (λ r. carries id (f r) ≡ (root.current.id == id)) root.rows =
      All-weaker (IsRowAt (epochs root) root.version) (λ r. carries id (f r) ≡ (root.current.id == id))
      (λ r row. ap (λ k. k == id) (epoch_is (epochs root) root.current r row.fact row.stands)) root.rows sound.stands.rows_are.each in
      let those : All (λ r. carries id (f r) ≡ (root.current.id == id)) ys =
      All-take (λ r. carries id (f r) ≡ (root.current.id == id)) n (filter (is_behind_in root i) root.rows)
      (All-filter (is_behind_in root i) (λ r. carries id (f r) ≡ (root.current.id == id)) root.rows each) in
      count-fixed (carries id) (root.current.id == id) (map f ys) (All-map (λ r. carries id r ≡ (root.current.id == id)) f ys those)
      ∙ ap₂ (λ b m. cond b m 0) (turned root.current.id id) (length-map ys f ∙ as_many)

  after_counts : (id : ℕ) → count (carries id) (migrated root i n).rows + listed id tally
      ≡ count (carries id) root.rows + cond (id == root.current.id) moved 0
  after_counts id =
      let c = count-ordered (carries id) row_cmp (change_first n (is_behind_in root i) (renumbered (epochs root) root.current) root.rows)
      ∙ count_changed (is_behind_in root i) (carries id) (renumbered (epochs root) root.current) n root.rows in
      let parts = gone_parts root i n (is_behind root.current.id) tally told id in
      let come = come_counts id in
      omega (arith, c, parts, come)

  after_length : length (migrated root i n).rows ≡ length root.rows
  after_length =
      length-ordered row_cmp (change_first n (is_behind_in root i) (renumbered (epochs root) root.current) root.rows)
      ∙ length-change_first n (is_behind_in root i) (renumbered (epochs root) root.current) root.rows

  -- none that go carried the current epoch
  none_listed : listed root.current.id tally ≡ 0
  none_listed =
      let id = root.current.id in
      let ys : List Row = first_that n (is_behind id) (shard root i) in
      told.counts id
      ∙ count-fixed (carries id) false ys
      (All-weaker (λ r. is_behind id r ≡ true) (λ r. carries id r ≡ false) (λ r b. not-true (carries id r) b) ys
      (All-take (λ r. is_behind id r ≡ true) n (filter (is_behind id) (shard root i)) (filter_passes (is_behind id) (shard root i))))

  pub migrate_left : (rows current : ℕ) → rows ≡ length root.rows → current ≡ rows_in root root.current
      → (current + moved ≤ rows) × (rows - current - moved ≡ behind (migrated root i n))
  migrate_left rows current all own =
      let id = root.current.id in
      let c = after_counts id in
      let none = none_listed in
      let here = ap {B = ℕ} (λ b. cond b moved 0) (eq-eqb id id refl) in
      let others = count-others (carries id) (migrated root i n).rows in
      let l = after_length in
      (omega (arith, c, none, here, others, l, all, own), omega (arith, c, none, here, others, l, all, own))

  pub migrate_refill : (rows : List Row) → rows ≡ migrated_rows n (epochs root) root.current (shard root i) → IsRefill root i (migrated root i n).rows rows tally moved 0
  migrate_refill rows is = record {
    this_is = shard-migrated root i n ∙ sym is;
    others = migrated_others root i n sound;
    kept = let l = after_length in omega (arith, l);
    fewer = gone_fewer root i n (is_behind root.current.id) tally told;
    counts = after_counts;
    few =
        let all = count_le (is_behind root.current.id) (shard root i) in
        let part = length-filter_le (stands_in root.shards i) root.rows in
        let most = sound.stands.rows_are.kept in
        omega (arith, many, all, part, most);
    sound = record {
      load = sound.load;
      history = sound.history;
      stands = migrated_keep sound.load sound.history root i n sound.stands;
    };
  }

-- what renumber gives of a shard, as a caller sees it
module _ (root : Root) (i n : ℕ) (sound : IsSound root) (es : List Epoch) (es_are : es ≡ epochs root) (to : Frozen) (first : ℕ)
    (is : from_version first to ≡ root.current) (before : List Row) (before_is : before ≡ shard root i) (rows : List Row) (moved : ℕ)
    (tally slice : List (ℕ × ℕ)) (rows_are : (first : ℕ) → rows ≡ migrated_rows n es (from_version first to) before)
    (moved_is : moved ≡ min n (count (is_behind to.id) before)) (tally_is : IsTally (first_that n (is_behind to.id) before) tally)
    (slice_is : slice ≡ tally) where
  own : to.id ≡ root.current.id
  own = ap (λ (e : Epoch). e.id) is

  told : IsTally (first_that n (is_behind root.current.id) (shard root i)) slice
  told =
      subst (IsTally (first_that n (is_behind root.current.id) (shard root i))) (sym slice_is)
      (subst (λ rs. IsTally (first_that n (is_behind root.current.id) rs) tally) before_is
      (subst (λ id. IsTally (first_that n (is_behind id) before) tally) own tally_is))

  many : moved ≡ min n (count (is_behind root.current.id) (shard root i))
  many = moved_is ∙ ap₂ (λ id rs. min n (count (is_behind id) rs)) own before_is

  pub moved_refill : IsRefill root i (migrated root i n).rows rows slice moved 0
  moved_refill =
      migrate_refill root i n moved slice sound told many rows
      (rows_are first ∙ ap₂ (λ fs e. migrated_rows n fs e before) es_are is ∙ ap (migrated_rows n (epochs root) root.current) before_is)

  pub moved_left : (all current : ℕ) → all ≡ length root.rows → current ≡ rows_in root root.current
      → (current + moved ≤ all) × (all - current - moved ≡ behind (migrated root i n))
  moved_left = migrate_left root i n moved slice sound told many

  pub migrated_is : (after : Root) (left : ℕ) → i < root.shards → after ≡ with_rows root (migrated root i n).rows → left ≡ behind (migrated root i n)
      → ◌≡◌ {A = Root × Reply} (after, reply.Migrated moved left) (in_shards root i
      (migrated root i n, reply.Migrated (min n (count (is_behind_in root i) root.rows)) (behind (migrated root i n))))
  migrated_is after left h are left_is =
      ap {B = Root × Reply} (λ r. (r, reply.Migrated moved left)) are
      ∙ ap₂ {C = Root × Reply} (λ m l. (migrated root i n, reply.Migrated m l))
      (many ∙ ap (min n) (sym (count-both (stands_in root.shards i) (is_behind root.current.id) root.rows))) left_is
      ∙ sym (ap (λ b. cond {A = Root × Reply} b (migrated root i n, reply.Migrated (min n (count (is_behind_in root i) root.rows)) (behind (migrated root i n)))
      (root, reply.Refused (NoShard i))) (lt-ltb i root.shards h))

pub swept_refill : (root : Root) (i n h dropped : ℕ) (rows before : List Row) (tally slice : List (ℕ × ℕ)) → IsSound root → before ≡ shard root i
    → h ≡ horizon root → rows ≡ drop_first n (is_over h) before → dropped ≡ min n (count (is_over h) before)
    → IsTally (first_that n (is_over h) before) tally → slice ≡ tally → IsRefill root i (swept root i n).rows rows slice 0 dropped
swept_refill root i n h dropped rows before tally slice sound here at is many told same =
    sweep_refill root i n h dropped rows slice sound at (is ∙ ap (drop_first n (is_over h)) here) (many ∙ ap (λ rs. min n (count (is_over h) rs)) here)
    (subst (IsTally (first_that n (is_over h) (shard root i))) (sym same) (subst (λ rs. IsTally (first_that n (is_over h) rs) tally) here told))

pub swept_is : (root after : Root) (i n h dropped left : ℕ) (rows before : List Row) → before ≡ shard root i → h ≡ horizon root
    → rows ≡ drop_first n (is_over h) before → dropped ≡ min n (count (is_over h) before) → left ≡ count (is_over h) rows
    → i < root.shards → after ≡ with_rows root (swept root i n).rows
    → ◌≡◌ {A = Root × Reply} (after, reply.Swept dropped left) (in_shards root i
    (swept root i n, reply.Swept (min n (count (is_over_in root i) root.rows)) (count (is_over_in root i) (swept root i n).rows)))
swept_is root after i n h dropped left rows before here at is many rest inside are =
    ap {B = Root × Reply} (λ r. (r, reply.Swept dropped left)) are
    ∙ ap₂ {C = Root × Reply} (λ d l. (swept root i n, reply.Swept d l))
    (many ∙ ap₂ (λ k rs. min n (count (is_over k) rs)) at here
    ∙ ap (min n) (sym (count-both (stands_in root.shards i) (is_over (horizon root)) root.rows)))
    (rest ∙ ap₂ (λ k rs. count (is_over k) rs) at
    (is ∙ ap₂ (λ k rs. drop_first n (is_over k) rs) at here ∙ sym (shard-swept root i n))
    ∙ sym (count-both (stands_in root.shards i) (is_over (horizon root)) (swept root i n).rows))
    ∙ sym (ap (λ b. cond {A = Root × Reply} b (
      swept root i n,
      reply.Swept (min n (count (is_over_in root i) root.rows))
          (count (is_over_in root i) (swept root i n).rows),
    ) (root, reply.Refused (NoShard i))) (lt-ltb i root.shards inside))

pub no_shard : (root after : Root) (i : ℕ) (next : Root × Reply) → root.shards ≤ i → after ≡ root
    → ◌≡◌ {A = Root × Reply} (after, reply.Refused (NoShard i)) (in_shards root i next)
no_shard root after i next h same =
    ap {B = Root × Reply} (λ r. (r, reply.Refused (NoShard i))) same
    ∙ sym (ap (λ b. cond {A = Root × Reply} b next (root, reply.Refused (NoShard i))) (le-ltb i root.shards h))
