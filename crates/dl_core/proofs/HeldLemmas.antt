-- A root, and the book and shards that are its own.
use Rattle.std.proofs.Common.{IfOk, Result, Ok, Err, ◌≡◌, ℕ, ◌≤◌, ◌-◌, ◌<◌, List, [], ◌∷◌, ◌++◌, map, take, ◌+◌, length, get_or, refl, sym, ap, ap₂, subst, ◌∙◌, suc, ◌%◌, ◌==◌, Bool, true, false, cond, flat_map, arith}
use Rattle.std.specs.List.{All, AllByRecursion, filter}
use Rattle.std.specs.Ordering.{is_gt}
use Rattle.std.proofs.lemmas.Bool.Decides.{nat_tests}
use Rattle.std.proofs.lemmas.List.{get_or-map, length-map, length-append, map-append, take_more}
use Rattle.std.proofs.lemmas.List.Elements.{All-get_or, All-from_get_or}
use Rattle.dl_row.specs.Lists.{Ascends}
use Rattle.dl_row.specs.Rows.{Epoch, row_cmp}
use Rattle.dl_row.specs.declared.row.Row.{Row}
use Rattle.dl_epoch.specs.Frozen.{IsFrozen}
use Rattle.dl_epoch.specs.Covering.{Kept, kept, epoch_in}
use Rattle.dl_epoch.specs.declared.entry.Entry.{Entry}
use Rattle.dl_core.specs.Root.{Root, epochs, shard, stands_in, AreInShards}
use Rattle.dl_core.specs.Held.{before_last, last_of, older_of, current_of, root_over, rows_of, IsBookOf, AreShardsOf, IsHeld, IsSound, CountsRows}
use Rattle.dl_core.specs.Next.{with_pins}
use Rattle.dl_core.specs.declared.book.Book.{Book}
use Rattle.dl_event.specs.declared.pin.Pin.{Pin}
use Rattle.dl_row.specs.Laws.{row_total}
use Rattle.dl_row.proofs.OrderedLemmas.{ordered-ascends}
use Rattle.dl_edits.proofs.OrderedLemmas.{InOrder-filter}
use Rattle.dl_core.proofs.ShardLemmas.{shards_together, shards_determine}

before-push : {A : Type 0} (x : A) (xs : List A) (y : A) → before_last x (xs ++ y ∷ []) ≡ x ∷ xs
before-push x [] y = refl
before-push x (z ∷ xs) y = ap (λ ys. x ∷ ys) (before-push z xs y)

last-push : {A : Type 0} (x : A) (xs : List A) (y : A) → last_of x (xs ++ y ∷ []) ≡ y
last-push x [] y = refl
last-push x (z ∷ xs) y = last-push z xs y

pub older-push : (es : List Epoch) (e : Epoch) → older_of (es ++ e ∷ []) ≡ es
older-push [] e = refl
older-push (d ∷ es) e = before-push d es e

pub current-push : (es : List Epoch) (e : Epoch) → current_of (es ++ e ∷ []) ≡ e
current-push [] e = refl
current-push (d ∷ es) e = last-push d es e

made : ℕ → List Epoch → Epoch → List Pin → ℕ → List Row → Root
made v o c p n r = record { version = v; older = o; current = c; pins = p; shards = n; rows = r }

made_same : {v v' : ℕ} {o o' : List Epoch} {c c' : Epoch} {p p' : List Pin} {n n' : ℕ} {r r' : List Row}
    → v ≡ v' → o ≡ o' → c ≡ c' → p ≡ p' → n ≡ n' → r ≡ r' → made v o c p n r ≡ made v' o' c' p' n' r'
made_same a b c d e f = cc

-- a book and shards that are a root's have this root
pub held_root : (root : Root) (book : Book) (shards : List (List Row)) → IsHeld root book shards → root_over book shards ≡ root
unfolding made
held_root root book shards held =
    made_same held.tells.version
    (ap older_of held.tells.epochs ∙ older-push root.older root.current)
    (ap current_of held.tells.epochs ∙ current-push root.older root.current)
    held.tells.pins held.shards_are.count held.shards_are.rows

-- and they are held as that
pub held_over : (root : Root) (book : Book) (shards : List (List Row)) → IsHeld root book shards → IsHeld (root_over book shards) book shards
held_over root book shards held = subst (λ r. IsHeld r book shards) (sym (held_root root book shards held)) held

-- a shard at its number
pub shard_at : (root : Root) (shards : List (List Row)) (i : ℕ) → AreShardsOf root shards → i < root.shards → get_or shards i [] ≡ shard root i
shard_at root shards i are h =
    sym (shards_together root.shards i shards are.placed (All-get_or (Ascends row_cmp) shards i [] (subst (λ n. i < n) (sym are.count) h) are.ascending))
    ∙ ap (filter (stands_in root.shards i)) are.rows

pub shared_at : {A : Type 0} (value : A → List Row) (root : Root) (shards : List A) (i : ℕ) (a : A) → AreShardsOf root (map value shards) → i < root.shards
    → a ≡ get_or shards i a → value a ≡ shard root i
shared_at value root shards i a are h is =
    ap value is
    ∙ sym (get_or-map value shards i a [] (subst (λ n. i < n) (sym are.count ∙ length-map shards value) h))
    ∙ shard_at root (map value shards) i are h

-- one item more of a list that is copied, as a function of the items sees it
pub copied_more : {A B : Type 0} (f : A → B) (copies xs : List A) (y : A) (i : ℕ) (x : A) → map f copies ≡ map f (take i xs) → i < length xs
    → x ≡ get_or xs i x → f y ≡ f x → map f (copies ++ y ∷ []) ≡ map f (take (i + 1) xs)
copied_more f copies xs y i x so_far h is same =
    map-append f copies (y ∷ [])
    ∙ ap₂ (λ bs b. bs ++ b ∷ []) so_far (same ∙ ap f is)
    ∙ sym (map-append f (take i xs) (get_or xs i x ∷ []))
    ∙ sym (ap (map f) (take_more xs i x h))

-- a root with other pins
pub with_pins_held : (root : Root) (book book' : Book) (shards : List (List Row)) (pins : List Pin) → IsBookOf root book → AreShardsOf root shards
    → IsSound (with_pins root pins) → book'.version ≡ book.version → book'.epochs ≡ book.epochs → book'.pins ≡ pins → book'.rows ≡ book.rows
    → IsHeld (with_pins root pins) book' shards
with_pins_held root book book' shards pins tells are sound v e p r = record {
  tells = record {
    version = v ∙ tells.version;
    epochs = ap (map epoch_in) e ∙ tells.epochs;
    pins = p;
    rows = r ∙ tells.rows;
    counts = subst (All (CountsRows (with_pins root pins))) (sym e) tells.counts;
    frozen = subst (All (λ k. IsFrozen k.epoch)) (sym e) tells.frozen;
  };
  shards_are = record { count = are.count; rows = are.rows; placed = are.placed; ascending = are.ascending };
  sound = sound;
}

-- what is Ok and one value is Ok and another one that is the same
pub ok_is : {A E : Type 0} (r : Result A E) {x y : A} → IfOk r (λ a. a ≡ x) → x ≡ y → IfOk r (λ a. a ≡ y)
ok_is (Ok a) e f = e ∙ f
ok_is (Err e) f g = tt

-- ---- shards that are those of a root, number by number

same_number : (a b : ℕ) → (a == b) ≡ true → a ≡ b
same_number a b h = grind (arith, nat_tests)

own : (n i : ℕ) (rows : List Row) → AllByRecursion (λ r. r.s % n ≡ i) (filter (stands_in n i) rows)
own n i [] = tt
own n i (r ∷ rows) = by (r.s % n == i) refl (own n i rows)
  where
    by : (b : Bool) → (r.s % n == i) ≡ b → AllByRecursion (λ r. r.s % n ≡ i) (filter (stands_in n i) rows)
        → AllByRecursion (λ r. r.s % n ≡ i) (cond b (r ∷ filter (stands_in n i) rows) (filter (stands_in n i) rows))
    by true e ih = (same_number (r.s % n) i e, ih)
    by false e ih = ih

in_shards : (n k : ℕ) (rows : List Row) (shards : List (List Row)) → ((i : ℕ) → i < length shards → get_or shards i [] ≡ filter (stands_in n (k + i)) rows)
    → AreInShards n k shards
in_shards n k rows [] same = tt
in_shards n k rows (s ∷ shards) same = (
  subst (AllByRecursion (λ r. r.s % n ≡ k)) (sym (same 0 (omega arith) ∙ ap (λ j. filter (stands_in n j) rows) (none k))) (own n k rows),
  in_shards n (suc k) rows shards (λ i h. same (suc i) (omega (arith, h)) ∙ ap (λ j. filter (stands_in n j) rows) (shifted k i)),
)
  where
    none : (k : ℕ) → k + 0 ≡ k
    none k = omega arith

    shifted : (k i : ℕ) → k + suc i ≡ suc k + i
    shifted k i = omega arith

pub shards_are : (root : Root) (shards : List (List Row)) → 1 ≤ root.shards → Ascends row_cmp root.rows → length shards ≡ root.shards
    → ((i : ℕ) → i < root.shards → get_or shards i [] ≡ shard root i) → AreShardsOf root shards
shards_are root shards some up n same = record {
  count = n;
  rows =
      shards_determine root.shards (rows_of shards) root.rows some (ordered-ascends row_total (flat_map (λ rows. rows) shards)) up
      (λ i h. shards_together root.shards i shards placed (up_at i h) ∙ same i h);
  placed = placed;
  ascending = All-from_get_or (Ascends row_cmp) shards [] (λ i h. up_at i (subst (λ m. i < m) n h));
}
  where
    placed : AreInShards root.shards 0 shards
    placed = in_shards root.shards 0 root.rows shards (λ i h. same i (subst (λ m. i < m) n h) ∙ ap (λ j. filter (stands_in root.shards j) root.rows) (omega arith))

    up_at : (i : ℕ) → i < root.shards → Ascends row_cmp (get_or shards i [])
    up_at i h = subst (Ascends row_cmp) (sym (same i h)) (InOrder-filter (λ x y. is_gt (row_cmp x y) ≡ false) (stands_in root.shards i) root.rows up)

-- ---- the last entry

-- the last entry of a book has the current epoch, and counts its rows
pub last_entry : (root : Root) (book : Book) (entries : List Entry) (e : Entry) → IsBookOf root book → map kept entries ≡ book.epochs
    → e ≡ get_or entries (length entries - 1) e → (epoch_in (kept e) ≡ root.current) × CountsRows root (kept e) × IsFrozen (kept e).epoch
last_entry root book entries e tells are is = (
  sym (get_or-map epoch_in book.epochs place (kept e) (epoch_in (kept e)) within ∙ ap epoch_in at)
      ∙ ap (λ es. get_or es place (epoch_in (kept e))) tells.epochs
      ∙ ap (λ n. get_or (epochs root) n (epoch_in (kept e))) count
      ∙ last_at root.older root.current (epoch_in (kept e)),
  subst (CountsRows root) at (All-get_or (CountsRows root) book.epochs place (kept e) within tells.counts),
  subst (λ (k : Kept). IsFrozen k.epoch) at (All-get_or (λ k. IsFrozen k.epoch) book.epochs place (kept e) within tells.frozen),
)
  where
    last_at : {A : Type 0} (xs : List A) (x d : A) → get_or (xs ++ x ∷ []) (length xs) d ≡ x
    last_at [] x d = refl
    last_at (y ∷ xs) x d = last_at xs x d

    place : ℕ
    place = length entries - 1

    lengths : length entries ≡ length book.epochs
    lengths = sym (length-map entries kept) ∙ ap length are

    many : length book.epochs ≡ length root.older + 1
    many = sym (length-map book.epochs epoch_in) ∙ ap length tells.epochs ∙ length-append root.older (root.current ∷ [])

    count : place ≡ length root.older
    count = let a = lengths in let b = many in omega (arith, a, b)

    within : place < length book.epochs
    within = let a = lengths in let b = many in omega (arith, a, b)

    at : get_or book.epochs place (kept e) ≡ kept e
    at =
        ap (λ ks. get_or ks place (kept e)) (sym are)
        ∙ get_or-map kept entries place e (kept e) (let a = lengths in let b = many in omega (arith, a, b))
        ∙ ap kept (sym is)
