-- What a look counts and shows: rows of all shards, the first visible ones, and the names of an epoch.
use Rattle.std.proofs.Common.{◌≡◌, ℕ, zero, suc, ◌+◌, ◌-◌, ◌≤◌, ◌<◌, Bool, true, false, not, cond, List, [], ◌∷◌, ◌++◌, map, filter, flat_map, length, take, drop, get_or, slice_get, Some, refl, sym, ap, subst, ◌∙◌, arith, Fits, w32, w64}
use Rattle.std.specs.List.{All, AllByRecursion}
use Rattle.std.specs.declared.cmp.Ordering.{Ordering}
use Rattle.std.specs.Ordering.{nat_cmp, is_eq, is_gt}
use Rattle.std.specs.List.Sorted.{IsPermutation, IsSorted}
use Rattle.std.proofs.Math.Seq.{take-append_seam}
use Rattle.std.proofs.lemmas.List.{take_more, take-append-drop, length-map, length-append, get_or-map}
use Rattle.std.proofs.lemmas.List.Elements.{filter-append, All-get_or}
use Rattle.std.proofs.lemmas.List.Folds.{length-flat_map-take, flat_map-map}
use Rattle.std.proofs.lemmas.Option.{slice_get_within, get_or_from_slice_get}
use Rattle.dl_terms.proofs.OrderLemmas.{IsLinear, numbers_linear}
use Rattle.dl_normal.proofs.RowLemmas.{flat_map-more}
use Rattle.dl_hier.specs.Predicates.{max_predicates}
use Rattle.dl_row.specs.Lists.{count, put, ordered, InOrder, Ascends}
use Rattle.dl_row.specs.Rows.{Epoch, row_cmp, visible}
use Rattle.dl_row.specs.Shards.{max_rows}
use Rattle.dl_row.specs.declared.row.Row.{Row}
use Rattle.dl_row.proofs.CountLemmas.{count-append, count-ordered}
use Rattle.dl_row.proofs.OrderedLemmas.{length-ordered, ordered-same, ordered_determined, sorted_is_ordered}
use Rattle.dl_row.proofs.RowLemmas.{rows_linear}
use Rattle.dl_epoch.specs.Frozen.{Frozen, from_version}
use Rattle.dl_epoch.specs.Covering.{Kept, kept, epoch_in}
use Rattle.dl_epoch.specs.declared.entry.Entry.{Entry}
use Rattle.dl_edits.specs.Sets.{has, IsOnce}
use Rattle.dl_core.specs.Root.{Root, IsNumbered, epochs}
use Rattle.dl_migrate.specs.Tallies.{carries}
use Rattle.dl_edits.specs.Names.{predicates}
use Rattle.dl_core.specs.Next.{behind, looked}
use Rattle.dl_core.specs.Held.{AreShardsOf, IsBookOf, IsSound, CountsRows}
use Rattle.dl_core.specs.declared.book.Book.{Book}
use Rattle.dl_event.specs.declared.reply.Looked.{Looked}
use Rattle.dl_event.specs.declared.reply.Reply.TheVariants as reply
use Rattle.dl_edits.proofs.CountLemmas.{count_once}
use Rattle.dl_core.proofs.EpochLemmas.{current_numbered}
use Rattle.dl_core.proofs.ShardLemmas.{filter-ordered}

-- ---- one item more

taken_more : {A : Type 0} (xs : List A) (i : ℕ) (x : A) → slice_get xs i ≡ Some x → take (i + 1) xs ≡ take i xs ++ x ∷ []
taken_more xs i x is =
    take_more xs i x (slice_get_within xs i x is) ∙ ap (λ y. take i xs ++ y ∷ []) (get_or_from_slice_get xs i x x is)

pub count-more : {A : Type 0} (p : A → Bool) (xs : List A) (i : ℕ) (x : A) → slice_get xs i ≡ Some x
    → count p (take (i + 1) xs) ≡ count p (take i xs) + cond (p x) 1 0
count-more p xs i x is =
    ap (count p) (taken_more xs i x is) ∙ count-append p (take i xs) (x ∷ []) ∙ none (count p (take i xs)) (cond (p x) 1 0)
  where
    none : (m n : ℕ) → m + (n + 0) ≡ m + n
    none m n = omega arith

pub filter-more : {A : Type 0} (p : A → Bool) (xs : List A) (i : ℕ) (x : A) → slice_get xs i ≡ Some x
    → filter p (take (i + 1) xs) ≡ filter p (take i xs) ++ cond (p x) (x ∷ []) []
filter-more p xs i x is = ap (filter p) (taken_more xs i x is) ∙ filter-append p (take i xs) (x ∷ [])

pub count_le : {A : Type 0} (p : A → Bool) (xs : List A) → count p xs ≤ length xs
count_le p [] = omega arith
count_le p (x ∷ xs) = by (p x) (count_le p xs)
  where
    by : (b : Bool) → count p xs ≤ length xs → cond b 1 0 + count p xs ≤ suc (length xs)
    by true h = omega (arith, h)
    by false h = omega (arith, h)

-- what doesn't pass counts for the rest
pub count-others : {A : Type 0} (p : A → Bool) (xs : List A) → count (λ x. not (p x)) xs + count p xs ≡ length xs
count-others p [] = refl
count-others p (x ∷ xs) = by (p x) (count-others p xs)
  where
    by : (b : Bool) → count (λ x. not (p x)) xs + count p xs ≡ length xs
        → (cond (not b) 1 0 + count (λ x. not (p x)) xs) + (cond b 1 0 + count p xs) ≡ suc (length xs)
    by true h = omega (arith, h)
    by false h = omega (arith, h)

-- ---- over shards

module _ {A : Type 0} (value : A → List Row) (shards : List A) where
  pub shards_more : (i : ℕ) (a : A) → i < length shards → a ≡ get_or shards i a
      → flat_map value (take (i + 1) shards) ≡ flat_map value (take i shards) ++ value a
  shards_more i a h is = flat_map-more value shards i a h ∙ ap (λ b. flat_map value (take i shards) ++ value b) (sym is)

  pub count-shards_more : (p : Row → Bool) (i : ℕ) (a : A) → i < length shards → a ≡ get_or shards i a
      → count p (flat_map value (take (i + 1) shards)) ≡ count p (flat_map value (take i shards)) + count p (value a)
  count-shards_more p i a h is = ap (count p) (shards_more i a h is) ∙ count-append p (flat_map value (take i shards)) (value a)

  pub counts_fit : (p : Row → Bool) (i : ℕ) (a : A) → i < length shards → a ≡ get_or shards i a
      → count p (flat_map value (take i shards)) + count p (value a) ≤ length (flat_map value shards)
  counts_fit p i a h is =
      let all = length-flat_map-take value shards i a h in
      let here = ap (λ b. length (value b)) is in
      let before = count_le p (flat_map value (take i shards)) in
      let this = count_le p (value a) in
      omega (arith, all, here, before, this)

  pub shard_up : (i : ℕ) (a : A) → i < length shards → a ≡ get_or shards i a → All (Ascends row_cmp) (map value shards) → Ascends row_cmp (value a)
  shard_up i a h is up =
      subst (Ascends row_cmp) (get_or-map value shards i a [] h ∙ ap value (sym is))
      (All-get_or (Ascends row_cmp) (map value shards) i [] (let n = length-map shards value in omega (arith, n, h)) up)

  -- the rows of the shards, one shard after the other, are those of the root in another order
  pub shards_rows : (root : Root) → AreShardsOf root (map value shards) → ordered row_cmp (flat_map value shards) ≡ root.rows
  shards_rows root are = ap (ordered row_cmp) (sym (flat_map-map (λ rows. rows) value shards)) ∙ are.rows

  pub shards_length : (root : Root) → AreShardsOf root (map value shards) → length (flat_map value shards) ≡ length root.rows
  shards_length root are = sym (length-ordered row_cmp (flat_map value shards)) ∙ ap length (shards_rows root are)

  pub shards_count : (p : Row → Bool) (root : Root) → AreShardsOf root (map value shards) → count p (flat_map value shards) ≡ count p root.rows
  shards_count p root are = sym (count-ordered p row_cmp (flat_map value shards)) ∙ ap (count p) (shards_rows root are)

-- ---- the first items of lists in order

take_less : {A : Type 0} (n : ℕ) (xs : List A) → take n xs ≡ take n (take (suc n) xs)
take_less zero xs = refl
take_less (suc n) [] = refl
take_less (suc n) (x ∷ xs) = ap (λ ys. x ∷ ys) (take_less n xs)

take_twice : {A : Type 0} (n : ℕ) (xs : List A) → take n (take n xs) ≡ take n xs
take_twice zero xs = refl
take_twice (suc n) [] = refl
take_twice (suc n) (x ∷ xs) = ap (λ ys. x ∷ ys) (take_twice n xs)

each-take : {A : Type 0} (P : A → Type 0) (n : ℕ) (xs : List A) → AllByRecursion P xs → AllByRecursion P (take n xs)
each-take P zero xs all = tt
each-take P (suc n) [] all = tt
each-take P (suc n) (x ∷ xs) all = (all.0, each-take P n xs all.1)

InOrder-take : {A : Type 0} (R : A → A → Type 0) (n : ℕ) (xs : List A) → InOrder R xs → InOrder R (take n xs)
InOrder-take R zero xs all = tt
InOrder-take R (suc n) [] all = tt
InOrder-take R (suc n) (x ∷ xs) all = (each-take (R x) n xs all.0, InOrder-take R n xs all.1)

module _ {A : Type 0} {cmp : A → A → Ordering} (l : IsLinear cmp) where
  -- the first items after one is put depend on the first items before
  take-put : (n : ℕ) (x : A) (ys : List A) → take n (put cmp x ys) ≡ take n (put cmp x (take n ys))
  take-put zero x ys = refl
  take-put (suc n) x [] = refl
  take-put (suc n) x (y ∷ ys) = by (is_gt (cmp x y)) (take-put n x ys)
    where
      again : (n : ℕ) → take n (y ∷ ys) ≡ take n (y ∷ take n ys)
      again zero = refl
      again (suc n) = ap (λ zs. y ∷ zs) (take_less n ys)

      by : (b : Bool) → take n (put cmp x ys) ≡ take n (put cmp x (take n ys))
          → take (suc n) (cond b (y ∷ put cmp x ys) (x ∷ y ∷ ys)) ≡ take (suc n) (cond b (y ∷ put cmp x (take n ys)) (x ∷ y ∷ take n ys))
      by true ih = ap (λ zs. y ∷ zs) ih
      by false ih = ap (λ zs. x ∷ zs) (again n)

  same_first : (n : ℕ) (zs xs ys : List A) → take n (ordered cmp xs) ≡ take n (ordered cmp ys)
      → take n (ordered cmp (zs ++ xs)) ≡ take n (ordered cmp (zs ++ ys))
  same_first n [] xs ys e = e
  same_first n (z ∷ zs) xs ys e =
      take-put n z (ordered cmp (zs ++ xs)) ∙ ap (λ ws. take n (put cmp z ws)) (same_first n zs xs ys e) ∙ sym (take-put n z (ordered cmp (zs ++ ys)))

  first_alone : (n : ℕ) (xs : List A) → Ascends cmp xs → take n (ordered cmp (take n xs)) ≡ take n (ordered cmp xs)
  first_alone n xs up =
      ap (take n) (ordered-same l (take n xs) (InOrder-take (λ x y. is_gt (cmp x y) ≡ false) n xs up))
      ∙ take_twice n xs
      ∙ sym (ap (take n) (ordered-same l xs up))

  swapped : (xs ys : List A) → ordered cmp (xs ++ ys) ≡ ordered cmp (ys ++ xs)
  swapped xs ys =
      ordered_determined l (xs ++ ys) (ys ++ xs)
      (λ z. (let a = count-append (λ w. is_eq (cmp z w)) xs ys in
      let b = count-append (λ w. is_eq (cmp z w)) ys xs in
      omega (arith, a, b)))

  -- of a list in order, its first items are enough to find the first ones of it and others
  pub first_more : (n : ℕ) (some all xs : List A) → Ascends cmp xs → take n (ordered cmp some) ≡ take n (ordered cmp all)
      → take n (ordered cmp (some ++ take n xs)) ≡ take n (ordered cmp (all ++ xs))
  first_more n some all xs up e =
      same_first n some (take n xs) xs (first_alone n xs up)
      ∙ ap (take n) (swapped some xs)
      ∙ same_first n xs some all e
      ∙ ap (take n) (swapped xs all)

-- the items that pass so far are the first that pass
pub passed_first : {A : Type 0} (p : A → Bool) (xs : List A) (i n : ℕ) → length (filter p (take i xs)) ≡ n → take n (filter p xs) ≡ filter p (take i xs)
passed_first p xs i n e =
    ap (λ m. take m (filter p xs)) (sym e)
    ∙ ap (take (length (filter p (take i xs)))) (sym (ap (filter p) (take-append-drop i xs)) ∙ filter-append p (take i xs) (drop i xs))
    ∙ take-append_seam (filter p (take i xs)) (filter p (drop i xs))

-- ---- the names of an epoch

same_names : (xs ys : List ℕ) → IsOnce nat_cmp xs → IsOnce nat_cmp ys → ((n : ℕ) → has nat_cmp xs n ≡ has nat_cmp ys n) → length xs ≡ length ys
same_names xs ys once once' same =
    sym (length-ordered nat_cmp xs)
    ∙ ap length (ordered_determined numbers_linear xs ys (λ z. count_once nat_cmp xs once z ∙ ap (λ b. cond b 1 0) (same z) ∙ sym (count_once nat_cmp ys once' z)))
    ∙ length-ordered nat_cmp ys

pub as_many_classes : (e : Epoch) → IsNumbered e → length e.classes ≡ length e.signature.classes
as_many_classes e is = same_names e.classes e.signature.classes is.classes_once is.signature.classes is.classes

pub as_many_roles : (e : Epoch) → IsNumbered e → length e.roles ≡ length e.signature.roles
as_many_roles e is = same_names e.roles e.signature.roles is.roles_once is.signature.roles is.roles

-- a count of rows is small
pub small : {n : ℕ} → n ≤ max_rows → Fits w64 n
small h = omega arith

-- a list that isn't longer has no more than its first items
pub take_all : {A : Type 0} (n : ℕ) (xs : List A) → length xs ≤ n → take n xs ≡ xs
take_all {A} n [] h = none n
  where
    none : (n : ℕ) → take {A = A} n [] ≡ []
    none zero = refl
    none (suc n) = refl
take_all zero (x ∷ xs) h = absurd (omega arith)
take_all (suc n) (x ∷ xs) h = ap (λ ys. x ∷ ys) (take_all n xs (omega (arith, h)))

-- rows that were found, sorted and cut
pub found_cut : (p : Row → Bool) (n : ℕ) (found sorted cut all : List Row) → IsPermutation found sorted → IsSorted row_cmp sorted
    → take n (ordered row_cmp found) ≡ take n (ordered row_cmp (filter p all)) → cut ≡ take n sorted → cut ≡ take n (filter p (ordered row_cmp all))
found_cut p n found sorted cut all moved up e is =
    is
    ∙ ap (take n) (sorted_is_ordered rows_linear found sorted moved up)
    ∙ e
    ∙ sym (ap (take n) (filter-ordered rows_linear p all))

-- ---- what a look shows of a root that stands for a history

last_of_all : {A : Type 0} (P : A → Type 0) (xs : List A) (x : A) → All P (xs ++ x ∷ []) → P x
last_of_all P xs x all =
    subst P (last_at xs x)
    (All-get_or P (xs ++ x ∷ []) (length xs) x (let n = length-append xs (x ∷ []) in omega (arith, n)) all)
  where
    last_at : {A : Type 0} (xs : List A) (x : A) → get_or (xs ++ x ∷ []) (length xs) x ≡ x
    last_at [] x = refl
    last_at (y ∷ xs) x = last_at xs x

module _ (root : Root) (sound : IsSound root) where
  numbered : IsNumbered root.current
  numbered = current_numbered root.older root.current root.version sound.stands.epochs_are

  few_names : predicates root.current.axioms root.current.signature ≤ max_predicates
  few_names = last_of_all (λ e. predicates e.axioms e.signature ≤ max_predicates) root.older root.current sound.stands.epochs_are.predicates

  module _ (first : ℕ) (e : Frozen) (is : from_version first e ≡ root.current) where
    pub classes_fit : (length e.classes ≡ length e.signature.classes) × (length e.classes ≤ max_predicates)
    classes_fit =
        subst (λ (d : Epoch). (length d.classes ≡ length d.signature.classes) × (length d.classes ≤ max_predicates)) (sym is)
        (as_many_classes root.current numbered, (let n = as_many_classes root.current numbered in let f = few_names in omega (arith, n, f)))

    pub roles_fit : (length e.roles ≡ length e.signature.roles) × (length e.roles ≤ max_predicates)
    roles_fit =
        subst (λ (d : Epoch). (length d.roles ≡ length d.signature.roles) × (length d.roles ≤ max_predicates)) (sym is)
        (as_many_roles root.current numbered, (let n = as_many_roles root.current numbered in let f = few_names in omega (arith, n, f)))

  pub entries_fit : (n : ℕ) → n ≡ length (epochs root) → Fits w32 n
  entries_fit n e = let h = sound.stands.epochs_are.kept in omega (arith, e, h)

  pub rows_fit : {A : Type 0} (value : A → List Row) (shards : List A) → AreShardsOf root (map value shards) → length (flat_map value shards) ≤ max_rows
  rows_fit value shards are = let n = shards_length value shards root are in let h = sound.stands.rows_are.kept in omega (arith, n, h)

pub count_entries : (root : Root) (book : Book) (entries : List Entry) → IsBookOf root book → map kept entries ≡ book.epochs → length entries ≡ length (epochs root)
count_entries root book entries tells are =
    sym (length-map entries kept) ∙ ap length are ∙ sym (length-map book.epochs epoch_in) ∙ ap length tells.epochs

pub rows_in_le : (root : Root) (e : Kept) (rows : ℕ) → CountsRows root e → rows ≡ length root.rows → e.rows ≤ rows
rows_in_le root e rows counts all = let h = count_le (carries (epoch_in e).id) root.rows in omega (arith, counts, all, h)

pub behind_is : (root : Root) (e : Kept) (rows : ℕ) → CountsRows root e → epoch_in e ≡ root.current → rows ≡ length root.rows → rows - e.rows ≡ behind root
behind_is root e rows counts is all =
    let h = count-others (carries root.current.id) root.rows in
    let c : e.rows ≡ count (carries root.current.id) root.rows = counts ∙ ap (λ (d : Epoch). count (carries d.id) root.rows) is in
    omega (arith, h, c, all)

shown : ℕ → ℕ → ℕ → ℕ → ℕ → ℕ → List ℕ → List ℕ → List Row → Looked
shown version epoch epochs kept visible behind classes roles rows = record {
  version = version;
  epoch = epoch;
  epochs = epochs;
  kept = kept;
  visible = visible;
  behind = behind;
  classes = classes;
  roles = roles;
  rows = rows;
}

shown_same : {a a' b b' c c' d d' e e' f f' : ℕ} {g g' h h' : List ℕ} {i i' : List Row}
    → a ≡ a' → b ≡ b' → c ≡ c' → d ≡ d' → e ≡ e' → f ≡ f' → g ≡ g' → h ≡ h' → i ≡ i' → shown a b c d e f g h i ≡ shown a' b' c' d' e' f' g' h' i'
shown_same a b c d e f g h i = cc

pub looked_is : (root : Root) (n : ℕ) (l : Looked) → l.version ≡ root.version → l.epoch ≡ root.current.id → l.epochs ≡ length (epochs root) → l.kept ≡ length root.rows
    → l.visible ≡ count (visible root.version) root.rows → l.behind ≡ behind root → l.classes ≡ root.current.classes → l.roles ≡ root.current.roles
    → l.rows ≡ take n (filter (visible root.version) root.rows) → reply.Looked l ≡ looked root n
unfolding shown
looked_is root n l a b c d e f g h i = ap reply.Looked (shown_same a b c d e f g h i)
