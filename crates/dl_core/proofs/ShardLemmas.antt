-- A root's one list of rows, and its shards: each event works shard by shard.
use Rattle.std.proofs.Common.{◌≡◌, ℕ, zero, suc, ◌+◌, ◌%◌, ◌≤◌, ◌<◌, Bool, true, false, not, ◌&&◌, cond, ◌==◌, List, [], ◌∷◌, ◌++◌, map, filter, flat_map, get_or, refl, sym, ap, ap₂, ◌∙◌, arith, append-nil, mod-lt}
use Rattle.std.specs.List.{AllByRecursion}
use Rattle.std.specs.declared.cmp.Ordering.{Ordering}
use Rattle.std.specs.Ordering.{is_eq, is_gt}
use Rattle.std.proofs.lemmas.Bool.Decides.{nat_tests}
use Rattle.std.proofs.lemmas.List.Elements.{filter-append}
use Rattle.dl_terms.specs.declared.axiom.Fact.{Fact}
use Rattle.dl_terms.proofs.OrderLemmas.{IsLinear}
use Rattle.dl_row.specs.Lists.{count, ordered, Ascends}
use Rattle.dl_edits.specs.Edits.{edited_facts}
use Rattle.dl_row.specs.Rows.{fact_of, row_cmp, open_end}
use Rattle.dl_core.specs.Root.{Root, epochs, stands_in, shard, AreInShards}
use Rattle.dl_core.specs.Next.{Numbering, is_among, ended, ended_at, row_for, new_facts, root_facts, committed, committed_epoch}
use Rattle.dl_row.specs.declared.row.Row.{Row}
use Rattle.dl_event.specs.declared.event.Edit.{Edit}
use Rattle.dl_row.proofs.CountLemmas.{count-ordered, same_is}
use Rattle.dl_edits.proofs.CountLemmas.{count-filter, count-same}
use Rattle.dl_row.proofs.OrderedLemmas.{ordered-ascends, same_ordered, ordered-same}
use Rattle.dl_row.proofs.RowLemmas.{rows_linear}
use Rattle.dl_edits.proofs.OrderedLemmas.{InOrder-filter}

-- ---- lists in order

module _ {A : Type 0} {cmp : A → A → Ordering} (l : IsLinear cmp) where
  -- a part of a list that is put in order is the part, put in order
  pub filter-ordered : (p : A → Bool) (xs : List A) → filter p (ordered cmp xs) ≡ ordered cmp (filter p xs)
  filter-ordered p xs =
      same_ordered l (filter p (ordered cmp xs)) (ordered cmp (filter p xs))
      (InOrder-filter (λ x y. is_gt (cmp x y) ≡ false) p (ordered cmp xs) (ordered-ascends l.total xs)) (ordered-ascends l.total (filter p xs))
      (λ z. count-filter (λ w. is_eq (cmp z w)) p (ordered cmp xs) ∙ count-ordered (λ w. is_eq (cmp z w) && p w) cmp xs
      ∙ sym (count-ordered (λ w. is_eq (cmp z w)) cmp (filter p xs) ∙ count-filter (λ w. is_eq (cmp z w)) p xs))

pub filter-map : {A B : Type 0} (p : B → Bool) (q : A → Bool) (f : A → B) → ((x : A) → p (f x) ≡ q x) → (xs : List A) → filter p (map f xs) ≡ map f (filter q xs)
filter-map p q f same [] = refl
filter-map {A} {B} p q f same (x ∷ xs) =
    ap₂ (λ b ys. cond b (f x ∷ ys) ys) (same x) (filter-map p q f same xs) ∙ by (q x)
  where
    by : (b : Bool) → cond b (f x ∷ map f (filter q xs)) (map f (filter q xs)) ≡ map f (cond b (x ∷ filter q xs) (filter q xs))
    by true = refl
    by false = refl

-- ---- each event by shards

-- a commit ends rows of each shard and puts the new rows of that shard
pub shard-committed : (numbering : Numbering) (root : Root) (edits : List Edit) (i : ℕ)
    → shard (committed numbering root edits) i
    ≡ ordered row_cmp (map (ended (epochs root) (edited_facts edits (root_facts root)) (root.version + 1)) (shard root i)
    ++ map (row_for (committed_epoch numbering root edits) (root.version + 1))
    (filter (λ f. stands_in root.shards i (row_for (committed_epoch numbering root edits) (root.version + 1) f))
    (new_facts (root_facts root) (edited_facts edits (root_facts root)))))
shard-committed numbering root edits i =
    filter-ordered rows_linear p (map end root.rows ++ map new facts)
    ∙ ap (ordered row_cmp) (filter-append p (map end root.rows) (map new facts)
    ∙ ap₂ (λ a b. a ++ b) (filter-map p p end same root.rows) (filter-map p (λ f. p (new f)) new (λ f. refl) facts))
  where
    p : Row → Bool
    p = stands_in root.shards i

    end : Row → Row
    end = ended (epochs root) (edited_facts edits (root_facts root)) (root.version + 1)

    new : Fact → Row
    new = row_for (committed_epoch numbering root edits) (root.version + 1)

    facts : List Fact
    facts = new_facts (root_facts root) (edited_facts edits (root_facts root))

    same : (r : Row) → p (end r) ≡ p r
    same r = by (r.last == open_end && not (is_among (edited_facts edits (root_facts root)) (fact_of (epochs root) r)))
      where
        by : (b : Bool) → p (cond b (ended_at (root.version + 1) r) r) ≡ p r
        by true = refl
        by false = refl

-- ---- shards put together

none_in : (n i k : ℕ) (xs : List Row) → AllByRecursion (λ r. r.s % n ≡ k) xs → (i ≡ k → ⊥) → filter (stands_in n i) xs ≡ []
none_in n i k [] all other = refl
none_in n i k (r ∷ xs) all other = ap (λ b. cond b (r ∷ filter (stands_in n i) xs) (filter (stands_in n i) xs)) (not_this (r.s % n) all.0) ∙ none_in n i k xs all.1 other
  where
    is : (a b : ℕ) → (a == b) ≡ true → a ≡ b
    is a b h = grind (arith, nat_tests)

    not_this : (m : ℕ) → m ≡ k → (m == i) ≡ false
    not_this m e = by (m == i) refl
      where
        by : (b : Bool) → (m == i) ≡ b → b ≡ false
        by true h = absurd (other (sym (is m i h) ∙ e))
        by false h = refl

all_in : (n i : ℕ) (xs : List Row) → AllByRecursion (λ r. r.s % n ≡ i) xs → filter (stands_in n i) xs ≡ xs
all_in n i [] all = refl
all_in n i (r ∷ xs) all = ap₂ (λ b ys. cond b (r ∷ ys) ys) (this (r.s % n) all.0) (all_in n i xs all.1)
  where
    this : (m : ℕ) → m ≡ i → (m == i) ≡ true
    this m e = grind (arith, nat_tests)

none_before : (n i k : ℕ) (shards : List (List Row)) → AreInShards n k shards → i < k → filter (stands_in n i) (flat_map (λ s. s) shards) ≡ []
none_before n i k [] are h = refl
none_before n i k (s ∷ shards) are h =
    filter-append (stands_in n i) s (flat_map (λ s. s) shards)
    ∙ ap₂ (λ a b. a ++ b) (none_in n i k s are.0 (λ e. omega (arith, h, e))) (none_before n i (suc k) shards are.1 (omega (arith, h)))

part_of_shards : (n i k : ℕ) (shards : List (List Row)) → AreInShards n k shards → filter (stands_in n (k + i)) (flat_map (λ s. s) shards) ≡ get_or shards i []
part_of_shards n i k [] are = refl
part_of_shards n zero k (s ∷ shards) are =
    filter-append (stands_in n (k + 0)) s (flat_map (λ s. s) shards)
    ∙ ap₂ (λ a b. a ++ b) (ap (λ j. filter (stands_in n j) s) (plus_none k) ∙ all_in n k s are.0) (none_before n (k + 0) (suc k) shards are.1 (omega arith))
    ∙ append-nil s
  where
    plus_none : (n : ℕ) → n + 0 ≡ n
    plus_none n = omega arith
part_of_shards n (suc i) k (s ∷ shards) are =
    filter-append (stands_in n (k + suc i)) s (flat_map (λ s. s) shards)
    ∙ ap₂ (λ a b. a ++ b) (none_in n (k + suc i) k s are.0 (λ e. omega (arith, e)))
    (ap (λ j. filter (stands_in n j) (flat_map (λ s. s) shards)) (shifted k i) ∙ part_of_shards n i (suc k) shards are.1)
  where
    shifted : (k i : ℕ) → k + suc i ≡ suc k + i
    shifted k i = omega arith

-- of shards that ascend and have their own rows, the rows put together have these shards
pub shards_together : (n i : ℕ) (shards : List (List Row)) → AreInShards n 0 shards → Ascends row_cmp (get_or shards i [])
    → filter (stands_in n i) (ordered row_cmp (flat_map (λ s. s) shards)) ≡ get_or shards i []
shards_together n i shards are up =
    filter-ordered rows_linear (stands_in n i) (flat_map (λ s. s) shards)
    ∙ ap (ordered row_cmp) (ap (λ j. filter (stands_in n j) (flat_map (λ s. s) shards)) (none_plus i) ∙ part_of_shards n i 0 shards are)
    ∙ ordered-same rows_linear (get_or shards i []) up
  where
    none_plus : (n : ℕ) → n ≡ 0 + n
    none_plus n = omega arith

-- two lists in order with the same shards are the same
pub shards_determine : (n : ℕ) (xs ys : List Row) → 1 ≤ n → Ascends row_cmp xs → Ascends row_cmp ys
    → ((i : ℕ) → i < n → filter (stands_in n i) xs ≡ filter (stands_in n i) ys) → xs ≡ ys
shards_determine n xs ys some up up' same = same_ordered rows_linear xs ys up up' (λ z. own z xs ∙ ap (count (λ w. is_eq (row_cmp z w))) (same (z.s % n) (mod-lt z.s some)) ∙ sym (own z ys))
  where
    this : (m : ℕ) → (m == m) ≡ true
    this m = grind (arith, nat_tests)

    at : (z w : Row) (b : Bool) → is_eq (row_cmp z w) ≡ b → b ≡ (b && stands_in n (z.s % n) w)
    at z w true e = sym (ap (stands_in n (z.s % n)) (sym (same_is rows_linear z w e)) ∙ this (z.s % n))
    at z w false e = refl

    own : (z : Row) (xs : List Row) → count (λ w. is_eq (row_cmp z w)) xs ≡ count (λ w. is_eq (row_cmp z w)) (filter (stands_in n (z.s % n)) xs)
    own z xs =
        count-same (λ w. is_eq (row_cmp z w)) (λ w. is_eq (row_cmp z w) && stands_in n (z.s % n) w) xs (λ w. at z w (is_eq (row_cmp z w)) refl)
        ∙ sym (count-filter (λ w. is_eq (row_cmp z w)) (stands_in n (z.s % n)) xs)
