-- A shard after a commit: rows at the places of facts that go end, and new rows come.
use Rattle.std.proofs.Common.{◌≡◌, ◌↔◌, ℕ, suc, ◌+◌, ◌%◌, ◌<◌, ◌⊎◌, inl, inr, Bool, true, false, not, ◌&&◌, ◌||◌, ◌==◌, List, [], ◌∷◌, ◌++◌, map, length, get_or, slice_get, Some, refl, sym, ap, ap₂, subst, ◌∙◌, append-nil, true≢false, arith}
use Rattle.std.specs.List.{All, Contains, list_any}
use Rattle.std.specs.List.Sorted.{IsStrictlyIncreasing}
use Rattle.std.specs.Ordering.{is_eq, is_gt}
use Rattle.std.proofs.lemmas.Bool.{and_parts, and_from, eq-eqb, eqb-true, not-true}
use Rattle.std.proofs.lemmas.Option.{slice_get_within, slice_get-get_or, same_Some}
use Rattle.std.proofs.lemmas.List.{length-map, get_or_default}
use Rattle.std.proofs.lemmas.List.Elements.{recursion_from_All, filter_passes}
use Rattle.std.proofs.lemmas.Map.Keys.{sorted_from_strictly_increasing}
use Rattle.dl_terms.specs.declared.axiom.Fact.{Fact}
use Rattle.dl_terms.proofs.MemberLemmas.{Contains-nil, Contains-cons, Contains-first, Contains-later, All-Contains}
use Rattle.dl_row.specs.Lists.{ordered, left_from, left_of}
use Rattle.dl_row.specs.Rows.{epoch_of, fact_of, open_end, row_cmp}
use Rattle.dl_row.specs.declared.row.Row.{Row}
use Rattle.dl_row.proofs.CountLemmas.{count-append}
use Rattle.dl_row.proofs.OrderedLemmas.{ordered-same, ordered_determined}
use Rattle.dl_row.proofs.RowLemmas.{rows_linear}
use Rattle.dl_core.specs.Root.{Root, IsRowAt, epochs, shard, stands_in}
use Rattle.dl_core.specs.Next.{IsReady, is_among, ended, ended_at}
use Rattle.dl_core.specs.Held.{IsSound}
use Rattle.dl_core.specs.Changes.{blank, StandsAt, AreGone, IsPlaceIn, with_ended}
use Rattle.dl_core.proofs.ChangeLemmas.{stands_there}
use Rattle.dl_core.proofs.FoundLemmas.{row_end}
use Rattle.dl_edits.proofs.OrderedLemmas.{InOrder-filter}
use Rattle.dl_core.proofs.PinLemmas.{Contains-filter}
use Rattle.dl_core.proofs.PlaceLemmas.{taken_of, taken-read, length-taken_from, count-changed, tell}

any_contains : (places : List ℕ) (k : ℕ) → list_any (λ p. p == k) places ≡ true → Contains places k
any_contains [] k h = cc
any_contains (p ∷ places) k h = by (p == k) refl h (any_contains places k)
  where
    by : (b : Bool) → (p == k) ≡ b → (b || list_any (λ p. p == k) places) ≡ true
        → (list_any (λ p. p == k) places ≡ true → Contains places k)
        → Contains (p ∷ places) k
    by true e h ih = subst (Contains (p ∷ places)) (eqb-true p k e) (Contains-first p places)
    by false e h ih = Contains-later p k places (ih h)

contains_any : (places : List ℕ) (k : ℕ) → Contains places k → list_any (λ p. p == k) places ≡ true
contains_any [] k c = absurd (Contains-nil k c)
contains_any (p ∷ places) k c = by (p == k) refl (Contains-cons p k places c) (contains_any places k)
  where
    by : (b : Bool) → (p == k) ≡ b → (p ≡ k) ⊎ Contains places k
        → (Contains places k → list_any (λ p. p == k) places ≡ true)
        → (b || list_any (λ p. p == k) places) ≡ true
    by true e c ih = refl
    by false e (inl same) ih = absurd (true≢false (sym (eq-eqb p k same) ∙ e))
    by false e (inr later) ih = ih later

same_bool : (a b : Bool) → (a ≡ true → b ≡ true) → (b ≡ true → a ≡ true) → a ≡ b
same_bool true b to from = sym (to refl)
same_bool false true to from = from refl
same_bool false false to from = refl

-- what is left and the places are as many as the rows
pub length-left : (rows : List Row) (places : List ℕ) → IsStrictlyIncreasing places → All (λ p. p < length rows) places
    → length (left_of places rows) + length places ≡ length rows
length-left rows places up inside =
    let taken = taken-read rows blank places (sorted_from_strictly_increasing places up)
    (recursion_from_All (λ p. p < length rows) places inside) in
    let n = ap length taken ∙ length-map places (λ p. get_or rows p blank) in
    let whole = length-taken_from 0 places rows in
    omega (arith, n, whole)

module _ (root : Root) (sound : IsSound root) (ready : IsReady root) (i : ℕ) (gone : List Fact) (places : List ℕ)
    (exact : (p : ℕ) → Contains places p ↔ IsPlaceIn root i gone p) where
  stands_here : (p : ℕ) (s : IsPlaceIn root i gone p) → slice_get (shard root i) p ≡ Some s.stands.row
  stands_here p s = subst (λ n. slice_get (shard root n) p ≡ Some s.stands.row) s.here s.stands.at

  pub places_within : All (λ p. p < length (shard root i)) places
  places_within k d h =
      let s = (exact (get_or places k d)).0 (k, h, default (get_or places k d)) in
      slice_get_within (shard root i) (get_or places k d) s.stands.row (stands_here (get_or places k d) s)
    where
      default : (p : ℕ) → get_or places k p ≡ get_or places k d
      default p = get_or_default places k p d h

  module _ (after : List Fact) (are : AreGone root after gone) where
    -- an open row of a fact that isn't there any more
    abbrev ends : Row → Bool
    ends r = (r.last == open_end) && not (is_among after (fact_of (epochs root) r))

    row_at : (k : ℕ) (d : Row) → k < length (shard root i) → Contains (shard root i) (get_or (shard root i) k d)
    row_at k d h = (k, h, get_or_default (shard root i) k (get_or (shard root i) k d) d h)

    at_place : (k : ℕ) (r : Row) → slice_get (shard root i) k ≡ Some r → Contains places k → ends r ≡ true
    at_place k r at c =
        let s = (exact k).0 c in
        let same = same_Some s.stands.row r (sym (stands_here k s) ∙ at) in
        let out = ((are s.fact).0 s.among).1 in
        subst (λ q. ends q ≡ true) same
        (and_from (s.stands.row.last == open_end) (not (is_among after (fact_of (epochs root) s.stands.row)))
        (eq-eqb s.stands.row.last open_end s.stands.is_open)
        (ap (λ o. not (is_among after o)) s.stands.stands ∙ ap not out))

    of_place : (k : ℕ) (r : Row) → slice_get (shard root i) k ≡ Some r → Contains (shard root i) r → ends r ≡ true
        → Contains places k
    of_place k r at c e =
        let parts = and_parts (r.last == open_end) (not (is_among after (fact_of (epochs root) r))) e in
        let row = All-Contains (IsRowAt (epochs root) root.version) root.rows r sound.stands.rows_are.each
        (Contains-filter (stands_in root.shards i) root.rows r c) in
        let here = ap (λ x. x % root.shards) (sym (row_end r (epoch_of (epochs root) r.epoch) row.fact row.stands))
        ∙ stands_in_is r c in
        let stands : StandsAt root row.fact k = record {
          row = r;
          at = subst (λ n. slice_get (shard root n) k ≡ Some r) (sym here) at;
          is_open = eqb-true r.last open_end parts.0;
          stands = row.stands;
        } in
        (exact k).1 (record {
          fact = row.fact;
          among = (are row.fact).1 (
            stands_there root sound ready row.fact k stands,
            sym (ap (is_among after) row.stands)
                ∙ not-true (is_among after (fact_of (epochs root) r)) parts.1,
          );
          here = here;
          stands = stands;
        })
      where
        stands_in_is : (r : Row) → Contains (shard root i) r → r.s % root.shards ≡ i
        stands_in_is r c =
            eqb-true (r.s % root.shards) i
            (All-Contains (λ r. stands_in root.shards i r ≡ true) (shard root i) r
            (filter_passes (stands_in root.shards i) root.rows) c)

    -- the places tell which rows end
    tells : (k : ℕ) (d : Row) → k < length (shard root i)
        → list_any (λ p. p == 0 + k) places ≡ ends (get_or (shard root i) k d)
    tells k d h =
        ap (λ n. list_any (λ p. p == n) places) (none k)
        ∙ same_bool (list_any (λ p. p == k) places) (ends (get_or (shard root i) k d))
        (λ e. at_place k (get_or (shard root i) k d) (slice_get-get_or (shard root i) k d h) (any_contains places k e))
        (λ e. contains_any places k
        (of_place k (get_or (shard root i) k d) (slice_get-get_or (shard root i) k d h) (row_at k d h) e))
      where
        none : (k : ℕ) → 0 + k ≡ k
        none k = omega arith

    pub shard-with_ended : (version : ℕ) (new : List Row) → IsStrictlyIncreasing places
        → with_ended version places (shard root i) new ≡ ordered row_cmp
        (map (ended (epochs root) after version) (shard root i) ++ new)
    shard-with_ended version new up =
        ap (λ xs. ordered row_cmp (left_of places (shard root i) ++ (xs ++ new)))
        (ended_read (sym (taken-read (shard root i) blank places (sorted_from_strictly_increasing places up)
        (recursion_from_All (λ p. p < length (shard root i)) places places_within))))
        ∙ ordered_determined rows_linear
        (left_of places (shard root i) ++ (map (ended_at version) (taken_of places (shard root i)) ++ new))
        (map (ended (epochs root) after version) (shard root i) ++ new)
        (λ z.
        let p = λ (w : Row). is_eq (row_cmp z w) in
        let a = count-append p (left_of places (shard root i))
        (map (ended_at version) (taken_of places (shard root i)) ++ new) in
        let b = count-append p (map (ended_at version) (taken_of places (shard root i))) new in
        let c = count-append p (map (ended (epochs root) after version) (shard root i)) new in
        let d = count-changed ends (ended_at version) places p 0 (shard root i)
        (tell ends (ended_at version) places 0 (shard root i) tells) in
        omega (arith, a, b, c, d))
      where
        ended_read : {taken : List Row} → map (λ p. get_or (shard root i) p blank) places ≡ taken
            → map (λ p. ended_at version (get_or (shard root i) p blank)) places ≡ map (ended_at version) taken
        ended_read e = map_map places ∙ ap (map (ended_at version)) e
          where
            map_map : (ps : List ℕ)
                → map (λ p. ended_at version (get_or (shard root i) p blank)) ps ≡ map (ended_at version)
                (map (λ p. get_or (shard root i) p blank) ps)
            map_map [] = refl
            map_map (p ∷ ps) = ap (λ rs. ended_at version (get_or (shard root i) p blank) ∷ rs) (map_map ps)

    -- where no row ends and none comes, the shard is as it was
    pub shard-same : (version : ℕ) (new : List Row) → places ≡ [] → new ≡ []
        → shard root i ≡ ordered row_cmp (map (ended (epochs root) after version) (shard root i) ++ new)
    shard-same version new no_place none =
        sym (ordered-same rows_linear (shard root i)
        (InOrder-filter (λ x y. is_gt (row_cmp x y) ≡ false)
        (stands_in root.shards i) root.rows sound.stands.rows_are.ascending))
        ∙ ap (ordered row_cmp)
        (sym (ap₂ (λ ps ns. left_of ps (shard root i) ++
        (map (λ p. ended_at version (get_or (shard root i) p blank)) ps ++ ns)) no_place none
        ∙ append-nil (left_of [] (shard root i)) ∙ all_left 0 (shard root i)))
        ∙ shard-with_ended version new (subst IsStrictlyIncreasing (sym no_place) (λ k h. absurd (omega (arith, h))))
      where
        all_left : (k : ℕ) (xs : List Row) → left_from k [] xs ≡ xs
        all_left k [] = refl
        all_left k (x ∷ xs) = ap (λ ys. x ∷ ys) (all_left (suc k) xs)
